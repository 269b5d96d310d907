pub mod Grammar
pub mod Comments
pub mod Reading
pub mod Classes
pub mod Tokens
pub mod ScannerLaws
