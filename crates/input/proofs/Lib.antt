pub mod Bits
pub mod Marked
pub mod Kept
pub mod Building
pub mod Reading
