pub mod Characters
pub mod Ends
