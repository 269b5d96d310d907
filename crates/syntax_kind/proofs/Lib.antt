pub mod Entries
pub mod Meaning
pub mod Steps
pub mod Computed
