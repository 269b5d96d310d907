pub mod Counts
pub mod Lookups
pub mod Parts
pub mod Judges
pub mod Spellings
