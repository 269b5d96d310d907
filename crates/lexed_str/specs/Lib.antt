pub mod Refusals
pub mod Columns
pub mod Offering
pub mod Judging
pub mod Reading
