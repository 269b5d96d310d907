pub mod Runs
pub mod Joins
pub mod Tables
pub mod Judges
pub mod Bounds
