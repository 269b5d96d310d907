pub mod Searched
pub mod Closing
pub mod Stages
pub mod Words
pub mod Openings
pub mod Right
pub mod Places
pub mod Parses
