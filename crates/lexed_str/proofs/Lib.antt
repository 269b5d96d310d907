pub mod Below
pub mod Accepted
pub mod Judges
pub mod Starts
pub mod Errors
