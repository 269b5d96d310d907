pub mod Rules
pub mod Meaning
pub mod Recordings
pub mod TapeLaws
