pub mod Asked
pub mod Numbers
pub mod Texts
pub mod Transcript
