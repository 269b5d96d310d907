pub mod Cuts
pub mod Keys
