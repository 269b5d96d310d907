pub mod Halves
pub mod Firsts
