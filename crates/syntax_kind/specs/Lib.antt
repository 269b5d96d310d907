pub mod Refusals
pub mod Trivia
pub mod Editions
pub mod Keywords
pub mod Named
pub mod Tables
