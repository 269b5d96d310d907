pub mod Commands
pub mod Reports
pub mod Texts
