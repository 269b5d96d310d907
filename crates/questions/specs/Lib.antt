pub mod Decimal
pub mod Hex
pub mod Lines
pub mod Places
pub mod Refusals
