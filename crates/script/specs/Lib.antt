pub mod Sequences
pub mod Utf8Table
pub mod WhiteTable
pub mod Admission
pub mod Places
