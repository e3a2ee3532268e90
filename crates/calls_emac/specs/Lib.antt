pub mod CallsKept
pub mod Refused
