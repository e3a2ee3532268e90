pub mod ControlAddress
pub mod Words
