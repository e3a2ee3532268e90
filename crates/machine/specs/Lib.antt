pub mod KeptLaws
pub mod Completed
pub mod Advance
pub mod Turn
