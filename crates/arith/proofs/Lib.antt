pub mod LongLaws
pub mod ShiftLaws
pub mod MultiplyLaws
pub mod DivideLaws
pub mod WordDivideLaws
