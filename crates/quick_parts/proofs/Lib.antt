pub mod LongLaws
pub mod OperandLaws
pub mod StoreLaws
