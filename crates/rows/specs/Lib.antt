pub mod TableLaws
pub mod RowLaws
pub mod Top
pub mod TopLaws
