pub mod MoveLaws
pub mod MoveLines
