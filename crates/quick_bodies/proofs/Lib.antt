pub mod LoadLaws
pub mod ManyLaws
