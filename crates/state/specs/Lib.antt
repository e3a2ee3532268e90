pub mod AdmittedLaws
pub mod MaskLaws
pub mod FirstLaws
pub mod ReplyLaws
