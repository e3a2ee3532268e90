pub mod FileLaws
pub mod PrintLaws
