pub mod Texts
pub mod LineEndLaws
