pub mod HeadLaws
pub mod Texts
pub mod TextLaws
