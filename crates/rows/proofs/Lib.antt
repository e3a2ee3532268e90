pub mod DecodeLaws
pub mod LentLaws
