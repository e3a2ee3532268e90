pub mod Effects
pub mod PlaceLaws
pub mod Near
