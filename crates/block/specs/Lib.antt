pub mod Typed
pub mod ReadBack
