pub mod Asked
pub mod Patches
pub mod Sums
