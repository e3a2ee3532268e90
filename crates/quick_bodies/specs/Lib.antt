pub mod Many
pub mod Parts
pub mod Units
pub mod UnitLaws
