pub mod Changes
pub mod UnitKept
