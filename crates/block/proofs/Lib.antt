pub mod ReadLoops
pub mod StoreLoops
