pub mod Slot
pub mod Sizes
pub mod Survey
pub mod Making
pub mod Store
