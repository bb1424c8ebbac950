pub mod Cuts
pub mod Turns
pub mod Goods
pub mod Rooms
pub mod Fills
pub mod Skips
pub mod Histories
