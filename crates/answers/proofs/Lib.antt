pub mod Hexes
pub mod Carrying
pub mod Running
pub mod Events
pub mod Enough
