pub mod Moves
pub mod Writes
pub mod Surveying
pub mod Stores
pub mod Accesses
