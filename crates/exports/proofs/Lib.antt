pub mod Standings
pub mod Tallied
pub mod Searching
