pub mod Refusals
pub mod Spaces
pub mod Interleave
pub mod Rules
pub mod Orders
pub mod Interleaved
pub mod Laws
pub mod Schedules
