pub mod Refusals
pub mod Accesses
