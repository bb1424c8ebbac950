pub mod Batches
pub mod Standing
