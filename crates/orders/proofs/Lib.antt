pub mod Blocks
pub mod Quadrants
pub mod Digits
pub mod Bits
