pub mod Boxes
pub mod Eight
pub mod Accepting
pub mod Branches
pub mod Readouts
