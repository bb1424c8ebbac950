pub mod Pigeons
pub mod Links
pub mod Frees
pub mod Rising
pub mod Peeks
