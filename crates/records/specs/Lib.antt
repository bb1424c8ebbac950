pub mod Chain
pub mod Free
pub mod Tray
