pub mod EightByEight
pub mod Branch
pub mod Readout
pub mod SlotRows
