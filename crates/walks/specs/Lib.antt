pub mod Pending
pub mod Visits
pub mod Scans
