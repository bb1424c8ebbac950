mod ChildVisits
mod Judging
mod ScanLoop
mod ScanEnd
pub mod AfterScan
