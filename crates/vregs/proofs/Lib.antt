pub mod Allocations
pub mod Allotted
pub mod Chains
pub mod Filing
pub mod Outcomes
pub mod Places
pub mod Scans
pub mod Walk
