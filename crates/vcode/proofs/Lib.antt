pub mod Calls
pub mod Ends
pub mod Outcomes
pub mod Pushed
pub mod Recorded
