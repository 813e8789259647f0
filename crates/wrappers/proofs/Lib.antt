pub mod Charging
pub mod Parts
pub mod Stacked
