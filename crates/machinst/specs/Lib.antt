pub mod Cases
pub mod Layers
pub mod Meaning
pub mod Names
pub mod Parts
pub mod Usual
