pub mod Classes
pub mod Parts
pub mod Sets
pub mod Words
