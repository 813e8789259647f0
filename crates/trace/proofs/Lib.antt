pub mod Calls
pub mod Cuts
pub mod Digits
pub mod Nested
pub mod Pieces
pub mod Prefixes
pub mod Settling
pub mod Texts
