pub mod Book
pub mod Held
pub mod Kinds
pub mod Made
pub mod Past
