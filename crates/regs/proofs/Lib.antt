pub mod Bitsets
