pub mod Entries
pub mod Files
pub mod Insts
pub mod Roots
