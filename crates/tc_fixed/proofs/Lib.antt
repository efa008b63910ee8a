pub mod ByMap
pub mod Taken
