pub mod Names
pub mod Additions
pub mod ApidEntries
pub mod Configurations
mod Places
mod Written
mod Waiting
mod Delivered
pub mod Performed
