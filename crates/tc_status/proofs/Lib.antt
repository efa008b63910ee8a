pub mod Beginnings
pub mod Steps
pub mod Words
