pub mod Names
mod Fed
mod Lines
pub mod Written
