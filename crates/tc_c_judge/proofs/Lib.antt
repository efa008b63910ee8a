pub mod Names
mod Places
mod Returned
