pub mod Names
pub mod Reported
pub mod Counted
pub mod Alone
pub mod Places
pub mod Rows
pub mod Sent
