pub mod Channel
pub mod Taking
pub mod Storage
pub mod Limits
pub mod History
pub mod Examples
