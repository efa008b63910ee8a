pub mod Alternatives
pub mod Account
pub mod Reading
pub mod Layer
pub mod Judge
