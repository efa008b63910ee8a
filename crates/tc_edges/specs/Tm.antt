pub mod TmFrame
pub mod Counting
pub mod Examples
