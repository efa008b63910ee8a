pub mod Apart
pub mod Examples
pub mod Making
pub mod Sessions
pub mod Threads
