pub mod Sending
pub mod Knowing
pub mod Timely
pub mod Examined
pub mod Judged
