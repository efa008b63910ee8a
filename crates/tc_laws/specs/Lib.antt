pub mod Loops
pub mod Ends
