pub mod Check
pub mod Ends
pub mod Receiver
pub mod Serving
pub mod Printed
pub mod Hint
pub mod Examples
