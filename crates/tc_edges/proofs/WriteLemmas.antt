pub mod Units
pub mod Frames
pub mod Headers
pub mod Ends
