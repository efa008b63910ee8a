pub mod Packets
pub mod Frames
pub mod Parts
pub mod Segments
