pub mod Checksum
pub mod Division
pub mod Changes
pub mod FrameWithField
pub mod Candidate
