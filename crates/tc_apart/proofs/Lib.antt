pub mod Names
pub mod OneChannel
mod Scripted
mod GivenOut
mod Merged
mod Spelled
mod Scripts
mod Woven
mod Owners
mod Filled
mod Brought
mod Calls
mod ClosedCourse
mod Worked
