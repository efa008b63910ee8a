pub mod Names
mod Deliveries
mod Ending
mod Following
mod Hints
mod Instructed
mod Candidates
