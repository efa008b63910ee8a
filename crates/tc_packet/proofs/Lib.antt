pub mod Names
pub mod AtMost
pub mod Cuts
pub mod OpenRuns
pub mod Sizes
pub mod Stores
pub mod Streams
pub mod Unlimited
