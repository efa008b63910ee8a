pub mod Names
mod Buffers
mod Places
mod Records
mod Farms
mod Racks
mod Blocks
mod Receiving
mod Returned
