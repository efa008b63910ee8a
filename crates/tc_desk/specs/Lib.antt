pub mod Log
pub mod Call
pub mod Closing
pub mod Alone
pub mod Together
-- the identity of a lock, for the crates that depend on this one
pub use Rattle.atomic_table.specs.Seated.{TableId}
