pub mod Log
pub mod Rule
pub mod Word
-- the identity of a lock, for the crates that use this one
pub use Rattle.atomic_table.specs.Seated.{TableId}
