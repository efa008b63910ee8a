pub mod Board
pub mod Desk
-- the identity of a board, for the crates that use this one
pub use Rattle.atomic_table.specs.Seated.{TableId}
