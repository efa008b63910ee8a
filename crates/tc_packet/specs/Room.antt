-- The view of a room in contracts: the octets in it, and its size.
use Rattle.std.specs.Prelude.{ℕ, List}

-- the octets in a room, and the largest number of them
pub record Contents : Type 0 where
  pub octets : List ℕ
  pub size : ℕ

abbrev pub contents_of : List ℕ → ℕ → Contents
contents_of octets size = record { octets = octets; size = size }
