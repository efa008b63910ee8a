-- The place of a key among the keys of the queues, and a table of such places.
use Rattle.std.specs.Prelude.{◌≡◌, ◌≢◌, ◌<◌, ◌≤◌, ℕ, zero, suc, List, [], ◌∷◌, length, get_or, ◌⊎◌}
use Rattle.std.specs.List.{AllByRecursion}
use Rattle.tc_queues.specs.StoredQueues.{apid_count}

-- `place` is the place of the first of these numbers that equals the key
abbrev pub IsFirst : ℕ → ℕ → List ℕ → Type 0
IsFirst key place [] = ⊥
IsFirst key zero (a ∷ rest) = key ≡ a
IsFirst key (suc place) (a ∷ rest) = (key ≢ a) × IsFirst key place rest

-- `n` is the first place of the key among the keys, or it is `none` and the key isn't among them
abbrev pub ShowsFirst : List ℕ → ℕ → ℕ → ℕ → Type 0
ShowsFirst keys none key n = IsFirst key n keys ⊎ ((n ≡ none) × AllByRecursion (λ other. key ≢ other) keys)

-- for each key that an APID can be, the table shows the first place of the key, or `none` if no queue has it
pub record AreFirst (keys : List ℕ) (none : ℕ) (table : List ℕ) : Type 0 where
  pub size : length table ≡ apid_count
  pub shows : (key : ℕ) → key < apid_count → ShowsFirst keys none key (get_or table key 0)

-- the table shows the places of the keys, or it is empty
abbrev pub IsTableOf : List ℕ → List ℕ → Type 0
IsTableOf keys table = length table ≢ 0 → AreFirst keys (length keys) table

-- There is a table of places if there are 8 queues or more and their places fit its entries. There is none for fewer
-- than 8 queues.
pub record IsTabled (keys table : List ℕ) : Type 0 where
  pub reported : IsTableOf keys table
  pub few : length table ≢ 0 → 8 ≤ length keys
  pub many : 8 ≤ length keys → length keys ≤ 65535 → length table ≢ 0
