-- A table of the places of virtual channel ids in a list. An id has 6 bits (CCSDS 232.0-B, 4.1.2.6).
use Rattle.std.specs.Prelude.{◌≡◌, ◌==◌, ℕ, List, get_or, position, Option, Some, None, if◌then◌else◌}

-- the place that an entry stands for, or `None` if it stands for no place
abbrev pub entry_place : ℕ → Option ℕ
entry_place entry = if entry == 64 then None else Some entry

-- For each id of the list, the table has the first place of the id. For any other number, the table has no entry, or
-- the entry that stands for no place.
abbrev pub IsVcidTable : List ℕ → List ℕ → Type 0
IsVcidTable ids table = (vcid : ℕ) → position (λ v. v == vcid) ids ≡ entry_place (get_or table vcid 64)
