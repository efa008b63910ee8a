-- The view of an operator in contracts, its counts, and the changes that calls make to them.
use Rattle.std.specs.Prelude.{◌≡◌, ℕ, ◌+◌, List, [], map, Option, Some, None, if◌then◌else◌, ◌==◌, nat_lt, slice_get, slice_index, slice_set, position, length, replicate, option_map, All}
use Rattle.logged_lock.specs.Log.{IsBeginning}
use Rattle.tc_desk.specs.Log.{AtLock, count_of}
use Rattle.tc_desk.specs.Together.{locks_of, heads_of}
use Rattle.tc_station.specs.Roster.{Roster}

pub record Tally : Type 0 where
  pub vcids : List ℕ
  pub counts : List ℕ

-- The view of an operator: the ids of its station's channels, a count for each channel, and its operator at each
-- channel's desk, in the same order.
pub record AtStation : Type 0 where
  pub vcids : List ℕ
  pub counts : List ℕ
  pub desks : List AtLock

abbrev pub tally : AtStation → Tally
tally o = record { vcids = o.vcids; counts = o.counts }

abbrev pub tallies : List AtStation → List Tally
tallies operators = map tally operators

-- the number of events that the operator has made at each desk, but at most 2^64 - 1
abbrev pub counts_of : List AtLock → List ℕ
counts_of desks = map (λ (d : AtLock). count_of d.own) desks

-- an operator at these desks, with the counts of the events that it has made there
abbrev pub at_station : List ℕ → List AtLock → AtStation
at_station vcids desks = record { vcids = vcids; counts = counts_of desks; desks = desks }

-- a new operator at a desk, which has made no event, and has seen the moment that the desk's owner has seen
abbrev pub arrival : AtLock → AtLock
arrival owned_desk = record { lock = owned_desk.lock; own = record { seen = owned_desk.own.seen; made = []; issued = 0 } }

-- a new operator at each of these desks
abbrev pub newcomer_at_desks : List ℕ → List AtLock → AtStation
newcomer_at_desks vcids owned_desks = at_station vcids (map arrival owned_desks)

-- the owned desks after each of them has issued `n` more operators
abbrev pub issued_more : ℕ → List AtLock → List AtLock
issued_more n owned_desks = map (λ (p : AtLock). record { lock = p.lock; own = record { seen = p.own.seen; made = p.own.made; issued = p.own.issued + n } }) owned_desks

-- the operator works at the desks of this station
abbrev pub IsOurs : Roster → AtStation → Type 0
IsOurs station o = (o.vcids ≡ station.vcids) × (locks_of o.desks ≡ station.locks)

-- the settings and boards that the operator has seen at its desks are those of the station's desks
abbrev pub KnowsDesks : Roster → AtStation → Type 0
KnowsDesks station o = heads_of o.desks ≡ station.heads

-- the settings and boards that the operator has seen at its desks are as before
abbrev pub KnowsTheSame : AtStation → AtStation → Type 0
KnowsTheSame before after = heads_of after.desks ≡ heads_of before.desks

-- the moment that the operator has seen at the desk at this place continues the moment that it had seen there before
pub record HasGoneOn (place : ℕ) (early late : AtStation) : Type 0 where
  pub before : AtLock
  pub after : AtLock
  pub was : slice_get early.desks place ≡ Some before
  pub is : slice_get late.desks place ≡ Some after
  pub longer : IsBeginning before.own.seen after.own.seen

-- the operator has gone on at each of its desks
pub record HasGoneOnAtEach (early late : AtStation) : Type 0 where
  pub each : (place : ℕ) (desk : AtLock) → slice_get early.desks place ≡ Some desk → HasGoneOn place early late

abbrev pub HasMadeNothing : AtStation → Type 0
HasMadeNothing o = All (λ (d : AtLock). d.own.made ≡ []) o.desks

-- the tally of an operator that has counted nothing
abbrev pub fresh : List ℕ → Tally
fresh vcids = record { vcids = vcids; counts = replicate (length vcids) 0 }

-- the count of a channel, or `None` if the station has no such channel
abbrev pub count_in : ℕ → Tally → Option ℕ
count_in vcid t = option_map (slice_index t.counts) (position (λ v. v == vcid) t.vcids)

-- a count that is raised by one, but never beyond the largest number of 64 bits
abbrev pub raised : ℕ → ℕ
raised n = if nat_lt n 18446744073709551615 then n + 1 else n

abbrev pub raised_at : Option ℕ → List ℕ → List ℕ
raised_at (Some place) counts = slice_set counts place (raised (slice_index counts place))
raised_at None counts = counts

-- the tally after one more operation on a channel
abbrev pub tallied : ℕ → Tally → Tally
tallied vcid t = record t { counts = raised_at (position (λ v. v == vcid) t.vcids) t.counts }
