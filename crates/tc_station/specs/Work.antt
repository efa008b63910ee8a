-- The work of a station's workers: the jobs of each list, and the counts of its operator before and after.
use Rattle.std.specs.Prelude.{◌≡◌, ℕ, ◌+◌, ◌≤◌, ◌==◌, ◌&&◌, ◌⊎◌, Bool, false, All, Contains, min, max, List, [], ◌∷◌, length, map, take, slice_get, slice_index, position, Option, Some, None, is_none, count_by}
use Rattle.std.specs.List.{AllByRecursion}
use Rattle.tc_link.specs.Frame.{header_of, fault_of}
use Rattle.tc_station.specs.Roster.{Roster}
use Rattle.tc_station.specs.Tally.{Tally, AtStation, HasGoneOnAtEach, tally, tallied, IsOurs, KnowsTheSame}
use Rattle.tc_station.specs.Lowest.{lower}
use Rattle.tc_station.specs.Location.{IsLocated, IsLocateFault}
use Rattle.tc_station.specs.Tried.{IsListMade}
use Rattle.tc_link.specs.declared.location.LocateFault.{LocateFault}
use Rattle.tc_station.specs.declared.faults.WorkFault.{WorkFault}
use Rattle.tc_station.specs.declared.faults.WorkFault.TheVariants.{NoMemory}
use Rattle.tc_station.specs.declared.work.Order.{Order}
use Rattle.tc_station.specs.declared.work.Order.TheVariants.{Bring, Release, Take, TakeUnit}
use Rattle.tc_station.specs.declared.work.Job.{Job}
use Rattle.tc_station.specs.declared.work.WorkList.{WorkList}

-- an operation on this channel was answered and counted, or refused
abbrev pub IsTried : ℕ → Tally → Tally → Type 0
IsTried vcid before after = (after ≡ tallied vcid before) ⊎ (after ≡ before)

-- this is the effect on the counts of a job in this channel's list, if memory didn't run out
abbrev pub IsDone : Roster → ℕ → Order → Tally → Tally → Type 0
IsDone station vcid (Bring octets) before after =
    ((v : ℕ) × (frame : List ℕ) × IsLocated station octets v frame × (after ≡ tallied v before))
    ⊎ ((f : LocateFault) × IsLocateFault station octets f × (after ≡ before))
IsDone station vcid Release before after = IsTried vcid before after
IsDone station vcid (Take apid) before after = IsTried vcid before after
IsDone station vcid (TakeUnit map_id) before after = IsTried vcid before after

-- the jobs were done one after the other
abbrev pub AreDone : Roster → ℕ → List Job → Tally → Tally → Type 0
AreDone station vcid [] before after = after ≡ before
AreDone station vcid (job ∷ jobs) before after = (mid : Tally) × IsDone station vcid job.order before mid × AreDone station vcid jobs mid after

-- Memory may run out for this job in this channel's list. It can't run out for octets that are for no channel of the
-- station, nor for a channel that the station doesn't have, since such jobs are passed over.
abbrev pub MayWantMemory : Roster → ℕ → Order → Type 0
MayWantMemory station vcid (Bring octets) = (v : ℕ) × (frame : List ℕ) × IsLocated station octets v frame
MayWantMemory station vcid Release = Contains station.vcids vcid
MayWantMemory station vcid (Take apid) = Contains station.vcids vcid
MayWantMemory station vcid (TakeUnit map_id) = Contains station.vcids vcid

-- If there is no line, all jobs of the list were done. Otherwise all jobs before the one of this line were done, and
-- this job was refused because memory ran out.
abbrev pub IsWorked : Roster → WorkList → Option ℕ → Tally → Tally → Type 0
IsWorked station list None before after = AreDone station list.vcid list.jobs before after
IsWorked station list (Some line) before after =
    (n : ℕ) × (job : Job) × (slice_get list.jobs n ≡ Some job) × (job.line ≡ line) × MayWantMemory station list.vcid job.order × AreDone station list.vcid (take n list.jobs) before after

-- the result of working on a list
pub record Shift : Type 0 where
  pub list : WorkList
  -- the line of the job that was refused because memory ran out
  pub refused : Option ℕ
  pub before : AtStation
  pub after : AtStation

-- the tally has a count for each channel of the station
pub record IsTallyOf (station : Roster) (t : Tally) : Type 0 where
  pub vcids : t.vcids ≡ station.vcids
  pub counts : length t.counts ≡ length t.vcids

pub record IsShift (station : Roster) (s : Shift) : Type 0 where
  pub ours : IsTallyOf station (tally s.before)
  pub kept : IsOurs station s.after
  pub knows : KnowsTheSame s.before s.after
  pub later : HasGoneOnAtEach s.before s.after
  pub worked : IsWorked station s.list s.refused (tally s.before) (tally s.after)
  pub made : IsListMade station s.list s.refused s.before s.after

abbrev pub lowest : List Shift → Option ℕ
lowest [] = None
lowest (s ∷ ss) = lower s.refused (lowest ss)

-- each list has an operator of the station
pub record AreStaffed (station : Roster) (lists : List WorkList) (operators : List AtStation) : Type 0 where
  pub as_many : length operators ≡ length lists
  pub ours : All (IsOurs station) operators

-- the operator at each list's place worked on the list, and this is the lowest line whose job was refused because
-- memory ran out, or `None` if there is no such job
abbrev pub AreWorked : Roster → List WorkList → Option ℕ → List AtStation → List AtStation → Type 0
AreWorked station lists line befores afters =
    (shifts : List Shift) × (map (λ s. s.list) shifts ≡ lists) × (map (λ s. s.before) shifts ≡ befores) × (map (λ s. s.after) shifts ≡ afters)
    × AllByRecursion (IsShift station) shifts × (lowest shifts ≡ line)

abbrev pub line_of_fault : WorkFault → ℕ
line_of_fault (NoMemory line) = line

-- the octets begin with a frame for this channel
abbrev pub is_frame_for : Roster → ℕ → List ℕ → Bool
is_frame_for station vcid octets = is_none (fault_of octets) && ((header_of octets).scid == station.scid && ((header_of octets).vcid == vcid))

abbrev pub brings_to : Roster → ℕ → Order → Bool
brings_to station vcid (Bring octets) = is_frame_for station vcid octets
brings_to station vcid Release = false
brings_to station vcid (Take apid) = false
brings_to station vcid (TakeUnit map_id) = false

-- the job is a release or a take, of a packet or a unit, in a list for this channel
abbrev pub is_other : ℕ → ℕ → Order → Bool
is_other own vcid (Bring octets) = false
is_other own vcid Release = own == vcid
is_other own vcid (Take apid) = own == vcid
is_other own vcid (TakeUnit map_id) = own == vcid

-- a count that is raised by `n`, but never beyond the largest number of 64 bits
abbrev pub raised_by : ℕ → ℕ → ℕ
raised_by n count = max count (min (count + n) 18446744073709551615)

-- The count of each channel rose by at least the number of jobs that bring a frame to the channel. The count of the
-- list's channel rose by at most that number plus the number of releases and takes. The count of any other channel rose
-- by at most the number of jobs that bring a frame to it. A count that would rise beyond 2^64 - 1 stays at this number.
abbrev pub IsRaised : Roster → WorkList → Tally → Tally → Type 0
IsRaised station list before after =
    (vcid place : ℕ) → position (λ v. v == vcid) station.vcids ≡ Some place →
    let least = count_by (λ (job : Job). brings_to station vcid job.order) list.jobs in
    let others = count_by (λ (job : Job). is_other list.vcid vcid job.order) list.jobs in
    (raised_by least (slice_index before.counts place) ≤ slice_index after.counts place)
    × (slice_index after.counts place ≤ raised_by (least + others) (slice_index before.counts place))

abbrev pub NoCountFalls : Tally → Tally → Type 0
NoCountFalls before after = (place : ℕ) → slice_index before.counts place ≤ slice_index after.counts place
