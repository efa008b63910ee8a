-- The jobs of a script, sorted by channel, and the channels after workers have done these jobs.
use Rattle.std.specs.Prelude.{◌≡◌, ℕ, List, [], ◌∷◌, ◌++◌, ◌⊎◌, All, Any, length, map, slice_get, slice_set, Some, None}
use Rattle.tc_channel.specs.Journal.{History}
use Rattle.tc_queues.specs.declared.settings.Settings.{Settings}
use Rattle.tc_station.specs.Location.{IsLocated, IsLocateFault}
use Rattle.tc_station.specs.Roster.{Roster, settings_in}
use Rattle.tc_station.specs.StationSettings.{HaveDistinctVcids, vcids_of}
use Rattle.tc_station.specs.Tally.{AtStation, HasMadeNothing, KnowsDesks}
use Rattle.tc_station.specs.Together.{IsCauseAtStation}
use Rattle.tc_station.specs.Work.{AreWorked}
use Rattle.tc_link.specs.declared.location.LocateFault.{LocateFault}
use Rattle.tc_station.specs.declared.work.Job.{Job}
use Rattle.tc_station.specs.declared.work.Order.TheVariants.{Bring}
use Rattle.tc_station.specs.declared.work.WorkList.{WorkList}
use Rattle.tc_text.specs.declared.fault.Reason.TheVariants.{NoMemory}
use Rattle.tc_text.specs.declared.fault.ScriptFault.{ScriptFault}
use Rattle.tc_text.specs.declared.fault.ScriptFault.TheVariants.{Line, Unbalanced}
use Rattle.tc_cli.specs.Report.{IsClosedReport}

-- the station has these channels, and has issued no operator
pub record IsNewStation (scid : ℕ) (list : List Settings) (station : Roster) : Type 0 where
  pub spacecraft : station.scid ≡ scid
  pub vcids : station.vcids ≡ vcids_of list
  pub settings : settings_in station ≡ list
  pub issued : station.issued ≡ 0
  pub distinct : HaveDistinctVcids list

-- a station that has issued no operator, and a list of jobs for each of its channels
pub record Parted : Type 0 where
  pub station : Roster
  pub lists : List WorkList

abbrev pub empty_list : Settings → WorkList
empty_list s = record { vcid = s.vcid; jobs = [] }

-- the station is new, and there is an empty list of jobs for each of its channels
abbrev pub IsNewlyParted : ℕ → List Settings → Parted → Type 0
IsNewlyParted scid list parted = IsNewStation scid list parted.station × (parted.lists ≡ map empty_list list)

abbrev pub with_job : WorkList → Job → WorkList
with_job l job = record l { jobs = l.jobs ++ job ∷ [] }

-- there is a list for this channel
abbrev pub HasWorkList : List WorkList → ℕ → Type 0
HasWorkList lists vcid = Any (λ (l : WorkList). l.vcid ≡ vcid) lists

-- this list is at this place, and is the list for the channel with this id
abbrev pub IsListAt : List WorkList → ℕ → ℕ → WorkList → Type 0
IsListAt lists vcid place l = (slice_get lists place ≡ Some l) × (l.vcid ≡ vcid)

-- The job is appended to the list of this channel, and the other lists stay the same. If there is no such channel, all
-- lists stay the same.
abbrev pub IsGiven : ℕ → Job → Parted → Parted → Type 0
IsGiven vcid job old new =
    ((place : ℕ) × (l : WorkList) × IsListAt old.lists vcid place l × (new ≡ record old { lists = slice_set old.lists place (with_job l job) }))
    ⊎ (¬ HasWorkList old.lists vcid × (new ≡ old))

-- a job with the octets is appended to the list of the channel that they are for, if there is one
abbrev pub IsFrameGiven : ℕ → List ℕ → Parted → Parted → Type 0
IsFrameGiven line octets old new =
    ((vcid : ℕ) × (frame : List ℕ) × IsLocated old.station octets vcid frame × IsGiven vcid (record { line = line; order = Bring octets }) old new)
    ⊎ ((fault : LocateFault) × IsLocateFault old.station octets fault × (new ≡ old))

-- The station has issued an operator for each list. Before the first job the operators had made no event. They did all
-- jobs, and the station was closed together with them.
pub record IsWorkedOut (parted : Parted) (channels : List History) : Type 0 where
  pub station : Roster
  pub befores : List AtStation
  pub operators : List AtStation
  pub issued : station ≡ record parted.station { issued = length parted.lists }
  pub nothing : All HasMadeNothing befores
  pub knows : All (KnowsDesks station) befores
  pub worked : AreWorked station parted.lists None befores operators
  pub closed : IsClosedReport station operators channels

-- one of these jobs is the job of the line with this number
abbrev pub IsJobLine : List WorkList → ℕ → Type 0
IsJobLine lists line = Any (λ (l : WorkList). Any (λ (job : Job). job.line ≡ line) l.jobs) lists

-- The station has issued an operator for each list. Before the first job the operators had made no event. They did all
-- jobs, and the station has a cause of an imbalance.
abbrev pub IsWorkedUnbalanced : Parted → Type 0
IsWorkedUnbalanced parted =
    (station : Roster) × (befores operators : List AtStation) × (station ≡ record parted.station { issued = length parted.lists })
    × All HasMadeNothing befores × AreWorked station parted.lists None befores operators × IsCauseAtStation station operators

-- this is the fault of a script with `lines` lines if not all its jobs are done, or if its station isn't closed in
-- balance
abbrev pub IsWorkFault : ℕ → Parted → ScriptFault → Type 0
IsWorkFault lines parted fault =
    ((fault ≡ Unbalanced) × IsWorkedUnbalanced parted) ⊎ (fault ≡ Line lines NoMemory) ⊎ ((line : ℕ) × IsJobLine parted.lists line × (fault ≡ Line line NoMemory))
