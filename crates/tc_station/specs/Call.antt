-- The effects of operators' calls at the desks of a station.
use Rattle.std.specs.Prelude.{◌≡◌, ◌⊎◌, ℕ, Bool, false, List, Contains, OnErr, OnOk, Some, Result, Err, slice_get, slice_set}
use Rattle.tc_channel.specs.declared.event.Event.{Event}
use Rattle.tc_channel.specs.declared.event.Event.TheVariants.{Frame}
use Rattle.tc_queues.specs.declared.reply.ReleaseFault.{ReleaseFault}
use Rattle.tc_queues.specs.declared.reply.TakeFault.{TakeFault}
use Rattle.tc_queues.specs.declared.reply.TakeUnitFault.{TakeUnitFault}
use Rattle.tc_channel.specs.Reply.{IsBypassData}
use Rattle.tc_status.specs.Board.{Watching}
use Rattle.tc_desk.specs.Log.{Moment, AtLock}
use Rattle.tc_desk.specs.Call.{IsCall, IsMeeting, HasMet, HasSeenNoMore, IsFramed, IsFramedWatched, IsReleaseFault, IsTakeFault, IsTakeUnitFault}
use Rattle.tc_station.specs.Roster.{Roster, IsPlace}
use Rattle.tc_station.specs.Tally.{AtStation, HasGoneOnAtEach, IsOurs, KnowsTheSame, tally, tallied}
use Rattle.tc_station.specs.Location.{IsPlaced, IsLocateFault}
use Rattle.tc_station.specs.Faults.{release_refused, take_refused, take_unit_refused}
use Rattle.tc_link.specs.declared.location.LocateFault.{LocateFault}
use Rattle.tc_station.specs.declared.faults.BringFault.{BringFault}
use Rattle.tc_station.specs.declared.faults.BringFault.TheVariants.{Locate, NoMemory}
use Rattle.tc_station.specs.declared.faults.ReleaseRefused.{ReleaseRefused}
use Rattle.tc_station.specs.declared.faults.TakeRefused.{TakeRefused}
use Rattle.tc_station.specs.declared.faults.TakeUnitRefused.{TakeUnitRefused}
use Rattle.tc_station.specs.declared.station.Brought.{Brought}

-- The operator made this call at its desk at `place`, whose channel has the id `vcid`. The operator's other desks are
-- as they were.
pub record IsCallAt {R F : Type 0} (place vcid : ℕ) (e : Event) (ok : Moment → R → Type 0) (err : Moment → F → Type 0) (before : AtStation) (result : Result R F) (after : AtStation) : Type 0 where
  pub there : AtLock
  pub next : AtLock
  pub was : slice_get before.desks place ≡ Some there
  pub named : there.own.seen.head.settings.vcid ≡ vcid
  pub call : IsCall e ok err there result next
  pub others : after.desks ≡ slice_set before.desks place next
  pub vcids : after.vcids ≡ before.vcids

-- The operator made this call, which was counted for the channel `vcid` if it was answered. The operator still belongs
-- to the station, knows its desks as before, and has gone on at each of them.
pub record IsCounted {R F : Type 0} (station : Roster) (place vcid : ℕ) (e : Event) (ok : Moment → R → Type 0) (err : Moment → F → Type 0) (before : AtStation) (result : Result R F) (after : AtStation) : Type 0 where
  pub call : IsCallAt place vcid e ok err before result after
  pub counted : OnOk result (tally after ≡ tallied vcid (tally before))
  pub refused : OnErr result (tally after ≡ tally before)
  pub ours : IsOurs station after
  pub knows : KnowsTheSame before after
  pub later : HasGoneOnAtEach before after

-- The operator made this call, and a watcher of the desk's board met the desk before and after it. The history that the
-- watcher had seen is a beginning of the journal at the moment of the call. Afterwards the watcher has seen all that
-- the operator has seen of the channel.
pub record IsMetCallAt {R F : Type 0} (place vcid : ℕ) (e : Event) (ok : Moment → R → Type 0) (err : Moment → F → Type 0) (early : Watching) (before : AtStation) (result : Result R F) (late : Watching) (after : AtStation) : Type 0 where
  pub at : IsCallAt place vcid e (λ m r. ok m r × HasSeenNoMore early m) (λ m f. err m f × HasSeenNoMore early m) before result after
  pub met : HasMet at.next.own.seen late

-- A watcher met the operator's desk at this place, and no event was made. The operator's other desks are as they were.
pub record IsMetAt (place vcid : ℕ) (early : Watching) (before : AtStation) (late : Watching) (after : AtStation) : Type 0 where
  pub there : AtLock
  pub next : AtLock
  pub was : slice_get before.desks place ≡ Some there
  pub named : there.own.seen.head.settings.vcid ≡ vcid
  pub meeting : IsMeeting early there late next
  pub others : after.desks ≡ slice_set before.desks place next
  pub vcids : after.vcids ≡ before.vcids

-- Either the operator made this call at the desk of the channel with this id, or the station has no such channel. In
-- the second case the result is the fault `unknown`, and nothing happened.
abbrev pub IsCallOn : {R F : Type 0} → Roster → ℕ → Event → (Moment → R → Type 0) → (Moment → F → Type 0) → F → AtStation → Result R F → AtStation → Type 0
IsCallOn {R = R} {F = F} station vcid e ok err unknown before result after =
    ((place : ℕ) × IsPlace station vcid place × IsCallAt place vcid e ok err before result after)
    ⊎ (¬ Contains station.vcids vcid × (result ≡ Err unknown) × (after ≡ before))

-- Either the operator brought the frame at the front of the octets to the desk of the channel that the frame names, or
-- there is no such frame or channel. In the second case the result is the reason, and nothing happened.
abbrev pub IsBringCall : {R : Type 0} → Roster → List ℕ → (ℕ → List ℕ → Moment → R → Type 0) → (List ℕ → Moment → BringFault → Type 0) → AtStation → Result R BringFault → AtStation → Type 0
IsBringCall {R = R} station octets ok err before result after =
    ((place vcid : ℕ) × (frame : List ℕ) × IsPlaced station octets place vcid frame × IsCallAt place vcid (Frame frame) (ok vcid frame) (err frame) before result after)
    ⊎ ((f : LocateFault) × IsLocateFault station octets f × (result ≡ Err (Locate f)) × (after ≡ before))

-- the frame was brought to the channel with this id, and this is the reply to it
abbrev pub IsReplied : ℕ → List ℕ → Moment → Brought → Type 0
IsReplied vcid frame m brought = (brought.vcid ≡ vcid) × IsFramed frame m brought.reply

-- the frame was brought to the channel with this id and got this reply, and a watcher of the desk's board has seen the
-- channel process the frame
abbrev pub IsRepliedWatched : ℕ → List ℕ → Moment → Brought × Watching → Type 0
IsRepliedWatched vcid frame m answer = (answer.0.vcid ≡ vcid) × IsFramedWatched frame m (answer.0.reply, answer.1)

-- Memory ran out. If the journal takes no memory, only Type-BD frames are refused for this reason.
abbrev pub IsNotBrought : Bool → List ℕ → Moment → BringFault → Type 0
IsNotBrought grows frame m fault = (fault ≡ NoMemory) × (grows ≡ false → IsBypassData frame)

-- memory ran out, for the frame or for the watcher
abbrev pub IsNotBroughtWatched : List ℕ → Moment → BringFault → Type 0
IsNotBroughtWatched frame m fault = fault ≡ NoMemory

-- the desk refused the release, and this is the station's refusal for the desk's fault
abbrev pub IsNotReleased : Moment → ReleaseRefused → Type 0
IsNotReleased m refused = (fault : ReleaseFault) × (refused ≡ release_refused fault) × IsReleaseFault m fault

abbrev pub IsNotTaken : Bool → ℕ → Moment → TakeRefused → Type 0
IsNotTaken grows apid m refused = (fault : TakeFault) × (refused ≡ take_refused fault) × IsTakeFault grows apid m fault

abbrev pub IsUnitNotTaken : Bool → ℕ → Moment → TakeUnitRefused → Type 0
IsUnitNotTaken grows map_id m refused = (fault : TakeUnitFault) × (refused ≡ take_unit_refused fault) × IsTakeUnitFault grows map_id m fault
