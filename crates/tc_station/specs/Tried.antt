-- The effect of a job at the desks of a station: its event is made if it can be, and otherwise no event is made.
use Rattle.std.specs.Prelude.{◌≡◌, ◌≢◌, ◌⊎◌, ℕ, List, [], ◌∷◌, map, take, slice_get, Contains, Option, Some, None, Result}
use Rattle.tc_channel.specs.declared.event.Event.{Event}
use Rattle.tc_channel.specs.declared.event.Event.TheVariants as events
use Rattle.tc_channel.specs.Reply.{buffered_fields, waiting_packets, waiting_units, take_reply, unit_reply}
use Rattle.tc_desk.specs.Log.{Moment, AtLock}
use Rattle.tc_station.specs.Roster.{Roster, IsPlace}
use Rattle.tc_station.specs.Tally.{AtStation}
use Rattle.tc_station.specs.Location.{IsPlaced, IsLocateFault}
use Rattle.tc_station.specs.Call.{IsCallAt}
use Rattle.tc_link.specs.declared.location.LocateFault.{LocateFault}
use Rattle.tc_station.specs.declared.work.Order.{Order}
use Rattle.tc_station.specs.declared.work.Order.TheVariants as orders
use Rattle.tc_station.specs.declared.work.Job.{Job}
use Rattle.tc_station.specs.declared.work.WorkList.{WorkList}

-- the event can be made at this moment: a frame always, a release if a data field waits, and a take if something waits
-- to be taken
abbrev pub CanBeMade : Event → Moment → Type 0
CanBeMade (events.Frame octets) m = Unit {0}
CanBeMade events.Release m = buffered_fields m.head.settings m.entries ≢ []
CanBeMade (events.Take apid) m = (packet : List ℕ) × (take_reply m.head.settings m.entries apid ≡ Some packet)
CanBeMade (events.TakeUnit map_id) m = (unit : List ℕ) × (unit_reply m.head.settings m.entries map_id ≡ Some unit)

-- the event can't be made, since nothing waits
abbrev pub CannotBeMade : Event → Moment → Type 0
CannotBeMade (events.Frame octets) m = ⊥
CannotBeMade events.Release m = buffered_fields m.head.settings m.entries ≡ []
CannotBeMade (events.Take apid) m = (waiting_packets m.head.settings m.entries apid ≡ None) ⊎ (waiting_packets m.head.settings m.entries apid ≡ Some [])
CannotBeMade (events.TakeUnit map_id) m = (waiting_units m.head.settings m.entries map_id ≡ None) ⊎ (waiting_units m.head.settings m.entries map_id ≡ Some [])

-- The event was made at the desk at this place, whose channel has this id, if it could be made. Otherwise no event was
-- made.
abbrev pub IsTriedAt : ℕ → ℕ → Event → AtStation → AtStation → Type 0
IsTriedAt place vcid e before after = (r : Result (Unit {0}) (Unit {0})) × IsCallAt place vcid e (λ m _. CanBeMade e m) (λ m _. CannotBeMade e m) before r after

-- the event was tried at the desk of the channel with this id, or the station has no such channel and nothing happened
abbrev pub IsTriedOn : Roster → ℕ → Event → AtStation → AtStation → Type 0
IsTriedOn station vcid e before after =
    ((place : ℕ) × IsPlace station vcid place × IsTriedAt place vcid e before after) ⊎ (¬ Contains station.vcids vcid × (after ≡ before))

-- this is the effect at the desks of a job in this channel's list, if memory didn't run out
abbrev pub IsJobMade : Roster → ℕ → Order → AtStation → AtStation → Type 0
IsJobMade station vcid (orders.Bring octets) before after =
    ((place v : ℕ) × (frame : List ℕ) × IsPlaced station octets place v frame × IsTriedAt place v (events.Frame frame) before after)
    ⊎ ((f : LocateFault) × IsLocateFault station octets f × (after ≡ before))
IsJobMade station vcid orders.Release before after = IsTriedOn station vcid events.Release before after
IsJobMade station vcid (orders.Take apid) before after = IsTriedOn station vcid (events.Take apid) before after
IsJobMade station vcid (orders.TakeUnit map_id) before after = IsTriedOn station vcid (events.TakeUnit map_id) before after

-- the jobs were made one after the other
abbrev pub AreMade : Roster → ℕ → List Job → AtStation → AtStation → Type 0
AreMade station vcid [] before after = after ≡ before
AreMade station vcid (job ∷ jobs) before after = (mid : AtStation) × IsJobMade station vcid job.order before mid × AreMade station vcid jobs mid after

-- the operator has made the same events at each desk as before
abbrev pub HasMadeTheSame : AtStation → AtStation → Type 0
HasMadeTheSame before after = map (λ (d : AtLock). d.own.made) after.desks ≡ map (λ (d : AtLock). d.own.made) before.desks

-- If there is no line, all jobs of the list were made. Otherwise all jobs before the one of this line were made. The
-- job of this line was refused because memory ran out, and made no event.
abbrev pub IsListMade : Roster → WorkList → Option ℕ → AtStation → AtStation → Type 0
IsListMade station list None before after = AreMade station list.vcid list.jobs before after
IsListMade station list (Some line) before after =
    (n : ℕ) × (job : Job) × (mid : AtStation) × (slice_get list.jobs n ≡ Some job) × (job.line ≡ line)
    × AreMade station list.vcid (take n list.jobs) before mid × HasMadeTheSame mid after
