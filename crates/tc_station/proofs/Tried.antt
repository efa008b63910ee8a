-- The effects of a list's jobs at the desks of a station.
use Rattle.tc_station.proofs.Names.{◌≡◌, ℕ, ◌+◌, ◌<◌, Bool, List, [], ◌∷◌, ◌++◌, length, map, take, get_or, Result, Ok, Err, refl, sym, ap, ◌∙◌, subst, inl, inr, take_more, get_or_from_slice_get, Event, Moment, Own, AtLock, Roster, AtStation, IsCallAt, IsCallOn, IsBringCall, IsNotReleased, IsNotTaken, IsUnitNotTaken, CanBeMade, CannotBeMade, IsTriedAt, IsTriedOn, IsJobMade, AreMade, HasMadeTheSame, Job}
use Rattle.tc_station.specs.declared.faults.BringFault.{BringFault}
use Rattle.tc_station.specs.declared.faults.ReleaseRefused.{ReleaseRefused}
use Rattle.tc_station.specs.declared.faults.TakeRefused.{TakeRefused}
use Rattle.tc_station.specs.declared.faults.TakeUnitRefused.{TakeUnitRefused}
use Rattle.tc_station.proofs.Called.{ok-call, err-call, same-set}
use Rattle.tc_channel.specs.declared.event.Event.TheVariants as events
use Rattle.tc_queues.specs.declared.reply.ReleaseFault.TheVariants as release_faults
use Rattle.tc_queues.specs.declared.reply.TakeFault.TheVariants as take_faults
use Rattle.tc_queues.specs.declared.reply.TakeUnitFault.TheVariants as unit_faults
use Rattle.tc_station.specs.declared.faults.ReleaseRefused.TheVariants as release_refusals
use Rattle.tc_station.specs.declared.faults.TakeRefused.TheVariants as take_refusals
use Rattle.tc_station.specs.declared.faults.TakeUnitRefused.TheVariants as unit_refusals
use Rattle.tc_station.specs.declared.work.Order.TheVariants as orders

-- unless memory ran out, a call at a desk made its event if the event could be made
pub tried-at : {R F : Type 0} (place vcid : ℕ) (e : Event) (ok : Moment → R → Type 0) (err : Moment → F → Type 0) (before after : AtStation) (r : Result R F) → ((m : Moment) (a : R) → ok m a → CanBeMade e m)
    → ((m : Moment) (f : F) → r ≡ Err f → err m f → CannotBeMade e m) → IsCallAt place vcid e ok err before r after → IsTriedAt place vcid e before after
tried-at place vcid e ok err before after (Ok a) can cannot c =
    (Ok tt, ok-call place vcid e ok err (λ m _. CanBeMade e m) (λ m _. CannotBeMade e m) before after (Ok a) a tt c refl (λ m p. can m a p))
tried-at place vcid e ok err before after (Err f) can cannot c =
    (Err tt, err-call place vcid e ok err (λ m _. CanBeMade e m) (λ m _. CannotBeMade e m) before after (Err f) f tt c refl (λ m p. cannot m f refl p))

-- unless memory ran out, either a call on a channel made its event if the event could be made, or the station doesn't
-- have the channel
pub tried-on : {R F : Type 0} (station : Roster) (vcid : ℕ) (e : Event) (ok : Moment → R → Type 0) (err : Moment → F → Type 0) (unknown : F) (before after : AtStation) (r : Result R F) → ((m : Moment) (a : R) → ok m a → CanBeMade e m)
    → ((m : Moment) (f : F) → r ≡ Err f → err m f → CannotBeMade e m) → IsCallOn station vcid e ok err unknown before r after → IsTriedOn station vcid e before after
tried-on station vcid e ok err unknown before after r can cannot (inl c) = inl (c.0, c.1, tried-at c.0 vcid e ok err before after r can cannot c.2)
tried-on station vcid e ok err unknown before after r can cannot (inr c) = inr (c.0, c.2)

-- unless memory ran out, octets that were brought have the effect of a job that brings them, whether they are for a
-- channel or for none
pub brought : {R : Type 0} (station : Roster) (own : ℕ) (octets : List ℕ) (ok : ℕ → List ℕ → Moment → R → Type 0) (err : List ℕ → Moment → BringFault → Type 0) (before after : AtStation) (r : Result R BringFault)
    → ((frame : List ℕ) (m : Moment) (f : BringFault) → r ≡ Err f → err frame m f → ⊥) → IsBringCall station octets ok err before r after → IsJobMade station own (orders.Bring octets) before after
brought station own octets ok err before after r cannot (inl c) =
    inl (c.0, c.1, c.2, c.3, tried-at c.0 c.1 (events.Frame c.2) (ok c.1 c.2) (err c.2) before after r (λ m a p. tt) (λ m f is p. cannot c.2 m f is p) c.4)
brought station own octets ok err before after r cannot (inr c) = inr (c.0, c.1, c.3)

-- an event that the station refuses for a reason other than lack of memory can't be made
pub not-released : (m : Moment) (said : ReleaseRefused) → (said ≡ release_refusals.NoMemory → ⊥) → IsNotReleased m said → CannotBeMade events.Release m
not-released m said other (release_faults.Empty, is, p) = p
not-released m said other (release_faults.NoMemory, is, p) = absurd (other is)

pub not-taken : (grows : Bool) (apid : ℕ) (m : Moment) (said : TakeRefused) → (said ≡ take_refusals.NoMemory → ⊥) → IsNotTaken grows apid m said → CannotBeMade (events.Take apid) m
not-taken grows apid m said other (take_faults.NoQueue, is, p) = inl p
not-taken grows apid m said other (take_faults.Empty, is, p) = inr p
not-taken grows apid m said other (take_faults.NoMemory, is, p) = absurd (other is)

pub unit-not-taken : (grows : Bool) (map_id : ℕ) (m : Moment) (said : TakeUnitRefused) → (said ≡ unit_refusals.NoMemory → ⊥) → IsUnitNotTaken grows map_id m said → CannotBeMade (events.TakeUnit map_id) m
unit-not-taken grows map_id m said other (unit_faults.NoMap, is, p) = inl p
unit-not-taken grows map_id m said other (unit_faults.Empty, is, p) = inr p
unit-not-taken grows map_id m said other (unit_faults.NoMemory, is, p) = absurd (other is)

-- a call that was refused made no event
refused-at : {R F : Type 0} (place vcid : ℕ) (e : Event) (ok : Moment → R → Type 0) (err : Moment → F → Type 0) (before after : AtStation) (f : F) → IsCallAt place vcid e ok err before (Err f) after → HasMadeTheSame before after
refused-at place vcid e ok err before after f c =
    ap (map (λ (d : AtLock). d.own.made)) c.others
    ∙ same-set (λ (d : AtLock). d.own.made) before.desks place c.there c.next (sym (get_or_from_slice_get before.desks place c.there c.there c.was)) (ap (λ (o : Own). o.made) c.call.answer.1)

pub refused-on : {R F : Type 0} (station : Roster) (vcid : ℕ) (e : Event) (ok : Moment → R → Type 0) (err : Moment → F → Type 0) (unknown : F) (before after : AtStation) (r : Result R F) (f : F) → r ≡ Err f
    → IsCallOn station vcid e ok err unknown before r after → HasMadeTheSame before after
refused-on station vcid e ok err unknown before after r f is (inl c) = refused-at c.0 vcid e ok err before after f (subst (λ x. IsCallAt c.0 vcid e ok err before x after) is c.2)
refused-on station vcid e ok err unknown before after r f is (inr c) = ap (λ (o : AtStation). map (λ (d : AtLock). d.own.made) o.desks) c.2

pub not-brought : {R : Type 0} (station : Roster) (octets : List ℕ) (ok : ℕ → List ℕ → Moment → R → Type 0) (err : List ℕ → Moment → BringFault → Type 0) (before after : AtStation) (r : Result R BringFault) (f : BringFault) → r ≡ Err f
    → IsBringCall station octets ok err before r after → HasMadeTheSame before after
not-brought station octets ok err before after r f is (inl c) =
    refused-at c.0 c.1 (events.Frame c.2) (ok c.1 c.2) (err c.2) before after f (subst (λ x. IsCallAt c.0 c.1 (events.Frame c.2) (ok c.1 c.2) (err c.2) before x after) is c.4)
not-brought station octets ok err before after r f is (inr c) = ap (λ (o : AtStation). map (λ (d : AtLock). d.own.made) o.desks) c.3

-- if these jobs are made, and then one more job, the longer list of jobs is made
snoc : (station : Roster) (vcid : ℕ) (jobs : List Job) (job : Job) (a b c : AtStation) → AreMade station vcid jobs a b → IsJobMade station vcid job.order b c → AreMade station vcid (jobs ++ job ∷ []) a c
snoc station vcid [] job a b c made here = (c, subst (λ o. IsJobMade station vcid job.order o c) made here, refl)
snoc station vcid (j ∷ js) job a b c made here = (made.0, made.1, snoc station vcid js job made.0 b c made.2 here)

pub one-more-made : (station : Roster) (vcid : ℕ) (jobs : List Job) (i : ℕ) (job : Job) (a b c : AtStation) → i < length jobs → job ≡ get_or jobs i job → AreMade station vcid (take i jobs) a b → IsJobMade station vcid job.order b c
    → AreMade station vcid (take (i + 1) jobs) a c
one-more-made station vcid jobs i job a b c lt is made here =
    let more : take (i + 1) jobs ≡ take i jobs ++ job ∷ [] = take_more jobs i job lt ∙ ap (λ x. take i jobs ++ x ∷ []) (sym is) in
    subst (λ js. AreMade station vcid js a c) (sym more) (snoc station vcid (take i jobs) job a b c made here)
