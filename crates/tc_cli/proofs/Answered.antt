-- The results of an operator's calls at a desk, as answers to the lines of a script.
use Rattle.std.proofs.Common.{◌≡◌, ◌⊎◌, ℕ, Bool, List, Result, Ok, Err, inl, inr, refl, sym, ap, ◌∙◌}
use Rattle.tc_cli.proofs.Names.{Answer, AtLock, Empty, Event, HasSeenNoMore, Identity, IsAnsweredAt, IsBringAnswer, IsCall, IsDeskAnswer, IsFrameAnswered, IsLocated, IsStaffedCall, IsPlace, IsReleaseAnswered, IsTakeAnswered, IsUnitAnswered, Linked, Staffed, Moment, NoMap, NoQueue, Watching, linked, looked, made}
use Rattle.logged_lock.specs.Log.{with_entry}
use Rattle.tc_channel.specs.declared.event.Event.TheVariants as events
use Rattle.tc_queues.specs.declared.reply.Delivery.{Delivery}
use Rattle.tc_queues.specs.declared.reply.FrameReply.{FrameReply}
use Rattle.tc_queues.specs.declared.reply.ReleaseFault.TheVariants as release_faults
use Rattle.tc_queues.specs.declared.reply.TakeFault.TheVariants as take_faults
use Rattle.tc_queues.specs.declared.reply.TakeUnitFault.TheVariants as unit_faults
use Rattle.tc_desk.specs.Call as at_desk
use Rattle.tc_rack.specs.declared.answer.Answer.TheVariants.{Frame, Release, Take, Unit as TakeUnit, Refused}

-- if a call has this result, the channel gives this answer at the moment of the call
abbrev IsReported : {R F : Type 0} → ℕ → Event → (Moment → R → Type 0) → (Moment → F → Type 0) → (Linked → Answer → Linked → Type 0) → Answer → Result R F → Type 0
IsReported vcid e ok err Answers answer (Ok a) = (m : Moment) → m.head.settings.vcid ≡ vcid → ok m a → Answers (linked m) answer (linked (with_entry m e))
IsReported vcid e ok err Answers answer (Err f) = (m : Moment) → m.head.settings.vcid ≡ vcid → err m f → Answers (linked m) answer (linked m)

reported-at : {R F : Type 0} (vcid : ℕ) (e : Event) (ok : Moment → R → Type 0) (err : Moment → F → Type 0) (Answers : Linked → Answer → Linked → Type 0) (early : Watching) (there next : AtLock) (r : Result R F) (answer : Answer)
    → (c : IsCall e (λ m a. ok m a × HasSeenNoMore early m) (λ m f. err m f × HasSeenNoMore early m) there r next) → c.now.head.settings.vcid ≡ vcid → IsReported vcid e ok err Answers answer r
    → HasSeenNoMore early c.now × (((e : Event) × Answers (linked c.now) answer (linked (with_entry c.now e)) × (next.own ≡ made e c.now there.own)) ⊎ (Answers (linked c.now) answer (linked c.now) × (next.own ≡ looked c.now there.own)))
reported-at vcid e ok err Answers early there next (Ok a) answer c named reported = (c.answer.0.1, inl (e, reported c.now named c.answer.0.0, c.answer.1))
reported-at vcid e ok err Answers early there next (Err f) answer c named reported = (c.answer.0.1, inr (reported c.now named c.answer.0.0, c.answer.1))

pub answered-at : {R F : Type 0} (place vcid : ℕ) (e : Event) (ok : Moment → R → Type 0) (err : Moment → F → Type 0) (Answers : Linked → Answer → Linked → Type 0) (m after : Staffed) (r : Result R F) (answer : Answer)
    → IsStaffedCall place vcid e ok err m r after → IsReported vcid e ok err Answers answer r → IsAnsweredAt place vcid Answers m answer after
answered-at place vcid e ok err Answers m after r answer c reported =
    let at = c.call.at in
    let named = ap (λ (h : Identity). h.settings.vcid) at.call.later.0 ∙ at.named in
    let answered = reported-at vcid e ok err Answers c.early at.there at.next r answer at.call named reported in
    record {
      there = at.there;
      next = at.next;
      now = at.call.now;
      was = at.was;
      later = at.call.later;
      moment = at.call.moment;
      named = named;
      lock = at.call.lock;
      answered = answered.1;
      others = at.others;
      vcids = at.vcids;
      early = c.early;
      late = c.late;
      watched = c.watched;
      no_more = answered.0;
      met = c.call.met;
      watchers = c.watchers;
      station = c.station;
    }

-- the call was made at the place of the channel with this id
abbrev pub IsStaffedCallOn : {R F : Type 0} → ℕ → Event → (Moment → R → Type 0) → (Moment → F → Type 0) → Staffed → Result R F → Staffed → Type 0
IsStaffedCallOn vcid e ok err m r after = (place : ℕ) × IsPlace m.station vcid place × IsStaffedCall place vcid e ok err m r after

answered-on : {R F : Type 0} (vcid : ℕ) (e : Event) (ok : Moment → R → Type 0) (err : Moment → F → Type 0) (Answers : Linked → Answer → Linked → Type 0) (m after : Staffed) (r : Result R F) (answer : Answer)
    → IsStaffedCallOn vcid e ok err m r after → IsReported vcid e ok err Answers answer r → IsDeskAnswer vcid Answers m answer after
answered-on vcid e ok err Answers m after r answer (place, at, c) reported = inl (place, at, answered-at place vcid e ok err Answers m after r answer c reported)

-- ---- frames

pub brought : (grows : Bool) (m after : Staffed) (octets : List ℕ) (vcid : ℕ) (frame : List ℕ) (reply : FrameReply) → IsLocated m.station octets vcid frame
    → IsStaffedCallOn vcid (events.Frame frame) (at_desk.IsFramed frame) (at_desk.IsFrameFault grows frame) m (Ok reply) after → IsBringAnswer octets m (Frame vcid reply) after
brought grows m after octets vcid frame reply located (place, at, c) =
    let answered = answered-at place vcid (events.Frame frame) (at_desk.IsFramed frame) (at_desk.IsFrameFault grows frame) (IsFrameAnswered frame) m after (Ok reply) (Frame vcid reply) c
    (λ now named is. (λ i. Frame (sym named i) (is i), refl)) in
    inl (place, vcid, frame, (located, at), answered)

-- ---- releases

pub released : (m after : Staffed) (vcid : ℕ) (delivery : Delivery) → IsStaffedCallOn vcid events.Release at_desk.IsReleased at_desk.IsReleaseFault m (Ok delivery) after
    → IsDeskAnswer vcid IsReleaseAnswered m (Release vcid delivery) after
released m after vcid delivery call =
    answered-on vcid events.Release at_desk.IsReleased at_desk.IsReleaseFault IsReleaseAnswered m after (Ok delivery) (Release vcid delivery) call
    (λ now named reply. inl (reply.0, λ i. Release (sym named i) (reply.1 i), refl))

pub release-empty : (m after : Staffed) (vcid : ℕ) → IsStaffedCallOn vcid events.Release at_desk.IsReleased at_desk.IsReleaseFault m (Err release_faults.Empty) after
    → IsDeskAnswer vcid IsReleaseAnswered m (Refused Empty) after
release-empty m after vcid call =
    answered-on vcid events.Release at_desk.IsReleased at_desk.IsReleaseFault IsReleaseAnswered m after (Err release_faults.Empty) (Refused Empty) call (λ now named why. inr (why, refl, refl))

-- ---- takes

-- The packet is the oldest one that waits in the queue with this APID. A packet may have any type, and `octets_of`
-- returns its octets.
abbrev pub IsPacket : {P : Type 0} → (P → List ℕ) → ℕ → Moment → P → Type 0
IsPacket octets_of apid now p = at_desk.IsOldestPacket apid now (octets_of p)

abbrev pub IsUnit : {P : Type 0} → (P → List ℕ) → ℕ → Moment → P → Type 0
IsUnit octets_of map_id now p = at_desk.IsOldestUnit map_id now (octets_of p)

module _ {P : Type 0} (octets_of : P → List ℕ) (grows : Bool) (m after : Staffed) (vcid : ℕ) where
  pub taken : (apid : ℕ) (packet : P) → IsStaffedCallOn vcid (events.Take apid) (IsPacket octets_of apid) (at_desk.IsTakeFault grows apid) m (Ok packet) after
      → IsDeskAnswer vcid (IsTakeAnswered apid) m (Take vcid apid (octets_of packet)) after
  taken apid packet call =
      answered-on vcid (events.Take apid) (IsPacket octets_of apid) (at_desk.IsTakeFault grows apid) (IsTakeAnswered apid) m after (Ok packet) (Take vcid apid (octets_of packet)) call
      (λ now named is. inl (octets_of packet, is, λ i. Take (sym named i) apid (octets_of packet), refl))

  pub take-without-queue : (apid : ℕ) → IsStaffedCallOn vcid (events.Take apid) (IsPacket octets_of apid) (at_desk.IsTakeFault grows apid) m (Err take_faults.NoQueue) after
      → IsDeskAnswer vcid (IsTakeAnswered apid) m (Refused NoQueue) after
  take-without-queue apid call =
      answered-on vcid (events.Take apid) (IsPacket octets_of apid) (at_desk.IsTakeFault grows apid) (IsTakeAnswered apid) m after (Err take_faults.NoQueue) (Refused NoQueue) call
      (λ now named why. inr (inl (why, refl), refl))

  pub take-of-none : (apid : ℕ) → IsStaffedCallOn vcid (events.Take apid) (IsPacket octets_of apid) (at_desk.IsTakeFault grows apid) m (Err take_faults.Empty) after
      → IsDeskAnswer vcid (IsTakeAnswered apid) m (Refused Empty) after
  take-of-none apid call =
      answered-on vcid (events.Take apid) (IsPacket octets_of apid) (at_desk.IsTakeFault grows apid) (IsTakeAnswered apid) m after (Err take_faults.Empty) (Refused Empty) call
      (λ now named why. inr (inr (why, refl), refl))

  pub unit-taken : (map_id : ℕ) (unit : P) → IsStaffedCallOn vcid (events.TakeUnit map_id) (IsUnit octets_of map_id) (at_desk.IsTakeUnitFault grows map_id) m (Ok unit) after
      → IsDeskAnswer vcid (IsUnitAnswered map_id) m (TakeUnit vcid map_id (octets_of unit)) after
  unit-taken map_id unit call =
      answered-on vcid (events.TakeUnit map_id) (IsUnit octets_of map_id) (at_desk.IsTakeUnitFault grows map_id) (IsUnitAnswered map_id) m after (Ok unit) (TakeUnit vcid map_id (octets_of unit)) call
      (λ now named is. inl (octets_of unit, is, λ i. TakeUnit (sym named i) map_id (octets_of unit), refl))

  pub unit-without-map : (map_id : ℕ) → IsStaffedCallOn vcid (events.TakeUnit map_id) (IsUnit octets_of map_id) (at_desk.IsTakeUnitFault grows map_id) m (Err unit_faults.NoMap) after
      → IsDeskAnswer vcid (IsUnitAnswered map_id) m (Refused NoMap) after
  unit-without-map map_id call =
      answered-on vcid (events.TakeUnit map_id) (IsUnit octets_of map_id) (at_desk.IsTakeUnitFault grows map_id) (IsUnitAnswered map_id) m after (Err unit_faults.NoMap) (Refused NoMap) call
      (λ now named why. inr (inl (why, refl), refl))

  pub unit-of-none : (map_id : ℕ) → IsStaffedCallOn vcid (events.TakeUnit map_id) (IsUnit octets_of map_id) (at_desk.IsTakeUnitFault grows map_id) m (Err unit_faults.Empty) after
      → IsDeskAnswer vcid (IsUnitAnswered map_id) m (Refused Empty) after
  unit-of-none map_id call =
      answered-on vcid (events.TakeUnit map_id) (IsUnit octets_of map_id) (at_desk.IsTakeUnitFault grows map_id) (IsUnitAnswered map_id) m after (Err unit_faults.Empty) (Refused Empty) call
      (λ now named why. inr (inr (why, refl), refl))
