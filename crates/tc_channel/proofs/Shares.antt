-- The queues when the unit that a field ends is offered to them.
use Rattle.tc_channel.proofs.Names.{◌≡◌, ◌≢◌, ℕ, ◌+◌, ◌-◌, ◌≤◌, Bool, true, List, [], ◌∷◌, length, map, drop, Option, Some, None, subst, refl, sym, ap, ◌∙◌, arith, is_some, option_map, sum_by, sum_by-cons, Delivery, delivery_of, Row, E1, E6, row_at, frame_row, accepts, Settings, Frame, Release, ChannelState, Queue, queue_of, has_room, buffer, map_of, is_chosen, is_for, is_of_map, packets_offered, units_offered, share_of, with_share, with_shares, queued_of, Kind, Unlock, SetVr, kind_of, Service, Bd, OpenRuns, at_most, stream, unit_ended, AreRuns, EndsWithin, EndsAtOnceWithin, step, row_of, kept, unit_of, first_of, IsDelivered, Placed, StoredQueue, stored, share, with_items, shared, shares_in, queue_for, copies_from, put_all, placed, AreShares, drop-append-le, length-drop, append-nil, take-nil, header_of, place_of, Ad, passed_on}
use Rattle.tc_queues.specs.Delivering.{nothing}
use Rattle.tc_channel.specs.Reply.{frame_delivery, release_reply_at}
use Rattle.tc_channel.specs.Steps.{ended_at_once}
use Rattle.tc_queues.specs.Admission.{offered}
use Rattle.tc_channel.proofs.StateQueues.{AreKept}
use Rattle.tc_channel.proofs.Streams.{not-BD}
use Rattle.tc_channel.proofs.Takes.{stored-queue}
use Rattle.tc_queues.proofs.Copies.{Fit, shares-put, copies-places, length-copies}
use Rattle.tc_link.specs.declared.Kind.TheVariants as kinds
use Rattle.tc_packet.specs.Segment as segment

fit-stored : (qs : List Queue) → AreKept qs → Fit (map stored qs)
fit-stored [] h = tt
fit-stored (q ∷ qs) h = (let taken = h.0.taken in let capacity = h.0.capacity in omega (arith, length-drop q.taken q.admitted), fit-stored qs h.1)

one-share : (wanted : ℕ → List ℕ → Bool) (ps : List (List ℕ)) (q : Queue) → share wanted ps (stored q) ≡ share_of wanted ps q
one-share wanted ps q = rw (length-drop q.taken q.admitted) refl

stored-share : (wanted : ℕ → List ℕ → Bool) (ps : List (List ℕ)) (q : Queue) → q.taken ≤ length q.admitted → with_items (stored q) (share wanted ps (stored q)) ≡ stored (with_share wanted ps q)
stored-share wanted ps q h =
    ap (λ (x : List (List ℕ)). with_items (stored q) x) (one-share wanted ps q)
    ∙ ap (λ (x : List (List ℕ)). record { key = q.key; ring = record { items = x; capacity = q.capacity } }) (sym (drop-append-le q.taken q.admitted (share_of wanted ps q) h))

stored-shares : (wanted : ℕ → List ℕ → Bool) (ps : List (List ℕ)) (qs : List Queue) → AreKept qs → shared wanted ps (map stored qs) ≡ map stored (with_shares wanted ps qs)
stored-shares wanted ps [] h = refl
stored-shares wanted ps (q ∷ qs) h =
    ap (λ (w : StoredQueue). w ∷ shared wanted ps (map stored qs)) (stored-share wanted ps q h.0.taken)
    ∙ ap (λ (x : List StoredQueue). stored (with_share wanted ps q) ∷ x) (stored-shares wanted ps qs h.1)

-- copies that are made queue after queue give each queue its share
pub from-copies : (wanted : ℕ → List ℕ → Bool) (ps : List (List ℕ)) (ws : List StoredQueue) (copies : List Placed) → Fit ws → copies ≡ copies_from wanted 0 ps ws → AreShares wanted ps ws copies
from-copies wanted ps ws copies fit is = rw is (record {
  places = copies-places wanted (length ws) 0 ps ws (omega arith);
  put = shares-put wanted ps ws fit;
  count = length-copies wanted 0 ps ws;
})

-- if its share of the items is put into each stored queue, the result is the stored form of the state's queues with
-- their shares
pub queues-follow : (wanted : ℕ → List ℕ → Bool) (old new : List StoredQueue) (copies : List Placed) (ps : List (List ℕ)) (qs : List Queue) → AreKept qs → old ≡ map stored qs
    → AreShares wanted ps old copies → new ≡ put_all old copies → new ≡ map stored (with_shares wanted ps qs)
queues-follow wanted old new copies ps qs kept are shares new_is = new_is ∙ shares.put ∙ ap (shared wanted ps) are ∙ stored-shares wanted ps qs kept

-- the stored packet queues and unit queues are those of the state
abbrev pub AreStored : List StoredQueue → List StoredQueue → ChannelState → Type 0
AreStored rings unit_rings b = (rings ≡ map stored b.queues) × (unit_rings ≡ map stored b.units)

kept-stored : (row : Row) (accepted : Bool) (octets : List ℕ) (b : ChannelState) (rings unit_rings : List StoredQueue) → row ≢ E6 → AreStored rings unit_rings b → AreStored rings unit_rings (kept row accepted octets b)
kept-stored E1 true octets b rings unit_rings other h = h
kept-stored E6 accepted octets b rings unit_rings other h = absurd (other refl)
kept-stored _ _ octets b rings unit_rings other h = h

none-with : (wanted : ℕ → List ℕ → Bool) (q : Queue) → with_share wanted [] q ≡ q
none-with wanted q = rw (take-nil {A = List ℕ} (q.capacity - (length q.admitted - q.taken)), append-nil q.admitted) refl

pub shares-none : (wanted : ℕ → List ℕ → Bool) (qs : List Queue) → with_shares wanted [] qs ≡ qs
shares-none wanted [] = refl
shares-none wanted (q ∷ qs) = ap (λ (x : Queue). x ∷ with_shares wanted [] qs) (none-with wanted q) ∙ ap (λ (x : List Queue). q ∷ x) (shares-none wanted qs)

-- the stored runs and the state agree on the unit that a field ends
pub ends-unit : (limits : ℕ → ℕ) (service : Service) (field : List ℕ) (b : ChannelState) (open_runs : OpenRuns) (unit : Option (List ℕ)) → b.limit ≡ limits → AreRuns limits open_runs b.segmented b.passed → EndsWithin (limits (map_of field)) open_runs service field unit → unit ≡ unit_of b service field
ends-unit limits service field b open_runs unit limit are ends =
    let fields = stream service (segment.header_of field).map b.passed in
    ends fields (are.runs service (segment.header_of field).map (omega arith)) ∙ ap (λ s. at_most (limits (map_of field)) (unit_ended s fields field)) are.segmented ∙ ap (λ (l : ℕ → ℕ). at_most (l (map_of field)) (unit_ended b.segmented fields field)) (sym limit)

-- a MAP has a queue among the stored unit queues exactly when it has one among the unit queues of the state
same-chosen : (map_id : ℕ) (unit_rings : List StoredQueue) (qs : List Queue) → unit_rings ≡ map stored qs → is_some (queue_for map_id unit_rings) ≡ is_some (queue_of map_id qs)
same-chosen map_id unit_rings qs are = rw (are, stored-queue map_id qs) (by (queue_of map_id qs)) where
  by : (o : Option Queue) → is_some (option_map stored o) ≡ is_some o
  by None = refl
  by (Some q) = refl

-- once a unit is delivered, the stored queues are those of the state after the unit was offered
pub delivered-stored : (field : List ℕ) (unit : Option (List ℕ)) (rings later unit_rings later_units : List StoredQueue) (d : Delivery) (b : ChannelState) → AreKept b.queues → AreKept b.units → AreStored rings unit_rings b
    → IsDelivered (map_of field) unit rings later unit_rings later_units d → AreStored later later_units (offered field unit b)
delivered-stored field unit rings later unit_rings later_units d b kept kept_units are is =
    let chosen = same-chosen (map_of field) unit_rings b.units are.1 in
    let whole : placed is.whole ≡ copies_from (is_of_map (map_of field)) 0 (units_offered unit (is_chosen b field)) unit_rings =
    is.whole_is ∙ ap (λ (t : Bool). copies_from (is_of_map (map_of field)) 0 (units_offered unit t) unit_rings) chosen in
    let fit : Fit unit_rings = rw are.1 (fit-stored b.units kept_units) in (
      queues-follow is_for rings later is.made (packets_offered unit (is_chosen b field)) b.queues kept are.0
          (subst (λ (t : Bool). AreShares is_for (packets_offered unit t) rings is.made) chosen is.shares) is.queues_are,
      queues-follow (is_of_map (map_of field)) unit_rings later_units (placed is.whole) (units_offered unit (is_chosen b field)) b.units kept_units are.1
          (from-copies (is_of_map (map_of field)) (units_offered unit (is_chosen b field)) unit_rings (placed is.whole) fit whole) is.units_are,
    )

nothing-offered : (field : List ℕ) (unit : Option (List ℕ)) (rings unit_rings : List StoredQueue) (b : ChannelState) → unit ≡ None → AreStored rings unit_rings (offered field unit b) → AreStored rings unit_rings b
nothing-offered field unit rings unit_rings b none are =
    let e : AreStored rings unit_rings (offered field None b) = rw none at are in
    (e.0 ∙ ap (map stored) (shares-none is_for b.queues), e.1 ∙ ap (map stored) (shares-none (is_of_map (map_of field)) b.units))

kind-queues : (limits : ℕ → ℕ) (width vr : ℕ) (kind : Kind) (room : Bool) (octets : List ℕ) (b : ChannelState) (open_runs : OpenRuns) (unit : Option (List ℕ)) (new new_units : List StoredQueue) → b.limit ≡ limits → AreRuns limits open_runs b.segmented b.passed
    → EndsAtOnceWithin (limits (map_of (drop 5 octets))) kind open_runs (drop 5 octets) unit → AreStored new new_units (offered (drop 5 octets) unit b)
    → AreStored new new_units (kept (frame_row width vr kind room) (accepts (frame_row width vr kind room) b.report) octets b)
unfolding passed_on
kind-queues limits width vr (kinds.Ad ns) room octets b open_runs unit new new_units limit are ends is =
    let row = row_at (place_of width vr ns) room in
    kept-stored row (accepts row b.report) octets b new new_units (not-BD (place_of width vr ns) room) (nothing-offered (drop 5 octets) unit new new_units b ends is)
kind-queues limits width vr kinds.Bd room octets b open_runs unit new new_units limit are ends is = subst (λ (x : Option (List ℕ)). AreStored new new_units (offered (drop 5 octets) x b)) (ends-unit limits Bd (drop 5 octets) b open_runs unit limit are ends) is
kind-queues limits width vr (kinds.Bc Unlock) room octets b open_runs unit new new_units limit are ends is = nothing-offered (drop 5 octets) unit new new_units b ends is
kind-queues limits width vr (kinds.Bc (SetVr x)) room octets b open_runs unit new new_units limit are ends is = nothing-offered (drop 5 octets) unit new new_units b ends is
kind-queues limits width vr kinds.Invalid room octets b open_runs unit new new_units limit are ends is = nothing-offered (drop 5 octets) unit new new_units b ends is

pub frame-queues : (limits : ℕ → ℕ) (c : Settings) (b : ChannelState) (octets : List ℕ) (open_runs : OpenRuns) (unit : Option (List ℕ)) (new new_units : List StoredQueue) → b.limit ≡ limits → AreRuns limits open_runs b.segmented b.passed
    → EndsAtOnceWithin (limits (map_of (drop 5 octets))) (kind_of (header_of octets) (drop 5 octets)) open_runs (drop 5 octets) unit → AreStored new new_units (offered (drop 5 octets) unit b) → AreStored new new_units (step c b (Frame octets))
frame-queues limits c b octets open_runs unit new new_units limit are ends is = kind-queues limits c.width b.report.vr (kind_of (header_of octets) (drop 5 octets)) (has_room c b) octets b open_runs unit new new_units limit are ends is

pub release-queues : (limits : ℕ → ℕ) (c : Settings) (b : ChannelState) (open_runs : OpenRuns) (unit : Option (List ℕ)) (new new_units : List StoredQueue) → b.limit ≡ limits → AreRuns limits open_runs b.segmented b.passed
    → EndsWithin (limits (map_of (first_of (buffer b)))) open_runs Ad (first_of (buffer b)) unit → AreStored new new_units (offered (first_of (buffer b)) unit b) → AreStored new new_units (step c b Release)
unfolding passed_on
release-queues limits c b open_runs unit new new_units limit are ends is = subst (λ (x : Option (List ℕ)). AreStored new new_units (offered (first_of (buffer b)) x b)) (ends-unit limits Ad (first_of (buffer b)) b open_runs unit limit are ends) is

-- the shares of the stored queues together have as many items as `queued_of` counts for the queues of the state
pub queued-is : (wanted : ℕ → List ℕ → Bool) (ps : List (List ℕ)) (qs : List Queue) → sum_by length (map (share wanted ps) (map stored qs)) ≡ queued_of wanted ps qs
queued-is wanted ps [] = refl
queued-is wanted ps (q ∷ qs) =
    sum_by-cons length (share wanted ps (stored q)) (map (share wanted ps) (map stored qs)) ∙ ap (λ (x : List (List ℕ)). length x + sum_by length (map (share wanted ps) (map stored qs))) (one-share wanted ps q)
    ∙ ap (λ n. length (share_of wanted ps q) + n) (queued-is wanted ps qs) ∙ sym (sum_by-cons (λ (x : Queue). length (share_of wanted ps x)) q qs)

other-nothing : (row : Row) (octets : List ℕ) (b : ChannelState) → row ≢ E6 → frame_delivery row octets b ≡ nothing
other-nothing E6 octets b h = absurd (h refl)
other-nothing _ octets b h = refl

count-is : (wanted : ℕ → List ℕ → Bool) (items : List (List ℕ)) (rings : List StoredQueue) (copies : List Placed) (qs : List Queue) → rings ≡ map stored qs → copies ≡ copies_from wanted 0 items rings → length copies ≡ queued_of wanted items qs
count-is wanted items rings copies qs are is = ap length is ∙ length-copies wanted 0 items rings ∙ ap (λ (x : List StoredQueue). sum_by length (map (share wanted items) x)) are ∙ queued-is wanted items qs

delivery-is : (field : List ℕ) (unit : Option (List ℕ)) (rings later unit_rings later_units : List StoredQueue) (d : Delivery) (b : ChannelState) → AreStored rings unit_rings b → IsDelivered (map_of field) unit rings later unit_rings later_units d → d ≡ delivery_of field unit b
delivery-is field unit rings later unit_rings later_units d b are is =
    let chosen = same-chosen (map_of field) unit_rings b.units are.1 in
    let items = packets_offered unit (is_some (queue_for (map_of field) unit_rings)) in
    let packets : length is.made ≡ queued_of is_for items b.queues = is.shares.count ∙ ap (shares_in is_for items) are.0 ∙ queued-is is_for items b.queues in
    let units = count-is (is_of_map (map_of field)) (units_offered unit (is_some (queue_for (map_of field) unit_rings))) unit_rings (placed is.whole) b.units are.1 is.whole_is in
    is.delivery_is ∙ rw (packets, units, chosen) refl

kind-delivery : (limits : ℕ → ℕ) (width vr : ℕ) (kind : Kind) (room : Bool) (octets : List ℕ) (b : ChannelState) (open_runs : OpenRuns) (unit : Option (List ℕ)) → b.limit ≡ limits → AreRuns limits open_runs b.segmented b.passed → EndsAtOnceWithin (limits (map_of (drop 5 octets))) kind open_runs (drop 5 octets) unit
    → delivery_of (drop 5 octets) unit b ≡ frame_delivery (frame_row width vr kind room) octets b
kind-delivery limits width vr (kinds.Ad ns) room octets b open_runs unit limit are ends = rw ends (sym (other-nothing (row_at (place_of width vr ns) room) octets b (not-BD (place_of width vr ns) room)))
kind-delivery limits width vr kinds.Bd room octets b open_runs unit limit are ends = ap (λ (x : Option (List ℕ)). delivery_of (drop 5 octets) x b) (ends-unit limits Bd (drop 5 octets) b open_runs unit limit are ends)
kind-delivery limits width vr (kinds.Bc Unlock) room octets b open_runs unit limit are ends = rw ends refl
kind-delivery limits width vr _ room octets b open_runs unit limit are ends = rw ends refl

pub frame-delivery : (limits : ℕ → ℕ) (c : Settings) (b : ChannelState) (octets : List ℕ) (open_runs : OpenRuns) (unit : Option (List ℕ)) (rings later unit_rings later_units : List StoredQueue) (d : Delivery) → b.limit ≡ limits → AreRuns limits open_runs b.segmented b.passed → AreStored rings unit_rings b
    → EndsAtOnceWithin (limits (map_of (drop 5 octets))) (kind_of (header_of octets) (drop 5 octets)) open_runs (drop 5 octets) unit → IsDelivered (map_of (drop 5 octets)) unit rings later unit_rings later_units d → d ≡ frame_delivery (row_of c b octets) octets b
frame-delivery limits c b octets open_runs unit rings later unit_rings later_units d limit are stored_are ends is = delivery-is (drop 5 octets) unit rings later unit_rings later_units d b stored_are is ∙ kind-delivery limits c.width b.report.vr (kind_of (header_of octets) (drop 5 octets)) (has_room c b) octets b open_runs unit limit are ends

pub release-delivery : (limits : ℕ → ℕ) (b : ChannelState) (open_runs : OpenRuns) (unit : Option (List ℕ)) (rings later unit_rings later_units : List StoredQueue) (d : Delivery) → b.limit ≡ limits → AreRuns limits open_runs b.segmented b.passed → AreStored rings unit_rings b
    → EndsWithin (limits (map_of (first_of (buffer b)))) open_runs Ad (first_of (buffer b)) unit → IsDelivered (map_of (first_of (buffer b))) unit rings later unit_rings later_units d → d ≡ release_reply_at b
release-delivery limits b open_runs unit rings later unit_rings later_units d limit are stored_are ends is = delivery-is (first_of (buffer b)) unit rings later unit_rings later_units d b stored_are is ∙ ap (λ (x : Option (List ℕ)). delivery_of (first_of (buffer b)) x b) (ends-unit limits Ad (first_of (buffer b)) b open_runs unit limit are ends)

other-none : (row : Row) (octets : List ℕ) (b : ChannelState) → row ≢ E6 → ended_at_once row octets b ≡ None
other-none E6 octets b h = absurd (h refl)
other-none _ octets b h = refl

kind-unit : (limits : ℕ → ℕ) (width vr : ℕ) (kind : Kind) (room : Bool) (octets : List ℕ) (b : ChannelState) (open_runs : OpenRuns) (unit : Option (List ℕ)) → b.limit ≡ limits → AreRuns limits open_runs b.segmented b.passed → EndsAtOnceWithin (limits (map_of (drop 5 octets))) kind open_runs (drop 5 octets) unit
    → unit ≡ ended_at_once (frame_row width vr kind room) octets b
kind-unit limits width vr (kinds.Ad ns) room octets b open_runs unit limit are ends = ends ∙ sym (other-none (row_at (place_of width vr ns) room) octets b (not-BD (place_of width vr ns) room))
kind-unit limits width vr kinds.Bd room octets b open_runs unit limit are ends = ends-unit limits Bd (drop 5 octets) b open_runs unit limit are ends
kind-unit limits width vr (kinds.Bc Unlock) room octets b open_runs unit limit are ends = ends
kind-unit limits width vr (kinds.Bc (SetVr x)) room octets b open_runs unit limit are ends = ends
kind-unit limits width vr kinds.Invalid room octets b open_runs unit limit are ends = ends

pub frame-unit : (limits : ℕ → ℕ) (c : Settings) (b : ChannelState) (octets : List ℕ) (open_runs : OpenRuns) (unit : Option (List ℕ)) → b.limit ≡ limits → AreRuns limits open_runs b.segmented b.passed
    → EndsAtOnceWithin (limits (map_of (drop 5 octets))) (kind_of (header_of octets) (drop 5 octets)) open_runs (drop 5 octets) unit → unit ≡ ended_at_once (row_of c b octets) octets b
frame-unit limits c b octets open_runs unit limit are ends = kind-unit limits c.width b.report.vr (kind_of (header_of octets) (drop 5 octets)) (has_room c b) octets b open_runs unit limit are ends
