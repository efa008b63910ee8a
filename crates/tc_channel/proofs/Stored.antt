-- The stored parts of a channel before and after one event.
use Rattle.tc_channel.proofs.Names.{◌≡◌, ℕ, ◌<◌, ◌≤◌, Bool, true, List, [], ◌∷◌, ◌++◌, length, map, drop, Option, refl, sym, ap, ◌∙◌, arith, IsSome, nat_lt, drop-append-le, drop-drop, map_push, length-map, length-append, length-drop, Kind, IsWhole, kind_of, Row, E1, E6, E10, number_of, frame_row, entry, accepts, after, Settings, Event, Frame, Release, ChannelState, Accepted, buffer, HasStep, step, row_of, kept, first_of, map_of, Inside, HoldsWithin, FollowsWithin, FollowsKindWithin, EndsWithin, EndsAtOnceWithin, Delivery, IsDelivered, header_of, passed_on, run_within, IsLawfulWithin, Ad}
use Rattle.std.proofs.lemmas.List.{drop-map}
use Rattle.circular_buffer.specs.Buffer.{Buffer}
use Rattle.tc_channel.specs.Channel.{buffered_of, with_field}
use Rattle.tc_link.specs.declared.Act.{Act}
use Rattle.tc_channel.proofs.Shares.{delivered-stored, frame-queues, release-queues}
use Rattle.tc_channel.proofs.Streams.{frame-runs, release-runs}
use Rattle.tc_channel.proofs.StateQueues.{kept-either, queues-kept, units-kept}
use Rattle.tc_channel.proofs.Filled.{IsFilled, first-filled, state-filled}
use Rattle.tc_channel.proofs.Runs.{step-keeps, keeps}
use Rattle.tc_channel.proofs.Plain.{run-limit}
use Rattle.tc_channel.proofs.Sound.{HaveEntries, state-sound, frame-enters}
use Rattle.tc_queues.proofs.Lists.{all-drop}

abbrev IsCounted : ChannelState → Type 0
IsCounted b = b.released ≤ length b.accepted

step-counted : (c : Settings) (b : ChannelState) (e : Event) → HasStep c b e → IsCounted b → IsCounted (step c b e)
unfolding passed_on
step-counted c b (Frame octets) one h = kept-either IsCounted (row_of c b octets) (accepts (row_of c b octets) b.report) octets b h (omega (arith, length-append {A = Accepted})) h
step-counted c b Release one h = omega arith
step-counted c b _ one h = h

-- after a lawful journal, no more fields were released than accepted
pub state-counted : (limits : ℕ → ℕ) (c : Settings) (journal : List Event) → IsLawfulWithin limits c journal → IsCounted (run_within limits c journal)
state-counted limits c journal lawful = keeps IsCounted limits c journal lawful (step-counted c) (omega arith)

pub oldest-filled : {limits : ℕ → ℕ} {c : Settings} {j : List Event} {i : Inside} → HoldsWithin limits c j i → 0 < length i.ring.items → 0 < length (first_of i.ring.items)
oldest-filled {limits} {c} {j} {i} k some =
    let b = run_within limits c j in
    let len : length i.ring.items ≡ length (buffer b) = ap length k.fields in
    rw k.fields (first-filled (drop b.released b.accepted) (all-drop IsFilled b.released b.accepted (state-filled limits c j k.lawful)) (omega (arith, length-map (drop b.released b.accepted) (λ (a : Accepted). a.field))))

-- the buffered data fields after a frame with this event number: the field of an accepted AD frame is added
abbrev entered : ℕ → Bool → List (List ℕ) → List ℕ → List (List ℕ)
entered event accepted fields field = with_field fields (buffered_of (record { event = event; accepted = accepted }) field)

buffer-kept : (row : Row) (accepted : Bool) (octets : List ℕ) (b : ChannelState) → IsCounted b → buffer (kept row accepted octets b) ≡ entered (number_of row) accepted (buffer b) (drop 5 octets)
unfolding passed_on
buffer-kept E1 true octets b h =
    let a : Accepted = record { ns = (header_of octets).ns; field = drop 5 octets } in
    ap (map (λ (x : Accepted). x.field)) (drop-append-le b.released b.accepted (a ∷ []) h) ∙ map_push (λ (x : Accepted). x.field) (drop b.released b.accepted) a
buffer-kept E6 true octets b h = refl
buffer-kept _ _ octets b h = refl

-- for each frame, the stored parts give the same row of FARM-1's table as the state after the journal
pub row-is : {limits : ℕ → ℕ} {c : Settings} {j : List Event} {i : Inside} (octets : List ℕ) (kind : Kind) (len capacity : ℕ)
    → HoldsWithin limits c j i → kind ≡ kind_of (header_of octets) (drop 5 octets) → len ≡ length i.ring.items → capacity ≡ i.ring.capacity
    → frame_row i.farm.width i.farm.report.vr kind (nat_lt len capacity) ≡ row_of c (run_within limits c j) octets
row-is {limits} {c} {j} {i} octets kind len capacity k kind_is len_is capacity_is =
    let fields : length i.ring.items ≡ length (buffer (run_within limits c j)) = ap length k.fields in
    rw (k.width, k.report, kind_is, len_is, capacity_is, k.capacity, fields) refl

pub can-enter : {limits : ℕ → ℕ} {c : Settings} {j : List Event} {i : Inside} (octets : List ℕ) (row : Row)
    → HaveEntries → HoldsWithin limits c j i → row ≡ row_of c (run_within limits c j) octets → IsSome (entry row i.farm.report)
can-enter {limits} {c} {j} octets row entries k row_is = rw (row_is, k.report) (frame-enters entries c (run_within limits c j) (state-sound limits c j) octets)

pub frame-keeps : {limits : ℕ → ℕ} {c : Settings} {j : List Event} {i : Inside} (later : Inside) (d : Delivery) (unit : Option (List ℕ)) (kind : Kind) (octets : List ℕ) (row : Row) (act : Act)
    → HaveEntries → HoldsWithin limits c j i → kind ≡ kind_of (header_of octets) (drop 5 octets) → FollowsKindWithin (limits (map_of (drop 5 octets))) kind i.open_runs later.open_runs (drop 5 octets) → EndsAtOnceWithin (limits (map_of (drop 5 octets))) kind i.open_runs (drop 5 octets) unit
    → IsDelivered (map_of (drop 5 octets)) unit i.rings later.rings i.unit_rings later.unit_rings d
    → IsWhole octets → row ≡ row_of c (run_within limits c j) octets → act.event ≡ number_of row → act.accepted ≡ accepts row i.farm.report
    → later.farm.width ≡ i.farm.width → later.farm.report ≡ after row i.farm.report
    → later.ring.items ≡ with_field i.ring.items (buffered_of act (drop 5 octets)) → later.ring.capacity ≡ i.ring.capacity
    → HoldsWithin limits c (j ++ Frame octets ∷ []) later
frame-keeps {limits} {c} {j} {i} later d unit kind octets row act entries k kind_is follows ends is whole row_is event_is accepted_is width report items capacity =
    let b = run_within limits c j in
    let accepts_is : act.accepted ≡ accepts (row_of c b octets) b.report = rw (accepted_is, row_is, k.report) refl in
    let number_is : act.event ≡ number_of (row_of c b octets) = rw (event_is, row_is) refl in
    let fields : later.ring.items ≡ buffer (step c b (Frame octets)) =
    items ∙ rw (k.fields, number_is, accepts_is) (sym (buffer-kept (row_of c b octets) (accepts (row_of c b octets) b.report) octets b (state-counted limits c j k.lawful))) in
    let offered = delivered-stored (drop 5 octets) unit i.rings later.rings i.unit_rings later.unit_rings d b (queues-kept limits c j) (units-kept limits c j) (k.queues, k.units) is in
    let queues = frame-queues limits c b octets i.open_runs unit later.rings later.unit_rings (run-limit limits c j) k.runs (rw (← kind_is) ends) offered in
    let runs = frame-runs limits c b octets i.open_runs later.open_runs k.runs (rw (← kind_is) follows) in
    step-keeps (Frame octets) later k (whole, frame-enters entries c b (state-sound limits c j) octets) width (report ∙ rw (row_is, k.report) refl) capacity fields runs queues.0 queues.1

buffer-released : (c : Settings) (b : ChannelState) → buffer (step c b Release) ≡ drop 1 (buffer b)
unfolding passed_on
buffer-released c b = ap (map (λ (x : Accepted). x.field)) (sym (drop-drop 1 b.released b.accepted)) ∙ sym (drop-map (λ (x : Accepted). x.field) 1 (drop b.released b.accepted))

released-report : (c : Settings) (b : ChannelState) → (step c b Release).report ≡ after E10 b.report
unfolding passed_on
released-report c b = refl

has-release : (b : ChannelState) → 0 < length (buffer b) → b.released < length b.accepted
has-release b h = omega (arith, length-map (drop b.released b.accepted) (λ (a : Accepted). a.field), length-drop b.released b.accepted)

pub release-keeps : {limits : ℕ → ℕ} {c : Settings} {j : List Event} {i : Inside} (later : Inside) (d : Delivery) (unit : Option (List ℕ))
    → HoldsWithin limits c j i → FollowsWithin (limits (map_of (first_of i.ring.items))) i.open_runs later.open_runs Ad (first_of i.ring.items) → EndsWithin (limits (map_of (first_of i.ring.items))) i.open_runs Ad (first_of i.ring.items) unit
    → IsDelivered (map_of (first_of i.ring.items)) unit i.rings later.rings i.unit_rings later.unit_rings d → 0 < length i.ring.items
    → later.farm.width ≡ i.farm.width → later.farm.report ≡ after E10 i.farm.report
    → later.ring ≡ record { items = drop 1 i.ring.items; capacity = i.ring.capacity }
    → HoldsWithin limits c (j ++ Release ∷ []) later
release-keeps {limits} {c} {j} {i} later d unit k follows ends delivery some width report is =
    let b = run_within limits c j in
    let len : length i.ring.items ≡ length (buffer b) = ap length k.fields in
    let fields : later.ring.items ≡ buffer (step c b Release) =
    ap (λ (x : Buffer (List ℕ)). x.items) is ∙ ap (drop 1) k.fields ∙ sym (buffer-released c b) in
    let delivered_is : IsDelivered (map_of (first_of (buffer b))) unit i.rings later.rings i.unit_rings later.unit_rings d = rw k.fields at delivery in
    let ends_is : EndsWithin (limits (map_of (first_of (buffer b)))) i.open_runs Ad (first_of (buffer b)) unit = rw k.fields at ends in
    let offered = delivered-stored (first_of (buffer b)) unit i.rings later.rings i.unit_rings later.unit_rings d b (queues-kept limits c j) (units-kept limits c j) (k.queues, k.units) delivered_is in
    let queues = release-queues limits c b i.open_runs unit later.rings later.unit_rings (run-limit limits c j) k.runs ends_is offered in
    let follows_is : FollowsWithin (limits (map_of (first_of (buffer b)))) i.open_runs later.open_runs Ad (first_of (buffer b)) = rw k.fields at follows in
    step-keeps Release later k (has-release b (omega arith)) width (report ∙ rw k.report (sym (released-report c b))) (ap (λ (x : Buffer (List ℕ)). x.capacity) is) fields
    (release-runs limits c b i.open_runs later.open_runs k.runs follows_is) queues.0 queues.1
