-- The open run of each stream when a field is passed to reassembly.
use Rattle.tc_channel.proofs.Names.{◌≡◌, ◌≢◌, ℕ, ◌+◌, ◌<◌, Bool, true, false, eqb, ◌&&◌, List, [], ◌∷◌, ◌++◌, map, filter, drop, refl, sym, ap, ◌∙◌, inl, inr, arith, eqb_tells, eq-eqb, append-nil, map-append, filter-append, Kind, Unlock, Expected, kind_of, Row, E1, E6, row_at, frame_row, accepts, Service, Bd, OpenRuns, Passed, at_most, is_of, same_service, stream, run_left, run_at, stream_place, Settings, Frame, Release, ChannelState, has_room, buffer, step, kept, first_of, AreRuns, FollowsWithin, FollowsKindWithin, Place, header_of, place_of, Ad, passed_on}
use Rattle.tc_channel.specs.Channel.{LeaveAtMost}
use Rattle.tc_packet.specs.Reassembly.{place_of as stream_at}
use Rattle.tc_channel.proofs.StateQueues.{kept-either}
use Rattle.tc_link.specs.declared.Kind.TheVariants as kinds
use Rattle.tc_packet.specs.Segment as segment

pub stream-same : (s : Service) (n : ℕ) (passed : List Passed) (p : Passed) → is_of s n p ≡ true → stream s n (passed ++ p ∷ []) ≡ stream s n passed ++ p.field ∷ []
stream-same s n passed p h =
    let one : filter (is_of s n) (p ∷ []) ≡ p ∷ [] = rw h refl in
    ap (map (λ (x : Passed). x.field)) (filter-append (is_of s n) passed (p ∷ []) ∙ ap (λ (x : List Passed). filter (is_of s n) passed ++ x) one)
    ∙ map-append (λ (x : Passed). x.field) (filter (is_of s n) passed) (p ∷ [])

pub stream-other : (s : Service) (n : ℕ) (passed : List Passed) (p : Passed) → is_of s n p ≡ false → stream s n (passed ++ p ∷ []) ≡ stream s n passed
stream-other s n passed p h =
    let none : filter (is_of s n) (p ∷ []) ≡ [] = rw h refl in
    ap (map (λ (x : Passed). x.field)) (filter-append (is_of s n) passed (p ∷ []) ∙ ap (λ (x : List Passed). filter (is_of s n) passed ++ x) none ∙ append-nil (filter (is_of s n) passed))

-- two streams of MAPs below 64 have the same place if and only if their service and their MAP are the same
same_place : (s t : Service) (m n : ℕ) → m < 64 → n < 64 → (((same_service s t && eqb m n) ≡ true) → stream_at s n ≡ stream_at t m) × (((same_service s t && eqb m n) ≡ false) → stream_at s n ≢ stream_at t m)
same_place Ad Ad m n m_in n_in = (λ h. elim (eqb_tells m n) [ inl e ↦ sym e.1 | inr e ↦ let x = e.0 in absurd cc ], λ h e. let x = eq-eqb m n (sym e) in cc)
same_place Bd Bd m n m_in n_in = (λ h. elim (eqb_tells m n) [ inl e ↦ ap (λ k. 64 + k) (sym e.1) | inr e ↦ let x = e.0 in absurd cc ], λ h e. let x = eq-eqb m n (omega arith) in cc)
same_place Ad Bd m n m_in n_in = (λ h. absurd cc, λ h e. omega arith)
same_place Bd Ad m n m_in n_in = (λ h. absurd cc, λ h e. omega arith)

pub same_map : (s t : Service) (m n : ℕ) → (same_service s t && eqb m n) ≡ true → m ≡ n
same_map Ad Ad m n h = elim (eqb_tells m n) [ inl e ↦ e.1 | inr e ↦ let x = e.0 in absurd cc ]
same_map Bd Bd m n h = elim (eqb_tells m n) [ inl e ↦ e.1 | inr e ↦ let x = e.0 in absurd cc ]
same_map _ _ m n h = absurd cc

pub runs-follow : (limits : ℕ → ℕ) (old new : OpenRuns) (service : Service) (field : List ℕ) (segmented : Bool) (passed : List Passed) → AreRuns limits old segmented passed → FollowsWithin (limits (segment.header_of field).map) old new service field
    → AreRuns limits new segmented (passed ++ record { service = service; field = field } ∷ [])
runs-follow limits old new service field segmented passed are follows = record {
  segmented = follows.segmented ∙ are.segmented;
  runs = λ s n n_in. by s n n_in (is_of s n (record { service = service; field = field })) refl (same_place s service (segment.header_of field).map n (omega arith) n_in);
}
  where
    by : (s : Service) (n : ℕ) → n < 64 → (t : Bool) → is_of s n (record { service = service; field = field }) ≡ t
        → (((same_service s service && eqb (segment.header_of field).map n) ≡ true) → stream_at s n ≡ stream_place service field) × (((same_service s service && eqb (segment.header_of field).map n) ≡ false) → stream_at s n ≢ stream_place service field)
        → LeaveAtMost (limits n) (stream s n (passed ++ record { service = service; field = field } ∷ [])) new (stream_at s n)
    by s n n_in true h at_place =
        let e = at_place.0 h in
        let m = same_map s service (segment.header_of field).map n h in
        let before = ap (λ (k : ℕ). at_most (limits k) (run_left old.segmented (stream s n passed))) m ∙ are.runs s n n_in ∙ ap (run_at old.runs) e in
        let longer = follows.run (stream s n passed) before in
        ap (λ (x : List (List ℕ)). at_most (limits n) (run_left new.segmented x)) (stream-same s n passed (record { service = service; field = field }) h)
        ∙ ap (λ (k : ℕ). at_most (limits k) (run_left new.segmented (stream s n passed ++ field ∷ []))) (sym m) ∙ longer ∙ ap (run_at new.runs) (sym e)
    by s n n_in false h at_place =
        ap (λ (x : List (List ℕ)). at_most (limits n) (run_left new.segmented x)) (stream-other s n passed (record { service = service; field = field }) h)
        ∙ ap (λ q. at_most (limits n) (run_left q (stream s n passed))) follows.segmented
        ∙ are.runs s n n_in ∙ sym (follows.others (stream_at s n) (at_place.1 h))

kept-segmented : (row : Row) (accepted : Bool) (octets : List ℕ) (b : ChannelState) → (kept row accepted octets b).segmented ≡ b.segmented
unfolding passed_on
kept-segmented row accepted octets b = kept-either (λ x. x.segmented ≡ b.segmented) row accepted octets b refl refl refl

kept-passed : (row : Row) (accepted : Bool) (octets : List ℕ) (b : ChannelState) → row ≢ E6 → (kept row accepted octets b).passed ≡ b.passed
kept-passed E1 true octets b h = refl
kept-passed E6 accepted octets b h = absurd (h refl)
kept-passed _ _ octets b h = refl

pub not-BD : (place : Place) (room : Bool) → row_at place room ≢ E6
not-BD Expected true e = cc
not-BD _ _ e = cc

kind-runs : (limits : ℕ → ℕ) (width vr : ℕ) (kind : Kind) (room : Bool) (octets : List ℕ) (b : ChannelState) (old new : OpenRuns) → AreRuns limits old b.segmented b.passed → FollowsKindWithin (limits (segment.header_of (drop 5 octets)).map) kind old new (drop 5 octets)
    → AreRuns limits new (kept (frame_row width vr kind room) (accepts (frame_row width vr kind room) b.report) octets b).segmented (kept (frame_row width vr kind room) (accepts (frame_row width vr kind room) b.report) octets b).passed
unfolding passed_on
kind-runs limits width vr (kinds.Ad ns) room octets b old new are same =
    let row = row_at (place_of width vr ns) room in
    rw (kept-segmented row (accepts row b.report) octets b, kept-passed row (accepts row b.report) octets b (not-BD (place_of width vr ns) room), same) are
kind-runs limits width vr kinds.Bd room octets b old new are follows = runs-follow limits old new Bd (drop 5 octets) b.segmented b.passed are follows
kind-runs limits width vr (kinds.Bc Unlock) room octets b old new are same = rw same are
kind-runs limits width vr _ room octets b old new are same = rw same are

pub frame-runs : (limits : ℕ → ℕ) (c : Settings) (b : ChannelState) (octets : List ℕ) (old new : OpenRuns) → AreRuns limits old b.segmented b.passed → FollowsKindWithin (limits (segment.header_of (drop 5 octets)).map) (kind_of (header_of octets) (drop 5 octets)) old new (drop 5 octets)
    → AreRuns limits new (step c b (Frame octets)).segmented (step c b (Frame octets)).passed
frame-runs limits c b octets old new are follows = kind-runs limits c.width b.report.vr (kind_of (header_of octets) (drop 5 octets)) (has_room c b) octets b old new are follows

pub release-runs : (limits : ℕ → ℕ) (c : Settings) (b : ChannelState) (old new : OpenRuns) → AreRuns limits old b.segmented b.passed → FollowsWithin (limits (segment.header_of (first_of (buffer b))).map) old new Ad (first_of (buffer b)) → AreRuns limits new (step c b Release).segmented (step c b Release).passed
unfolding passed_on
release-runs limits c b old new are follows = runs-follow limits old new Ad (first_of (buffer b)) b.segmented b.passed are follows
