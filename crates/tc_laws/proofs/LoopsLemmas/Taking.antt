-- The accepted frames after one event.
use Rattle.tc_laws.proofs.LoopsLemmas.Names.{ChannelState, E1, Event, Frame, List, Row, S1, Settings, State, [], accepted-kept, accepts, after_frame, drop, false, flags-at_E1, has_room, header_of, inl, inr, number-at_E1, only_S1, passed_on, refl, row_of, step, ℕ, ◌++◌, ◌∷◌, ◌≡◌, ◌⊎◌}

-- the frame is of Type-AD, has the number V(R), and is accepted
pub record IsTaken (octets : List ℕ) (b later : ChannelState) : Type 0 where
  pub bypass : (header_of octets).bypass ≡ false
  pub control : (header_of octets).control ≡ false
  pub ns : (header_of octets).ns ≡ b.report.vr
  pub more : later.accepted ≡ b.accepted ++ record { ns = (header_of octets).ns; field = drop 5 octets } ∷ []

frame-takes : (c : Settings) (b : ChannelState) (octets : List ℕ) (row : Row) (st : State) → row_of c b octets ≡ row → b.report.state ≡ st
    → ((after_frame row octets b).accepted ≡ b.accepted) ⊎ IsTaken octets b (after_frame row octets b)
frame-takes c b octets E1 S1 e s =
    let h = header_of octets in
    let flags = flags-at_E1 c.width b.report.vr h.ns h.bypass h.control (has_room c b) (drop 5 octets) e in
    let ns : h.ns ≡ b.report.vr = number-at_E1 c.width b.report.vr h.ns h.bypass h.control (has_room c b) (drop 5 octets) e in
    inr (record { bypass = flags.0; control = flags.1; ns = ns; more = rw s refl })
frame-takes c b octets E1 st e s = inl (accepted-kept E1 (accepts E1 b.report) octets b (only_S1 E1 b.report.state (λ _ q. cc (s, q))))
frame-takes c b octets row st e s = inl (accepted-kept row (accepts row b.report) octets b (only_S1 row b.report.state (λ q. absurd cc)))

-- the event adds no accepted frame, or it is a frame that is accepted
pub step-takes : (c : Settings) (b : ChannelState) (e : Event) → ((step c b e).accepted ≡ b.accepted) ⊎ ((octets : List ℕ) × (e ≡ Frame octets) × IsTaken octets b (step c b e))
unfolding passed_on
step-takes c b (Frame octets) = elim (frame-takes c b octets (row_of c b octets) b.report.state refl refl) [
  | inl same ↦ inl same
  | inr taken ↦ inr (octets, refl, taken)
]
step-takes c b _ = inl refl
