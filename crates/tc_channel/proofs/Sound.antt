-- FARM-1's flags agree with its state and with the buffer: in S2 the Wait flag is set, and while it is set there is no
-- room.
use Rattle.tc_channel.proofs.Names.{◌≡◌, ◌≢◌, ℕ, Bool, true, false, List, drop, refl, IsSome, unwrap_or, Report, State, S1, S2, S3, Kind, Unlock, Expected, Ahead, Behind, Outside, kind_of, Row, E1, E8, E10, row_at, frame_row, entry_at, entry, after, Settings, Event, Frame, Release, ChannelState, has_room, step, row_of, after_frame, Place, place_of, header_of, passed_on, run_within}
use Rattle.tc_link.specs.declared.Kind.TheVariants.{Bc, Ad}
use Rattle.tc_link.specs.Farm.{E2, E5, E7}
use Rattle.tc_channel.specs.Run.{after_release}
use Rattle.tc_channel.specs.Laws.{IsSound}
use Rattle.tc_channel.proofs.Runs.{always}

-- the flags Wait and Lockout, and whether there is room, agree with the state
abbrev pub SoundAt : State → Bool → Bool → Bool → Type 0
SoundAt S1 wait lockout room = (wait ≡ false) × (lockout ≡ false)
SoundAt S2 wait lockout room = (wait ≡ true) × (lockout ≡ false) × (room ≡ false)
SoundAt S3 wait lockout room = (lockout ≡ true) × (wait ≡ true → room ≡ false)

abbrev pub Sound : Bool → Report → Type 0
Sound room r = SoundAt r.state r.wait r.lockout room

-- E1 occurs only if there is room, and E2 only if there is none
room-of : (width vr : ℕ) (kind : Kind) (room : Bool) → (frame_row width vr kind room ≡ E1 → room ≡ true) × (frame_row width vr kind room ≡ E2 → room ≡ false)
room-of width vr (Ad ns) room = at (place_of width vr ns) room where
  at : (place : Place) (room : Bool) → (row_at place room ≡ E1 → room ≡ true) × (row_at place room ≡ E2 → room ≡ false)
  at Expected true = (λ e. refl, λ e. absurd cc)
  at Expected false = (λ e. absurd cc, λ e. refl)
  at Ahead room = (λ e. absurd cc, λ e. absurd cc)
  at Behind room = (λ e. absurd cc, λ e. absurd cc)
  at Outside room = (λ e. absurd cc, λ e. absurd cc)
room-of width vr (Bc Unlock) room = (λ e. absurd cc, λ e. absurd cc)
room-of width vr _ room = (λ e. absurd cc, λ e. absurd cc)

pub room-at_E1 : (c : Settings) (b : ChannelState) (octets : List ℕ) → row_of c b octets ≡ E1 → has_room c b ≡ true
room-at_E1 c b octets e = (room-of c.width b.report.vr (kind_of (header_of octets) (drop 5 octets)) (has_room c b)).0 e

full-at_E2 : (c : Settings) (b : ChannelState) (octets : List ℕ) → row_of c b octets ≡ E2 → has_room c b ≡ false
full-at_E2 c b octets e = (room-of c.width b.report.vr (kind_of (header_of octets) (drop 5 octets)) (has_room c b)).1 e

-- the components that an entry of the table leaves, or the old ones if there is no entry
abbrev pub Left : Row → State → Report → Report
Left row st r = unwrap_or (entry_at row st r) r

entry-sound : (row : Row) (st : State) (r : Report) (room : Bool) → r.state ≡ st → (row ≡ E2 → room ≡ false) → SoundAt st r.wait r.lockout room → Sound room (Left row st r)
entry-sound E2 S1 r room e full h = (refl, h.1, full refl)
entry-sound E5 S1 r room e full h = (refl, λ w. absurd (let f = h.0 in cc))
entry-sound E5 S2 r room e full h = (refl, λ w. h.2)
entry-sound E7 S2 r room e full h = (refl, h.1)
entry-sound E7 S3 r room e full h = (refl, refl)
entry-sound (E8 x) S2 r room e full h = (refl, h.1)
entry-sound E10 S2 r room e full h = (refl, h.1)
entry-sound E10 S3 r room e full h = rw e (h.0, λ w. absurd cc)
entry-sound row S1 r room e full h = rw e h
entry-sound _ _ r room e full h = rw e h

-- components that agree with their state and with the buffer still do so after E10, with room or without
released-sound : (st : State) (r : Report) (room later : Bool) → r.state ≡ st → SoundAt st r.wait r.lockout room → Sound later (Left E10 st r)
released-sound S1 r room later e h = rw e h
released-sound S2 r room later e h = (refl, h.1)
released-sound S3 r room later e h = rw e (h.0, λ w. absurd cc)

frame-sound : (c : Settings) (b : ChannelState) (octets : List ℕ) (row : Row) → row_of c b octets ≡ row → Sound (has_room c b) b.report
    → Sound (has_room c (after_frame row octets b)) (after row b.report)
unfolding passed_on
frame-sound c b octets E1 e h = at b.report.state refl where
  at : (st : State) → b.report.state ≡ st → Sound (has_room c (after_frame E1 octets b)) (after E1 b.report)
  at S1 s = rw s (let k : SoundAt S1 b.report.wait b.report.lockout (has_room c b) = rw s at h in k)
  at S2 s = absurd (let k : SoundAt S2 b.report.wait b.report.lockout (has_room c b) = rw s at h in let t = room-at_E1 c b octets e in cc (k.2, t))
  at S3 s = rw s (let k : SoundAt S3 b.report.wait b.report.lockout (has_room c b) = rw s at h in k)
frame-sound c b octets E2 e h = entry-sound E2 b.report.state b.report (has_room c b) refl (λ q. full-at_E2 c b octets e) h
frame-sound c b octets row e h = entry-sound row b.report.state b.report (has_room c b) refl (λ q. absurd cc) h

step-sound : (c : Settings) (b : ChannelState) (e : Event) → Sound (has_room c b) b.report → Sound (has_room c (step c b e)) (step c b e).report
step-sound c b (Frame octets) h = frame-sound c b octets (row_of c b octets) refl h
step-sound c b Release h = released-sound b.report.state b.report (has_room c b) (has_room c (after_release b)) refl h
step-sound c b _ h = h

pub run-sound : (limits : ℕ → ℕ) (c : Settings) (journal : List Event) → Sound (has_room c (run_within limits c journal)) (run_within limits c journal).report
run-sound limits c journal = always (λ b. Sound (has_room c b) b.report) limits c journal (step-sound c) (refl, refl)

in-S2 : (room : Bool) (st : State) (r : Report) → SoundAt st r.wait r.lockout room → (st ≡ S2 → r.wait ≡ true) × (r.wait ≡ true → room ≡ false) × (r.wait ≡ true → st ≢ S1) × (r.lockout ≡ true → st ≡ S3) × (st ≡ S3 → r.lockout ≡ true)
in-S2 room S1 r h = let w = h.0 in let l = h.1 in (λ s. absurd cc, λ t. absurd cc, λ t. absurd cc, λ t. absurd cc, λ s. absurd cc)
in-S2 room S2 r h = let l = h.1 in (λ s. h.0, λ t. h.2, λ t s. cc, λ t. absurd cc, λ s. absurd cc)
in-S2 room S3 r h = (λ s. absurd cc, h.1, λ t s. cc, λ t. refl, λ s. h.0)

pub state-sound : (limits : ℕ → ℕ) (c : Settings) (journal : List Event) → IsSound c (run_within limits c journal)
state-sound limits c journal =
    let h = in-S2 (has_room c (run_within limits c journal)) (run_within limits c journal).report.state (run_within limits c journal).report (run-sound limits c journal) in
    record { waits = h.0; full = h.1; never_open = h.2; locked = h.3; lockout = h.4 }

-- The law of tc_link on arrivals: the table has an entry for each frame, except for a Type-AD frame that comes in S2
-- and finds room.
abbrev pub HaveEntries : Type 0
HaveEntries = (width : ℕ) (r : Report) (kind : Kind) (room : Bool) → ((ns : ℕ) → kind ≡ Ad ns → r.state ≡ S2 → room ≡ false)
    → IsSome (entry (frame_row width r.vr kind room) r)

-- a frame has an entry in each sound state
pub frame-enters : HaveEntries → (c : Settings) (b : ChannelState) → IsSound c b → (octets : List ℕ) → IsSome (entry (row_of c b octets) b.report)
frame-enters entries c b sound octets = entries c.width b.report (kind_of (header_of octets) (drop 5 octets)) (has_room c b) (λ ns k s. sound.full (sound.waits s))
