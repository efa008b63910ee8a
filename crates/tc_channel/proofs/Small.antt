-- V(R), the number of each accepted frame and the FARM-B counter are within their ranges, so the CLCW fits 32 bits.
use Rattle.tc_channel.proofs.Names.{◌≡◌, ◌≢◌, ℕ, ◌+◌, ◌<◌, Bool, true, false, cond, eqb, ◌&&◌, List, [], ◌∷◌, drop, Option, Some, None, refl, arith, ◌≤◌, unwrap_or, HasStep, Report, State, S1, S2, Kind, Unlock, SetVr, Expected, command_of, control_kind, kind_by, kind_of, Row, E1, E8, E10, row_at, frame_row, entry_at, Settings, Event, Frame, Release, ChannelState, has_room, step, row_of, IsAllowed, IsLawfulWithin, Place, Command, place_of, header_of, passed_on, run_within, clcw_within}
use Rattle.tc_link.specs.declared.Kind.TheVariants.{Bc, Ad}
use Rattle.std.proofs.Common.{◌^◌}
use Rattle.std.proofs.lemmas.List.{get_or-drop}
use Rattle.tc_link.specs.Frame.{IsOctets}
use Rattle.tc_channel.proofs.Runs.{keeps, always}
use Rattle.tc_link.specs.Bits.{bit}
use Rattle.tc_link.specs.declared.Link.{Link}

set-below : (field : List ℕ) (x : ℕ) → IsOctets field → command_of field ≡ Some (SetVr x) → x < 256
set-below (a ∷ []) x h e = by (eqb a 0) e where
  by : (t : Bool) → cond t (Some Unlock) None ≡ Some (SetVr x) → x < 256
  by true e = absurd cc
  by false e = absurd cc
set-below (a ∷ b ∷ y ∷ []) x h e = by (eqb a 0x82 && eqb b 0) e (h 2) where
  by : (t : Bool) → cond t (Some (SetVr y)) None ≡ Some (SetVr x) → y < 256 → x < 256
  by true e small = let q : y ≡ x = cc in rw (← q) small
  by false e small = absurd cc
set-below _ x h e = absurd cc

command-below : (o : Option Command) (x : ℕ) → ((y : ℕ) → o ≡ Some (SetVr y) → y < 256) → control_kind o ≡ Bc (SetVr x) → x < 256
command-below (Some (SetVr y)) x h e = h x cc
command-below _ x h e = absurd cc

kind-below : (bypass control : Bool) (ns : ℕ) (field : List ℕ) (x : ℕ) → IsOctets field → kind_by bypass control ns field ≡ Bc (SetVr x) → x < 256
kind-below false false ns field x h e = absurd cc
kind-below true true ns field x h e = command-below (command_of field) x (λ y. set-below field y h) e
kind-below _ _ ns field x h e = absurd cc

not-set : (place : Place) (room : Bool) (x : ℕ) → row_at place room ≢ E8 x
not-set Expected true x e = cc
not-set _ _ x e = cc

kind-at_E8 : (width vr : ℕ) (kind : Kind) (room : Bool) (x : ℕ) → frame_row width vr kind room ≡ E8 x → kind ≡ Bc (SetVr x)
kind-at_E8 width vr (Ad ns) room x e = absurd (not-set (place_of width vr ns) room x e)
kind-at_E8 width vr (Bc (SetVr y)) room x e = cc
kind-at_E8 width vr _ room x e = absurd cc

row-below : (c : Settings) (b : ChannelState) (octets : List ℕ) (x : ℕ) → IsOctets octets → row_of c b octets ≡ E8 x → x < 256
row-below c b octets x h e =
    kind-below (header_of octets).bypass (header_of octets).control (header_of octets).ns (drop 5 octets) x (λ i. rw (get_or-drop 5 octets i 0) (h (5 + i)))
    (kind-at_E8 c.width b.report.vr (kind_of (header_of octets) (drop 5 octets)) (has_room c b) x e)

left-below : (row : Row) (st : State) (r : Report) → ((x : ℕ) → row ≡ E8 x → x < 256) → r.vr < 256 → (unwrap_or (entry_at row st r) r).vr < 256
left-below E1 S1 r h v = omega arith
left-below (E8 n) S1 r h v = h n refl
left-below (E8 n) S2 r h v = h n refl
left-below row S1 r h v = v
left-below _ _ r h v = v

step-below : (c : Settings) (b : ChannelState) (e : Event) → HasStep c b e → b.report.vr < 256 → (step c b e).report.vr < 256
unfolding passed_on
step-below c b (Frame octets) has v = left-below (row_of c b octets) b.report.state b.report (λ x. row-below c b octets x has.0.each) v
step-below c b Release has v = left-below E10 b.report.state b.report (λ x e. absurd cc) v
step-below c b _ has v = v

pub vr-below : (limits : ℕ → ℕ) (c : Settings) (journal : List Event) → c.first < 256 → IsLawfulWithin limits c journal → (run_within limits c journal).report.vr < 256
vr-below limits c journal first lawful = keeps (λ b. b.report.vr < 256) limits c journal lawful (step-below c) first

-- ---- the CLCW of a lawful journal fits 32 bits
counter-below : (row : Row) (st : State) (r : Report) → r.farm_b < 4 → (unwrap_or (entry_at row st r) r).farm_b < 4
counter-below E1 S1 r h = h
counter-below row S1 r h = omega arith
counter-below _ _ r h = omega arith

step-counter : (c : Settings) (b : ChannelState) (e : Event) → b.report.farm_b < 4 → (step c b e).report.farm_b < 4
unfolding passed_on
step-counter c b (Frame octets) h = counter-below (row_of c b octets) b.report.state b.report h
step-counter c b Release h = counter-below E10 b.report.state b.report h
step-counter c b _ h = h

pub run-counter : (limits : ℕ → ℕ) (c : Settings) (journal : List Event) → (run_within limits c journal).report.farm_b < 4
run-counter limits c journal = always (λ b. b.report.farm_b < 4) limits c journal (step-counter c) (omega arith)

bit-most : (b : Bool) → bit b ≤ 1
bit-most true = omega arith
bit-most false = omega arith

pub clcw-fits : (limits : ℕ → ℕ) (c : Settings) (journal : List Event) (link : Link) → IsAllowed c → IsLawfulWithin limits c journal → clcw_within limits c journal link < 2 ^ 32
unfolding clcw_within
clcw-fits limits c journal link allowed lawful =
    let r = (run_within limits c journal).report in
    omega (arith, allowed.vcid, vr-below limits c journal allowed.first lawful, run-counter limits c journal, bit-most link.no_rf, bit-most link.no_bit_lock, bit-most r.lockout, bit-most r.wait, bit-most r.retransmit)
