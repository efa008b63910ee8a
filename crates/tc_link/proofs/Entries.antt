-- The table has an entry for every arrival, except for an expected frame that finds room in S2.
use Rattle.std.proofs.Common.{◌≡◌, ◌≢◌, ℕ, Bool, true, false, refl}
use Rattle.std.specs.Prelude.{IsSome}
use Rattle.tc_link.specs.declared.command.Command.TheVariants.{Unlock, SetVr}
use Rattle.tc_link.specs.declared.command.Kind.{Kind}
use Rattle.tc_link.specs.declared.command.Kind.TheVariants.{Ad, Bd, Bc, Invalid}
use Rattle.tc_link.specs.declared.window.Place.{Place}
use Rattle.tc_link.specs.declared.window.Place.TheVariants.{Expected, Ahead, Behind, Outside}
use Rattle.tc_link.specs.declared.farm.Report.{Report}
use Rattle.tc_link.specs.declared.farm.State.{State}
use Rattle.tc_link.specs.declared.farm.State.TheVariants.{S1, S2}
use Rattle.tc_link.specs.Window.{place_of}
use Rattle.tc_link.specs.Farm.{Row, E1, E6, E7, E8, E9, E10, row_at, frame_row, entry_at, entry}

-- a frame meets row E1 only if there is room for it
pub room-from_E1 : (width vr : ℕ) (kind : Kind) (room : Bool) → frame_row width vr kind room ≡ E1 → room ≡ true
room-from_E1 width vr (Ad ns) room e = at (place_of width vr ns) room e where
  at : (place : Place) (room : Bool) → row_at place room ≡ E1 → room ≡ true
  at Expected true e = refl
  at Expected false e = absurd cc
  at Ahead room e = absurd cc
  at Behind room e = absurd cc
  at Outside room e = absurd cc
room-from_E1 width vr (Bc Unlock) room e = absurd cc
room-from_E1 width vr _ room e = absurd cc

-- each row has an entry in each state, except for E1 in S2
pub enters : (row : Row) (st : State) (r : Report) → (st ≡ S2 → row ≢ E1) → IsSome (entry_at row st r)
enters E1 S2 r h = absurd (h refl refl)
enters row S1 r h = refl
enters _ _ r h = refl

pub frame-enters : (width : ℕ) (r : Report) (kind : Kind) (room : Bool) → ((ns : ℕ) → kind ≡ Ad ns → r.state ≡ S2 → room ≡ false)
    → IsSome (entry (frame_row width r.vr kind room) r)
frame-enters width r (Ad ns) room full = enters (frame_row width r.vr (Ad ns) room) r.state r (λ s e.
    let none = full ns refl s in
    let some = room-from_E1 width r.vr (Ad ns) room e in
    cc (none, some))
frame-enters width r Bd room full = enters E6 r.state r (λ s e. absurd cc)
frame-enters width r (Bc Unlock) room full = enters E7 r.state r (λ s e. absurd cc)
frame-enters width r (Bc (SetVr x)) room full = enters (E8 x) r.state r (λ s e. absurd cc)
frame-enters width r Invalid room full = enters E9 r.state r (λ s e. absurd cc)

pub release-enters : (r : Report) → IsSome (entry E10 r)
release-enters r = enters E10 r.state r (λ s e. absurd cc)
