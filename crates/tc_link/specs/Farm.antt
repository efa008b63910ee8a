-- The table of FARM-1 (this project's profile of CCSDS 232.1-B, 6.3).
use Rattle.std.specs.Prelude.{ℕ, ◌+◌, ◌%◌, Bool, true, false, Option, Some, None, unwrap_or}
use Rattle.tc_link.specs.declared.command.Command.{Command}
use Rattle.tc_link.specs.declared.command.Command.TheVariants.{Unlock, SetVr}
use Rattle.tc_link.specs.declared.command.Kind.{Kind}
use Rattle.tc_link.specs.declared.command.Kind.TheVariants.{Ad, Bd, Bc, Invalid}
use Rattle.tc_link.specs.declared.window.Place.{Place}
use Rattle.tc_link.specs.declared.window.Place.TheVariants.{Expected, Ahead, Behind, Outside}
use Rattle.tc_link.specs.declared.farm.State.{State}
use Rattle.tc_link.specs.declared.farm.State.TheVariants.{S1, S2, S3}
use Rattle.tc_link.specs.declared.farm.Report.{Report}
use Rattle.tc_link.specs.declared.farm.Arrival.{Arrival}
use Rattle.tc_link.specs.declared.farm.Arrival.TheVariants.{Frame, Release}
use Rattle.tc_link.specs.Window.{place_of}

-- The rows of the table, which are FARM-1's events. A Type-AD frame is one of E1 to E5 (`row_at`), a Type-BD frame is
-- E6, Unlock is E7, Set V(R) is E8 with the number that it sets, an invalid frame is E9, and a buffer release is E10.
pub data Row : Type 0 where
  E1 : Row
  E2 : Row
  E3 : Row
  E4 : Row
  E5 : Row
  E6 : Row
  E7 : Row
  E8 : ℕ → Row
  E9 : Row
  E10 : Row

abbrev pub number_of : Row → ℕ
number_of E1 = 1
number_of E2 = 2
number_of E3 = 3
number_of E4 = 4
number_of E5 = 5
number_of E6 = 6
number_of E7 = 7
number_of (E8 x) = 8
number_of E9 = 9
number_of E10 = 10

abbrev pub row_at : Place → Bool → Row
row_at Expected true = E1
row_at Expected false = E2
row_at Ahead room = E3
row_at Behind room = E4
row_at Outside room = E5

abbrev pub command_row : Command → Row
command_row Unlock = E7
command_row (SetVr x) = E8 x

-- the row of a frame, by the window's width, V(R), the kind of the frame, and whether there is room for it
abbrev pub frame_row : ℕ → ℕ → Kind → Bool → Row
frame_row width vr (Ad ns) room = row_at (place_of width vr ns) room
frame_row width vr Bd room = E6
frame_row width vr (Bc command) room = command_row command
frame_row width vr Invalid room = E9

abbrev pub row_of : ℕ → ℕ → Arrival → Row
row_of width vr (Frame kind room) = frame_row width vr kind room
row_of width vr Release = E10

abbrev pub counted : Report → Report
counted r = record r { farm_b = (r.farm_b + 1) % 4 }

-- The entry of a row in a state: the six components after an arrival, by those before it. It is `None` if the table has
-- no entry, which is so only for row E1 in S2.
abbrev pub entry_at : Row → State → Report → Option Report
entry_at E1 S1 r = Some (record r { vr = (r.vr + 1) % 256; retransmit = false })
entry_at E1 S2 r = None
entry_at E1 S3 r = Some r
entry_at E2 S1 r = Some (record r { state = S2; retransmit = true; wait = true })
entry_at E2 S2 r = Some r
entry_at E2 S3 r = Some r
entry_at E3 S1 r = Some (record r { retransmit = true })
entry_at E3 S2 r = Some r
entry_at E3 S3 r = Some r
entry_at E4 S1 r = Some r
entry_at E4 S2 r = Some r
entry_at E4 S3 r = Some r
entry_at E5 S1 r = Some (record r { state = S3; lockout = true })
entry_at E5 S2 r = Some (record r { state = S3; lockout = true })
entry_at E5 S3 r = Some r
entry_at E6 S1 r = Some (counted r)
entry_at E6 S2 r = Some (counted r)
entry_at E6 S3 r = Some (counted r)
entry_at E7 S1 r = Some (record (counted r) { retransmit = false })
entry_at E7 S2 r = Some (record (counted r) { state = S1; retransmit = false; wait = false })
entry_at E7 S3 r = Some (record (counted r) { state = S1; retransmit = false; wait = false; lockout = false })
entry_at (E8 x) S1 r = Some (record (counted r) { vr = x; retransmit = false })
entry_at (E8 x) S2 r = Some (record (counted r) { state = S1; vr = x; retransmit = false; wait = false })
entry_at (E8 x) S3 r = Some (counted r)
entry_at E9 S1 r = Some r
entry_at E9 S2 r = Some r
entry_at E9 S3 r = Some r
entry_at E10 S1 r = Some r
entry_at E10 S2 r = Some (record r { state = S1; wait = false })
entry_at E10 S3 r = Some (record r { wait = false })

abbrev pub entry : Row → Report → Option Report
entry row r = entry_at row r.state r

-- whether a frame is accepted: in row E1 only in S1, and in row E6 in every state
abbrev pub accepts_at : Row → State → Bool
accepts_at E1 S1 = true
accepts_at E6 state = true
accepts_at _ _ = false

abbrev pub accepts : Row → Report → Bool
accepts row r = accepts_at row r.state

-- The components after a row. If the row has no entry, this value doesn't matter, because a step requires an entry.
abbrev pub after : Row → Report → Report
after row r = unwrap_or (entry row r) r

-- the components with which a channel starts
abbrev pub first_report : ℕ → Report
first_report first = record { state = S1; vr = first; lockout = false; wait = false; retransmit = false; farm_b = 0 }

-- FARM-1 with its window
pub record Machine : Type 0 where
  pub width : ℕ
  pub report : Report
