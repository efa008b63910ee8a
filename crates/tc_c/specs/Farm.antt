-- FARM-1 as a record of numbers, and the arrivals at it.
use Rattle.std.specs.Prelude.{◌≡◌, ℕ, ◌<◌, ◌%◌, ◌==◌, ◌&&◌, Bool, true, false, Result, Ok, Err, is_some, nat_lt, if◌then◌else◌}
use Rattle.tc_link.specs.Bits.{bit}
use Rattle.tc_link.specs.Window.{IsWidth}
use Rattle.tc_link.specs.declared.command.Command.TheVariants.{Unlock, SetVr}
use Rattle.tc_link.specs.declared.command.Kind.TheVariants.{Ad, Bd, Bc, Invalid}
use Rattle.tc_link.specs.declared.farm.Arrival.{Arrival}
use Rattle.tc_link.specs.declared.farm.Arrival.TheVariants.{Frame, Release}
use Rattle.tc_link.specs.declared.farm.State.{State}
use Rattle.tc_link.specs.declared.farm.State.TheVariants.{S1, S2, S3}
use Rattle.tc_link.specs.declared.farm.Report.{Report}
use Rattle.tc_link.specs.Farm.{Machine, row_of, entry, after, first_report}
use Rattle.tc_c_base.specs.declared.status.Status.{Status}
use Rattle.tc_c_base.specs.declared.status.Status.TheVariants.{BadWidth, BadState, BadFarmB, BadFlag, FlagsDisagree, BadArrival, NoEntry}
use Rattle.tc_c.specs.declared.farm.FarmRecord.{FarmRecord}

abbrev pub state_number : State → ℕ
state_number S1 = 1
state_number S2 = 2
state_number S3 = 3

-- the record of FARM-1 with these components
abbrev pub record_of : Machine → FarmRecord
record_of farm = record {
  width = farm.width;
  state = state_number farm.report.state;
  vr = farm.report.vr;
  farm_b = farm.report.farm_b;
  lockout = bit farm.report.lockout;
  wait = bit farm.report.wait;
  retransmit = bit farm.report.retransmit;
}

-- the record when there is no FARM-1
abbrev pub no_record : FarmRecord
no_record = record { width = 0; state = 0; vr = 0; farm_b = 0; lockout = 0; wait = 0; retransmit = 0 }

abbrev pub is_width : ℕ → Bool
is_width width = nat_lt 1 width && (nat_lt width 255 && width % 2 == 0)

abbrev pub state_of : ℕ → Result State Status
state_of number = if number == 1 then Ok S1 else if number == 2 then Ok S2 else if number == 3 then Ok S3 else Err BadState

abbrev pub flag_of : ℕ → Result Bool Status
flag_of number = if number == 0 then Ok false else if number == 1 then Ok true else Err BadFlag

-- FARM-1 can have these flags in a state. The flags are Lockout, Wait and Retransmit, in this order. Lockout is set in
-- S3, and isn't set in S1 and S2. Wait is set in S2, and isn't set in S1. If Wait is set, Retransmit is set too.
abbrev pub agrees : State → Bool → Bool → Bool → Bool
agrees S1 false false retransmit = true
agrees S2 false true true = true
agrees S3 true false retransmit = true
agrees S3 true true true = true
agrees _ _ _ _ = false

-- the result of `next` for the value, or the fault if there is no value
abbrev pub with_ok : {A : Type 0} {B : Type 0} → Result A Status → (A → Result B Status) → Result B Status
with_ok (Ok x) next = next x
with_ok (Err fault) next = Err fault

-- the components that a record has, or the first reason why it has none, in the order below
abbrev pub report_of : FarmRecord → Result Report Status
report_of kept =
    with_ok (state_of kept.state) (λ state.
    if nat_lt 3 kept.farm_b then Err BadFarmB else
    with_ok (flag_of kept.lockout) (λ lockout.
    with_ok (flag_of kept.wait) (λ wait.
    with_ok (flag_of kept.retransmit) (λ retransmit.
    if agrees state lockout wait retransmit
    then Ok (record { state = state; vr = kept.vr; lockout = lockout; wait = wait; retransmit = retransmit; farm_b = kept.farm_b })
    else Err FlagsDisagree))))

abbrev pub farm_of : FarmRecord → Result Machine Status
farm_of kept =
    if is_width kept.width then with_ok (report_of kept) (λ report. Ok (record { width = kept.width; report = report }))
    else Err BadWidth

-- FARM-1 at its start, or the reason why there is none
abbrev pub first_farm : ℕ → ℕ → Result Machine Status
first_farm width first = if is_width width then Ok (record { width = width; report = first_report first }) else Err BadWidth

-- The arrival with this number, or `BadArrival` if there is none. `value` is the N(S) of an AD frame, or the new V(R)
-- of a Set V(R).
abbrev pub arrival_by : ℕ → ℕ → Bool → Result Arrival Status
arrival_by number value room =
    if number == 1 then Ok (Frame (Ad value) room)
    else if number == 2 then Ok (Frame Bd room)
    else if number == 3 then Ok (Frame (Bc Unlock) room)
    else if number == 4 then Ok (Frame (Bc (SetVr value)) room)
    else if number == 5 then Ok (Frame Invalid room)
    else if number == 6 then Ok Release
    else Err BadArrival

abbrev pub arrival_of : ℕ → ℕ → ℕ → Result Arrival Status
arrival_of number value room = with_ok (flag_of room) (arrival_by number value)

-- FARM-1 and the arrival, if the table has an entry for them, or the first reason why there is no such step
abbrev pub asked_of : FarmRecord → ℕ → ℕ → ℕ → Result (Machine × Arrival) Status
asked_of kept number value room =
    with_ok (farm_of kept) (λ farm.
    with_ok (arrival_of number value room) (λ arrival.
    if is_some (entry (row_of farm.width farm.report.vr arrival) farm.report) then Ok (farm, arrival) else Err NoEntry))

-- FARM-1 after the arrival
abbrev pub left : Machine → Arrival → Machine
left farm arrival = record { width = farm.width; report = after (row_of farm.width farm.report.vr arrival) farm.report }

-- a FARM-1 with an allowed width, a FARM-B counter below 4, and flags that agree with its state
pub record IsFarm (farm : Machine) : Type 0 where
  pub width : IsWidth farm.width
  pub farm_b : farm.report.farm_b < 4
  pub flags : agrees farm.report.state farm.report.lockout farm.report.wait farm.report.retransmit ≡ true
