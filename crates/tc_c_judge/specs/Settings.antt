-- The settings from which judges are created, and their first faults.
use Rattle.std.specs.Prelude.{ℕ, ◌%◌, ◌==◌, ◌&&◌, Bool, true, false, Result, Ok, Err, nat_lt, if◌then◌else◌}
use Rattle.tc_c_base.specs.declared.status.Status.{Status}
use Rattle.tc_c_base.specs.declared.status.Status.TheVariants.{BadFlag, BadScid, BadVcid, BadWidth}
use Rattle.tc_judge.specs.declared.account.Rules.{Rules}
use Rattle.tc_c_judge.specs.declared.settings.JudgeSettings.{JudgeSettings}

abbrev pub bool_of : ℕ → Result Bool Status
bool_of number = if number == 0 then Ok false else if number == 1 then Ok true else Err BadFlag

abbrev pub is_window_width : ℕ → Bool
is_window_width width = nat_lt 1 width && (nat_lt width 255 && width % 2 == 0)

-- the result of `next` for the value, or the fault if there is no value
abbrev pub then_ok : {A : Type 0} {B : Type 0} → Result A Status → (A → Result B Status) → Result B Status
then_ok (Ok x) next = next x
then_ok (Err fault) next = Err fault

-- the rules by which a receiver is judged, or the first fault of the settings, in the order below
abbrev pub rules_of : JudgeSettings → Result Rules Status
rules_of s =
    if nat_lt 1023 s.scid then Err BadScid
    else if nat_lt 63 s.vcid then Err BadVcid
    else if is_window_width s.width then
    then_ok (bool_of s.lossy) (λ lossy.
    then_ok (bool_of s.profile) (λ profile.
    Ok (record { window = s.width; lossy = lossy; profile = profile })))
    else Err BadWidth

-- the window of a sender, or the reason why there is none
abbrev pub sender_window_of : ℕ → Result ℕ Status
sender_window_of width = if nat_lt 0 width && nat_lt width 128 then Ok width else Err BadWidth
