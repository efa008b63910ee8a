-- A script whose operations are sorted by their channels: the jobs so far, and the job that a line adds to them.
use Rattle.std.specs.Prelude.{◌≡◌, ◌⊎◌, ℕ, ◌+◌, List, [], Ok}
use Rattle.tc_channel.specs.Journal.{History}
use Rattle.tc_station.specs.declared.work.Order.TheVariants as orders
use Rattle.tc_text.specs.Reading.{IsFirstLine}
use Rattle.tc_text.specs.Word.{words}
use Rattle.tc_text.specs.Line.{line_of}
use Rattle.tc_text.specs.declared.line.Line.{Line as Said}
use Rattle.tc_text.specs.declared.fault.ScriptFault.{ScriptFault}
use Rattle.tc_text.specs.declared.fault.ScriptFault.TheVariants.{Unbalanced}
use Rattle.tc_cli.specs.Parting.{Parted, IsNewlyParted, IsGiven, IsFrameGiven, IsWorkedOut, IsWorkedUnbalanced}
use Rattle.tc_rack.specs.Instruction.{instruction_of}
use Rattle.tc_rack.specs.Phase.{Setup, Does}
use Rattle.tc_rack.specs.declared.instruction.Instruction.{Instruction}
use Rattle.tc_rack.specs.declared.instruction.Instruction.TheVariants.{Nothing, Channel, Add, Frame, Release, Take, Unit as TakeUnit, Clcw}
use Rattle.tc_rack.specs.Stage.{phase_of}
use Rattle.tc_rack.specs.declared.stage.Stage.{Stage}
use Rattle.tc_rack.specs.declared.stage.Stage.TheVariants.{SettingUp, Operating}

abbrev pub Plan : Type 0
Plan = Stage Parted

-- `found` is the station and the jobs that an operation finds. If no operation came before, the station is new, and there
-- are no jobs yet.
abbrev pub ArePartedFor : ℕ → Plan → Parted → Type 0
ArePartedFor scid (SettingUp list) found = IsNewlyParted scid list found
ArePartedFor scid (Operating parted) found = found ≡ parted

-- the second plan is in operation, with the jobs that an operation finds in the first plan
abbrev pub Begins : ℕ → Plan → Plan → Type 0
Begins scid old new = (found : Parted) × ArePartedFor scid old found × (new ≡ Operating found)

abbrev pub GivesToFound : ℕ → (Parted → Parted → Type 0) → Plan → Plan → Type 0
GivesToFound scid Gives old new = (found parted : Parted) × ArePartedFor scid old found × Gives found parted × (new ≡ Operating parted)

-- The job of a line is appended to the list of its channel. A blank line or a request for a CLCW has no job. Nothing is
-- stated about a line that sets something up, because the phase determines its effect.
abbrev pub IsParted : ℕ → ℕ → Plan → Instruction → Plan → Type 0
IsParted scid line old Nothing new = new ≡ old
IsParted scid line old (Channel settings) new = Unit {0}
IsParted scid line old (Add vcid addition) new = Unit {0}
IsParted scid line old (Frame octets) new = GivesToFound scid (IsFrameGiven line octets) old new
IsParted scid line old (Release vcid) new = GivesToFound scid (IsGiven vcid (record { line = line; order = orders.Release })) old new
IsParted scid line old (Take vcid apid) new = GivesToFound scid (IsGiven vcid (record { line = line; order = orders.Take apid })) old new
IsParted scid line old (TakeUnit vcid map_id) new = GivesToFound scid (IsGiven vcid (record { line = line; order = orders.TakeUnit map_id })) old new
IsParted scid line old (Clcw vcid) new = GivesToFound scid (λ before after. after ≡ before) old new

-- the line with this number is good and leads from the first plan to the second, and its job is appended to the list of
-- the line's channel
abbrev pub IsLineParted : ℕ → ℕ → Plan → List ℕ → Plan → Type 0
IsLineParted scid number plan line new =
    (said : Said) × (line_of (words line) ≡ Ok said) × Does (phase_of plan) (instruction_of said) (phase_of new)
    × IsParted scid number plan (instruction_of said) new

-- The script begins with this number of good lines. The job of each line that has one was appended to the list of its
-- channel, with the number of the line. The lines lead to this plan, and leave these octets of the script.
pub data AreParted (scid : ℕ) (script : List ℕ) : ℕ → Plan → List ℕ → Type 0 where
  none_parted : AreParted scid script 0 (SettingUp []) script
  one_parted : {count : ℕ} {plan new : Plan} {rest line after : List ℕ}
      → AreParted scid script count plan rest → IsFirstLine rest line after → IsLineParted scid (count + 1) plan line new
      → AreParted scid script (count + 1) new after

-- These are the channels once the workers of the whole script are done. There are none if no channel was set up.
abbrev pub AreWorkedChannels : ℕ → List ℕ → List History → Type 0
AreWorkedChannels scid script channels =
    (count : ℕ) × (plan : Plan) × AreParted scid script count plan []
    × (((phase_of plan ≡ Setup []) × (channels ≡ [])) ⊎ ((found : Parted) × ArePartedFor scid plan found × IsWorkedOut found channels))

-- the workers of the whole script are done, and its station has a cause of an imbalance
abbrev pub AreWorkedUnbalanced : ℕ → List ℕ → Type 0
AreWorkedUnbalanced scid script =
    (count : ℕ) × (plan : Plan) × (found : Parted) × AreParted scid script count plan [] × ArePartedFor scid plan found × IsWorkedUnbalanced found

-- if a script is reported to be out of balance, there is a cause of the imbalance
abbrev pub HasCause : ℕ → List ℕ → ScriptFault → Type 0
HasCause scid script Unbalanced = AreWorkedUnbalanced scid script
HasCause scid script fault = Unit {0}
