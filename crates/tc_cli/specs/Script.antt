-- The lines of a script in order, and the lines at which a script ends early.
use Rattle.std.specs.Prelude.{◌≡◌, ◌<◌, ◌≤◌, ℕ, ◌+◌, List, [], ◌⊎◌, length, Ok, Err}
use Rattle.tc_text.specs.Reading.{IsFirstLine, script_limit}
use Rattle.tc_text.specs.Word.{words}
use Rattle.tc_text.specs.Line.{line_of}
use Rattle.tc_rack.specs.Instruction.{instruction_of}
use Rattle.tc_rack.specs.Phase.{Phase, Setup, Does, IsBad}
use Rattle.tc_text.specs.declared.line.Line.{Line as Said}
use Rattle.tc_text.specs.declared.fault.Reason.{Reason}
use Rattle.tc_text.specs.declared.fault.Reason.TheVariants.{NoMemory}
use Rattle.tc_text.specs.declared.fault.ScriptFault.{ScriptFault}
use Rattle.tc_text.specs.declared.fault.ScriptFault.TheVariants.{Line, Read, TooLong, Write, Unbalanced}
use Rattle.tc_station.specs.Roster.{Roster}
use Rattle.tc_station.specs.Tally.{AtStation}
use Rattle.tc_station.specs.Together.{IsCauseAtStation}
use Rattle.tc_desk.specs.declared.together.Refusal.{Refusal}
use Rattle.tc_desk.specs.declared.together.Refusal.TheVariants as refusals

-- the line is good, and leads from the first phase to the second
abbrev pub IsGoodLine : Phase → List ℕ → Phase → Type 0
IsGoodLine phase line new = (said : Said) × (line_of (words line) ≡ Ok said) × Does phase (instruction_of said) new

-- the script begins with this number of good lines, which lead to this phase and leave these octets
pub data Leads (script : List ℕ) : ℕ → Phase → List ℕ → Type 0 where
  starts : Leads script 0 (Setup []) script
  goes_on : {count : ℕ} {phase new : Phase} {rest line after : List ℕ}
      → Leads script count phase rest → IsFirstLine rest line after → IsGoodLine phase line new → Leads script (count + 1) new after

-- this is a reason, other than lack of memory, why the line is bad in this phase
abbrev pub IsBadLine : Phase → List ℕ → Reason → Type 0
IsBadLine phase line reason =
    (line_of (words line) ≡ Err reason) ⊎ ((said : Said) × (line_of (words line) ≡ Ok said) × IsBad phase (instruction_of said) reason)

-- the line with this number is the first bad one, for this reason
pub record IsFirstBad (script : List ℕ) (number : ℕ) (reason : Reason) : Type 0 where
  pub before : ℕ
  pub phase : Phase
  pub rest : List ℕ
  pub line : List ℕ
  pub after : List ℕ
  pub leads : Leads script before phase rest
  pub next : IsFirstLine rest line after
  pub number_is : number ≡ before + 1
  pub bad : IsBadLine phase line reason

-- each line of the script is good
abbrev pub IsGood : List ℕ → Type 0
IsGood script = (count : ℕ) × (phase : Phase) × Leads script count phase []

-- the first `count` lines of a script are good
abbrev pub AreFirstGood : List ℕ → ℕ → Type 0
AreFirstGood script count = (phase : Phase) × (rest : List ℕ) × Leads script count phase rest

-- The line with this number was reached. Either all lines up to it are good, or all lines before it are good and there
-- is such a line. Before the first line, the number is 0.
abbrev pub IsReached : List ℕ → ℕ → Type 0
IsReached script number =
    AreFirstGood script number
    ⊎ ((before : ℕ) × (phase : Phase) × (rest line after : List ℕ) × Leads script before phase rest × IsFirstLine rest line after × (number ≡ before + 1))

-- This is the fault of a script with `lines` lines if its station isn't closed together with these operators. If the
-- station is out of balance, there is a cause of the imbalance.
abbrev pub IsScriptCloseFault : Roster → List AtStation → ℕ → ScriptFault → Type 0
IsScriptCloseFault station operators lines fault = ((fault ≡ Unbalanced) × IsCauseAtStation station operators) ⊎ (fault ≡ Line lines NoMemory)

-- The fault of a script with this number of lines, whose station isn't closed. A lock that isn't free is reported as a
-- lack of memory.
abbrev pub close_fault : ℕ → Refusal → ScriptFault
close_fault lines refusals.NoMemory = Line lines NoMemory
close_fault lines refusals.InUse = Line lines NoMemory
close_fault lines refusals.Unbalanced = Unbalanced

-- this fault ends a script with these octets early
abbrev pub IsScriptFault : List ℕ → ScriptFault → Type 0
IsScriptFault script Read = Unit {0}
IsScriptFault script TooLong = script_limit < length script
IsScriptFault script (Line number reason) = ((reason ≡ NoMemory) × IsReached script number) ⊎ ((length script ≤ script_limit) × IsFirstBad script number reason)
IsScriptFault script Write = length script ≤ script_limit
IsScriptFault script Unbalanced = (length script ≤ script_limit) × IsGood script
