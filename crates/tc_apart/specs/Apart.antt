-- Operations that are performed one after the other, on the channels of a spacecraft or as lines of a script, and those
-- among them that are on one channel.
use Rattle.std.specs.Prelude.{◌≡◌, ◌==◌, ℕ, Bool, false, List, [], ◌∷◌, ◌++◌, filter, Option, Some, None}
use Rattle.tc_text.specs.declared.line.Line.{Line}
use Rattle.tc_text.specs.declared.line.Line.TheVariants as asks
use Rattle.tc_rack.specs.Linked.{Linked}
use Rattle.tc_rack.specs.Operation.{IsAnswerOf}
use Rattle.tc_rack.specs.Progress.{IsPerformed, Progress, rack_for}
use Rattle.tc_rack.specs.Rack.{IsOf, Racked}
use Rattle.tc_rack.specs.declared.answer.Answer.{Answer}
use Rattle.tc_rack.specs.declared.answer.Answer.TheVariants as answers
use Rattle.tc_rack.specs.declared.operation.Operation.{Operation}
use Rattle.tc_rack.specs.declared.operation.Operation.TheVariants.{Frame, Release, Take, Unit as TakeUnit, Clcw}
use Rattle.tc_cli.specs.Written.{AreAnswers, at_first, one_more}

-- an operation with its answer
pub record Answered : Type 0 where
  pub operation : Operation
  pub answer : Answer

abbrev pub operation_of : Answered → Operation
operation_of d = d.operation

-- the flag that is set if this is the answer of the channel with this id to a frame
abbrev pub answers_frame : ℕ → Answer → Bool
answers_frame vcid (answers.Frame own reply) = own == vcid
answers_frame vcid _ = false

-- The flag that is set if the operation was brought to the channel with this id. The operation names that channel or,
-- if it is a frame, that channel answered it.
abbrev pub is_on : ℕ → Operation → Answer → Bool
is_on vcid (Frame octets) answer = answers_frame vcid answer
is_on vcid (Release own) answer = own == vcid
is_on vcid (Take own apid) answer = own == vcid
is_on vcid (TakeUnit own map_id) answer = own == vcid
is_on vcid (Clcw own) answer = own == vcid

abbrev pub is_own : ℕ → Answered → Bool
is_own vcid d = is_on vcid d.operation d.answer

-- the operations were performed one after the other, each with its answer
abbrev pub ArePerformed : List Answered → Racked → Racked → Type 0
ArePerformed [] old new = new ≡ old
ArePerformed (d ∷ done) old new = (mid : Racked) × IsAnswerOf d.operation old d.answer mid × ArePerformed done mid new

-- the operation with its answer, if it was answered
abbrev pub with_answer : Operation → Option Answer → List Answered
with_answer operation None = []
with_answer operation (Some answer) = record { operation = operation; answer = answer } ∷ []

-- the operation of a line with the line's answer, or none if the line has no answer, is blank or sets something up
abbrev pub operation_in : Line → Option Answer → List Answered
operation_in (asks.Frame octets) answer = with_answer (Frame octets) answer
operation_in (asks.Release vcid) answer = with_answer (Release vcid) answer
operation_in (asks.Take vcid apid) answer = with_answer (Take vcid apid) answer
operation_in (asks.Unit vcid map_id) answer = with_answer (TakeUnit vcid map_id) answer
operation_in (asks.Clcw vcid) answer = with_answer (Clcw vcid) answer
operation_in said answer = []

-- the operations of the first lines of a script, each with its line's answer
abbrev pub operations_of : {scid : ℕ} {script rest : List ℕ} {answers : List (Option Answer)} {progress : Progress} → AreAnswers (IsPerformed scid) script answers progress rest → List Answered
operations_of at_first = []
operations_of (one_more {answer = answer} lines next (said, is, does, answered)) = operations_of lines ++ operation_in said answer

-- the first lines of the script are good, and lead to this progress
abbrev pub LeadsTo : ℕ → List ℕ → Progress → Type 0
LeadsTo scid script progress = (answers : List (Option Answer)) × (rest : List ℕ) × AreAnswers (IsPerformed scid) script answers progress rest

-- The first lines of a script are good. These are their operations on the channel with this id, and this is the channel
-- after them.
abbrev pub HasPerformed : ℕ → List ℕ → ℕ → List Answered → Linked → Type 0
HasPerformed scid script vcid done channel =
    (answers : List (Option Answer)) × (progress : Progress) × (rest : List ℕ) × (lines : AreAnswers (IsPerformed scid) script answers progress rest)
    × (done ≡ filter (is_own vcid) (operations_of lines)) × IsOf (rack_for scid progress) vcid (λ c. c ≡ channel)
