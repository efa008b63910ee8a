-- A script that a session and tcrx carry out, line by line.
use Rattle.std.proofs.Common.{◌≡◌, ◌⊎◌, ◌∙◌, ◌++◌, ◌∷◌, ◌+◌, ◌-◌, ◌^◌, ℕ, List, [], Bool, true, false, Option, Some, None, arith, length, min, refl, sym, ap, subst, inl, inr}
use Rattle.std.proofs.lemmas.Grind.{flat_map-append}
use Rattle.std.proofs.lemmas.List.{append-nil, length-append}
use Rattle.std.specs.Prelude.{codes, IsPermutation}
use Rattle.std.specs.List.{flat_map}
use Rattle.std.specs.Io.KnownBytes.{Appends}
use Rattle.tc_cli.specs.Script.{IsBadLine}
use Rattle.tc_cli.specs.Written.{AreAnswers, IsLineAnswered, IsScriptWritten, answers_text, at_first, one_more}
use Rattle.tc_live.specs.Check.{IsPassed, FailsCheck}
use Rattle.tc_live.specs.Printed.{live_text}
use Rattle.tc_live.specs.Receiver.{Receiving, IsBadScriptLine, IsScriptLineAnswered, new_receiver, script_answer}
use Rattle.tc_live.specs.Serving.{IsFinalReport}
use Rattle.tc_live.specs.declared.answer.LiveAnswer.{LiveAnswer}
use Rattle.tc_live.specs.declared.check.FrameCheck.{FrameCheck}
use Rattle.tc_live.specs.declared.check.FrameCheck.TheVariants.{Nothing}
use Rattle.tc_text.specs.Printed.{fault_text}
use Rattle.tc_text.specs.Reading.{IsFirstLine}
use Rattle.tc_text.specs.declared.fault.Reason.{Reason}
use Rattle.tc_text.specs.declared.fault.Reason.TheVariants.{NoMemory}
use Rattle.tc_text.specs.declared.fault.ScriptFault.TheVariants as faults
use Rattle.tc_text.specs.declared.line.Line.{Line}
use Rattle.tc_rack.specs.Printed.{answer_line}
use Rattle.tc_rack.specs.Performing.{IsInstructionAnswered}
use Rattle.tc_rack.specs.Progress.{IsPerformed, Progress, rack_for}
use Rattle.tc_rack.specs.Rack.{histories}
use Rattle.tc_rack.specs.Report.{IsReportOf}
use Rattle.tc_channel.specs.Journal.{History}
use Rattle.tc_rack.specs.Stage.{phase_of}
use Rattle.tc_rack.specs.declared.answer.Answer.{Answer}
use Rattle.tc_rack.specs.Instruction.{instruction_of}
use Rattle.tc_rack.specs.Phase.{Does, IsBad}
use Rattle.tc_session.specs.Session.{IsEngineEnded, IsEngineSaid, IsScriptLineSaid}
use Rattle.tc_session.specs.declared.engine.Engine.{Engine}
use Rattle.tc_session.specs.declared.engine.Engine.TheVariants.{Script}
use Rattle.tc_session.specs.declared.session.Said.TheVariants.{Done}
use Rattle.tc_apart.specs.Sessions.{AreSaid, none_said, one_said}

said-alike : (a : Option Answer) → live_text (script_answer a) ≡ answer_line a
said-alike None = refl
said-alike (Some answer) = refl

-- a line of a script has the same answer and the same effect in a session as in `tcrx run`
line-done : (old new : Receiving) (line : List ℕ) (answer : LiveAnswer) → old.check ≡ Nothing → IsScriptLineAnswered old line new answer
    → (a : Option Answer) × IsLineAnswered (IsPerformed old.scid) old.stage line new.stage a × (live_text answer ≡ answer_line a) × (new.check ≡ Nothing) × (new.scid ≡ old.scid)
line-done old new line answer none (said, is, inl (passed, passes, (done, ((a, answered, reported, same), does), noted))) =
    let alike : passed ≡ said = subst (λ (c : FrameCheck). IsPassed c said passed) none passes in
    let stage : done.stage ≡ new.stage = sym (ap (λ (x : Receiving). x.stage) noted) in
    let good = subst (λ (l : Line). Does (phase_of old.stage) (instruction_of l) (phase_of done.stage)) alike does in
    let so = subst (λ (l : Line). IsInstructionAnswered (IsPerformed old.scid) old.stage (instruction_of l) done.stage a) alike answered in (
      a,
      (
        said,
        is,
        subst (λ (s : Progress). Does (phase_of old.stage) (instruction_of said) (phase_of s)) stage good,
        subst (λ (s : Progress). IsInstructionAnswered (IsPerformed old.scid) old.stage (instruction_of said) s a) stage so,
      ),
      ap live_text reported ∙ said-alike a,
      ap (λ (x : Receiving). x.check) noted ∙ ap (λ (x : Receiving). x.check) same ∙ none,
      ap (λ (x : Receiving). x.scid) noted ∙ ap (λ (x : Receiving). x.scid) same,
    )
line-done old new line answer none (said, is, inr (fails, reported, same)) = absurd (subst (λ (c : FrameCheck). FailsCheck c said) none fails)

-- Lines that were given to a session have the same answers in `tcrx run`.
record Alike (scid : ℕ) (script texts : List ℕ) (engine : Engine) (rest : List ℕ) : Type 0 where
  receiver : Receiving
  answers : List (Option Answer)
  is : engine ≡ Script receiver (min (length answers) (2 ^ 32 - 1))
  are : AreAnswers (IsPerformed scid) script answers receiver.stage rest
  alike : texts ≡ answers_text answers
  unchecked : receiver.check ≡ Nothing
  same : receiver.scid ≡ scid

text-more : (answers : List (Option Answer)) (a : Option Answer) (texts text : List ℕ) → texts ≡ answers_text answers → text ≡ answer_line a
    → texts ++ text ≡ answers_text (answers ++ a ∷ [])
text-more answers a texts text e f =
    (λ i. e i ++ f i) ∙ ap (λ (l : List ℕ). answers_text answers ++ l) (sym (append-nil (answer_line a))) ∙ sym (flat_map-append answer_line answers (a ∷ []))

count-more : (answers : List (Option Answer)) (a : Option Answer) → min (min (length answers) (2 ^ 32 - 1) + 1) (2 ^ 32 - 1) ≡ min (length (answers ++ a ∷ [])) (2 ^ 32 - 1)
count-more answers a = let more : length (answers ++ a ∷ []) ≡ length answers + 1 = length-append answers (a ∷ []) in omega (arith, more)

alike-so : (scid : ℕ) (script texts : List ℕ) (engine : Engine) (rest : List ℕ) → AreSaid scid script texts engine rest → Alike scid script texts engine rest
alike-so scid script _ _ _ none_said =
    record { receiver = new_receiver Nothing scid; answers = []; is = refl; are = at_first; alike = refl; unchecked = refl; same = refl }
alike-so scid script _ new after (one_said {texts} {rest} {line} {engine = engine} text before first said) =
    let so = alike-so scid script texts engine rest before in
    let at = subst (λ (e : Engine). IsEngineSaid true e line new text) so.is said in
    let receiver = at.0 in let answer = at.1.0 in let done = line-done so.receiver receiver line answer so.unchecked at.1.1 in
    let answered = subst (λ (n : ℕ). IsLineAnswered (IsPerformed n) so.receiver.stage line receiver.stage done.0) so.same done.1 in
    record {
      receiver = receiver;
      answers = so.answers ++ done.0 ∷ [];
      is = at.2 ∙ ap (Script receiver) (count-more so.answers done.0);
      are = one_more so.are first answered;
      alike = text-more so.answers done.0 texts text so.alike (at.1.2 ∙ done.2);
      unchecked = done.3;
      same = done.4 ∙ so.same;
    }

-- if a line of a script is bad in a session, it is bad in `tcrx run` for the same reason
bad-alike : (receiver : Receiving) (line : List ℕ) (reason : Reason) → receiver.check ≡ Nothing → (reason ≡ NoMemory) ⊎ IsBadScriptLine receiver line reason
    → (reason ≡ NoMemory) ⊎ IsBadLine (phase_of receiver.stage) line reason
bad-alike receiver line reason none (inl memory) = inl memory
bad-alike receiver line reason none (inr (inl unparsed)) = inr (inl unparsed)
bad-alike receiver line reason none (inr (inr (said, is, (passed, passes, bad)))) =
    let alike : passed ≡ said = subst (λ (c : FrameCheck). IsPassed c said passed) none passes in
    inr (inr (said, is, subst (λ (l : Line). IsBad (phase_of receiver.stage) (instruction_of l) reason) alike bad))

-- the text is the report of the script's channels, in some order
abbrev IsReport : ℕ → Progress → List ℕ → Type 0
IsReport scid progress text = (channels : List History) × IsPermutation (histories (rack_for scid progress)) channels × IsReportOf channels text

pub answers-alike : (scid : ℕ) (script texts rest : List ℕ) (engine : Engine) → AreSaid scid script texts engine rest
    → (answers : List (Option Answer)) × (progress : Progress) × AreAnswers (IsPerformed scid) script answers progress rest × (texts ≡ answers_text answers)
answers-alike scid script texts rest engine said = let so = alike-so scid script texts engine rest said in (so.answers, so.receiver.stage, so.are, so.alike)

pub whole-alike : (scid : ℕ) (script texts report : List ℕ) (engine : Engine) (old new : Option (List ℕ)) → AreSaid scid script texts engine [] → IsEngineEnded Done engine report
    → Appends old new (texts ++ report) → IsScriptWritten scid script old new
whole-alike scid script texts report engine old new said ended written =
    let so = alike-so scid script texts engine [] said in
    let final : IsFinalReport so.receiver report = subst (λ (e : Engine). IsEngineEnded Done e report) so.is ended in (
      so.answers,
      so.receiver.stage,
      report,
      so.are,
      inr (subst (λ (n : ℕ). IsReport n so.receiver.stage report) so.same final),
      subst (λ (l : List ℕ). Appends old new (l ++ report)) so.alike written,
    )

pub fault-alike : (scid : ℕ) (script texts rest line text : List ℕ) (engine left : Engine) → AreSaid scid script texts engine rest → IsEngineSaid false engine line left text
    → (answers : List (Option Answer)) × (progress : Progress) × (reason : Reason) × AreAnswers (IsPerformed scid) script answers progress rest
    × (text ≡ fault_text (faults.Line (min (length answers + 1) (2 ^ 32 - 1)) reason) ++ codes "\n") × ((reason ≡ NoMemory) ⊎ IsBadLine (phase_of progress) line reason)
fault-alike scid script texts rest line text engine left said bad =
    let so = alike-so scid script texts engine rest said in
    let at = subst (λ (e : Engine). IsEngineSaid false e line left text) so.is bad in
    let reason = at.1.0 in
    let number : min (min (length so.answers) (2 ^ 32 - 1) + 1) (2 ^ 32 - 1) ≡ min (length so.answers + 1) (2 ^ 32 - 1) = omega arith in
    (so.answers, so.receiver.stage, reason, so.are, at.1.3 ∙ ap (λ (n : ℕ). fault_text (faults.Line n reason) ++ codes "\n") number, bad-alike so.receiver line reason so.unchecked at.1.1)
