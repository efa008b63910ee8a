-- A line of a script is answered on the channels of a receiver, and the answer is reported.
use Rattle.tc_live.proofs.Names.{◌≡◌, ℕ, Option, ap, subst, Progress, IsPerformed, Answer, Receiving, IsInstructed, script_answer, LiveAnswer, FrameCheck, FrameEnds}
use Rattle.tc_rack.specs.declared.instruction.Instruction.{Instruction}
use Rattle.tc_rack.specs.Performing.{IsInstructionAnswered}

pub instructed : (old : Receiving) (check : FrameCheck) (ends : FrameEnds) (scid from : ℕ) (stage new : Progress) (instruction : Instruction) (a : Option Answer) (answer : LiveAnswer)
    → ◌≡◌ {A = Receiving} (record { check = check; ends = ends; scid = scid; stage = stage }) old → from ≡ old.scid
    → IsInstructionAnswered (IsPerformed from) stage instruction new a → answer ≡ script_answer a
    → IsInstructed old instruction (record { check = check; ends = ends; scid = scid; stage = new }) answer
instructed old check ends scid from stage new instruction a answer view same answered reported = (
  a,
  subst (λ (x : ℕ × Progress). IsInstructionAnswered (IsPerformed x.0) x.1 instruction new a) (λ i. (same i, (view i).stage)) answered,
  reported,
  ap (λ (r : Receiving). record r { stage = new }) view,
)
