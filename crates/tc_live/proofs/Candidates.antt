-- A candidate in which more than fill follows the frame changes nothing. Any other candidate that passes the check is
-- carried out as a frame line.
use Rattle.tc_live.proofs.Names.{◌≡◌, ◌⊎◌, ℕ, Bool, true, false, List, Option, Some, inl, inr, refl, sym, subst, ap, ◌∙◌, arith, IsTrue, ◌↔◌, not, MatchOption, true≢false, Racked, Stage, instruction_of, IsBad, phase_of, Receiving, IsCandidateDone, IsPassedDone, IsBadCandidate, LiveAnswer, FrameCheck, FrameEnds}
use Rattle.tc_edges.specs.Fecf.Candidate.{IsDelimited, is_fill}
use Rattle.tc_edges.proofs.FecfLemmas.Delimiting.{one-frame}
use Rattle.tc_text.specs.declared.line.Line.{Line}
use Rattle.tc_text.specs.declared.fault.Reason.{Reason}
use Rattle.tc_live.specs.Check.{CarriesMore, FailsCandidate, IsCandidatePassed}

no-fill : (r : Bool) (rest : List ℕ) → r ≡ is_fill rest → IsTrue (not r) → is_fill rest ≡ false
no-fill true rest e t = absurd (true≢false (sym t))
no-fill false rest e t = sym e

is-more : (r : Bool) (rest : List ℕ) → r ≡ is_fill rest → is_fill rest ≡ false → IsTrue (not r)
is-more true rest e none = absurd (true≢false (e ∙ none))
is-more false rest e none = refl

pub carried : (r : Bool) (octets frame rest : List ℕ) → IsDelimited octets frame rest → r ≡ is_fill rest → IsTrue (not r) ↔ CarriesMore octets
carried r octets frame rest found e = (
  λ t. (frame, rest, found, no-fill r rest e t),
  λ other. is-more r rest e (ap is_fill (one-frame frame other.0 rest other.1 found.whole other.2.whole (sym found.parts ∙ other.2.parts)).1 ∙ other.3),
)

-- if no more than fill follows the frame of a candidate, the candidate is carried out as the line that the check
-- returns
pub passed-done : (old new : Receiving) (check : FrameCheck) (ends : FrameEnds) (scid : ℕ) (stage : Stage Racked) (octets shown : List ℕ) (r : Bool) (o : Option Line) (passed : Line) (answer : LiveAnswer)
    → ◌≡◌ {A = Receiving} (record { check = check; ends = ends; scid = scid; stage = stage }) old → shown ≡ octets → IsTrue r ↔ CarriesMore shown → r ≡ false
    → MatchOption o (FailsCandidate check octets) (IsCandidatePassed check octets) → o ≡ Some passed → IsPassedDone old passed new answer → IsCandidateDone old octets new answer
passed-done old new check ends scid stage octets shown r o passed answer view same carries less passes is done =
    let passing : IsCandidatePassed check octets passed = subst (λ (x : Option Line). MatchOption x (FailsCandidate check octets) (IsCandidatePassed check octets)) is passes in
    let own : IsCandidatePassed old.check octets passed = subst (λ (x : FrameCheck). IsCandidatePassed x octets passed) (ap (λ (x : Receiving). x.check) view) passing in
    inr (λ more. true≢false (sym (carries.1 (subst CarriesMore (sym same) more)) ∙ less), inl (passed, own, done))

pub passed-bad : (old : Receiving) (check : FrameCheck) (ends : FrameEnds) (scid : ℕ) (stage : Stage Racked) (octets : List ℕ) (o : Option Line) (passed : Line) (reason : Reason) (NoMemory : Type 0)
    → ◌≡◌ {A = Receiving} (record { check = check; ends = ends; scid = scid; stage = stage }) old
    → MatchOption o (FailsCandidate check octets) (IsCandidatePassed check octets) → o ≡ Some passed
    → NoMemory ⊎ IsBad (phase_of old.stage) (instruction_of passed) reason → NoMemory ⊎ IsBadCandidate old octets reason
passed-bad old check ends scid stage octets o passed reason NoMemory view passes is (inl none) = inl none
passed-bad old check ends scid stage octets o passed reason NoMemory view passes is (inr bad) =
    let passing : IsCandidatePassed check octets passed = subst (λ (x : Option Line). MatchOption x (FailsCandidate check octets) (IsCandidatePassed check octets)) is passes in
    inr (passed, subst (λ (x : FrameCheck). IsCandidatePassed x octets passed) (ap (λ (x : Receiving). x.check) view) passing, bad)
