-- An answer is followed by the answers for the items that are handed on.
use Rattle.tc_live.proofs.Names.{ℕ, true, false, List, ◌++◌, Option, Some, None, refl, inl, inr, Appends-trans, Appends, AreAnswersWritten, reported_lines, Script, Link as LinkOf, Report, Deliver, Collect, Candidate, live_text, Receiving, IsLiveLineAnswered, IsLineDone, IsReady, IsFollowedBy, IsLineSaid, IsReported, LiveAnswer}
use Rattle.tc_lines.specs.Answering.{Writes}
use Rattle.tc_text.specs.declared.live.LiveLine.{LiveLine}
use Rattle.tc_rack.specs.declared.answer.Answer.TheVariants.{Frame, Release, Take, Unit as UnitOf, Clcw, Refused}

-- After a line with this answer, the channels are in operation if the answer begins a delivery or a collection.
line-ready : (old new : Receiving) (said : LiveLine) (answer : LiveAnswer) → IsLineDone old said new answer → IsReady answer new
line-ready old new (Script line) answer (inl (passed, passes, (between, ((None, answered, is, same), done), noted))) = rw is tt
line-ready old new (Script line) answer (inl (passed, passes, (between, ((Some a, answered, is, same), done), noted))) = rw is tt
line-ready old new (Script line) answer (inr (fails, is, same)) = rw is tt
line-ready old new (LinkOf vcid link) answer ((true, rack, set, is, becomes), operates) = rw is tt
line-ready old new (LinkOf vcid link) answer ((false, rack, set, is, becomes), operates) = rw is tt
line-ready old new (Report vcid) answer ((None, reported, is, becomes), operates) = rw is tt
line-ready old new (Report vcid) answer ((Some holding, reported, is, becomes), operates) = rw is tt
line-ready old new (Deliver vcid) answer ((a, rack, answered, is, becomes), operates) = rw is operates.1
line-ready old new (Collect vcid) answer ((Refused refusal, asked, is, becomes), operates) = rw is tt
line-ready old new (Collect vcid) answer ((Clcw v word, asked, is, becomes), operates) = rw is operates.1
line-ready old new (Collect vcid) answer ((Frame v reply, asked, is, becomes), operates) = rw is operates.1
line-ready old new (Collect vcid) answer ((Release v delivery, asked, is, becomes), operates) = rw is operates.1
line-ready old new (Collect vcid) answer ((Take v apid packet, asked, is, becomes), operates) = rw is operates.1
line-ready old new (Collect vcid) answer ((UnitOf v map_id unit, asked, is, becomes), operates) = rw is operates.1
line-ready old new (Candidate octets) answer (inl (more, is, same)) = rw is tt
line-ready old new (Candidate octets) answer (inr (less, inl (passed, passes, ((None, answered, is, same), done)))) = rw is tt
line-ready old new (Candidate octets) answer (inr (less, inl (passed, passes, ((Some a, answered, is, same), done)))) = rw is tt
line-ready old new (Candidate octets) answer (inr (less, inr (fails, is, same))) = rw is tt

pub ready : (old new : Receiving) (octets : List ℕ) (answer : LiveAnswer) → IsLiveLineAnswered old octets new answer → IsReady answer new
ready old new octets answer (said, is, done) = line-ready old new said answer done

-- if an answer is written, and then the answers that follow it, the whole answer is reported
pub followed : (answer : LiveAnswer) (old new : Receiving) (a b c : Option (List ℕ)) → Appends a b (live_text answer) → AreAnswersWritten b c (IsFollowedBy answer old new) → Writes a c (IsReported answer old new)
followed answer old new a b c first (answers, follow, rest) = (live_text answer ++ reported_lines answers, (answers, follow, refl), Appends-trans a b c _ _ first rest)

-- if a line has this answer, and this answer is reported with the answers that follow it, the line is answered
pub said : (old between new : Receiving) (octets : List ℕ) (answer : LiveAnswer) (a b : Option (List ℕ)) → IsLiveLineAnswered old octets between answer
    → Writes a b (IsReported answer between new) → Writes a b (IsLineSaid old octets new)
said old between new octets answer a b answered (text, is, written) = (text, inl (answer, between, answered, is), written)
