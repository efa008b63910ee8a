-- If the station of a session was closed together with its one operator, each answer follows from the lines before it.
use Rattle.std.proofs.Common.{◌≡◌, ◌<◌, ℕ, List, [], Option, All, length, get_or, inl, inr, refl, sym, ap, ◌∙◌, subst, arith, IsPermutation}
use Rattle.tc_cli.proofs.Names.{Add, Answer, AreAnswers, AreClosedTogether, AtStation, Channel, Clcw, Does, Frame, History, Instruction, IsAnswerOf, IsClosed, IsDoneSo, IsInstructionAnswered, IsStaffedFound, IsStaffedOperated, IsNumberReported, IsPerformed, IsScriptReport, Staffed, Nothing, Operating, Operation, Phase, Progress, Racked, Release, Roster, Session, SettingUp, Take, TakeUnit, at_first, column, operator_lists_of, histories, instruction_of, nobody, one_more, phase_of, rack-found, rack_for, slice_get-get_or}
use Rattle.tc_cli.specs.Written.{IsSessionReport}
use Rattle.tc_rack.specs.declared.operation.Operation.TheVariants as operations
use Rattle.tc_cli.proofs.Scripts.{set-up}
use Rattle.tc_cli.proofs.Alone.{AloneLaws, IsAlone, IsSound, all-level, all-met-alone, answered-alone, closed-alone, new-rack, new-sound, rack_of}

-- the progress of a session, with the channels as its operator has seen them
abbrev pub progress_of : Session → Progress
progress_of (SettingUp list) = SettingUp list
progress_of (Operating m) = Operating (rack_of m)

abbrev pub IsSoundSession : Session → Type 0
IsSoundSession (SettingUp list) = Unit {0}
IsSoundSession (Operating m) = IsSound m

abbrev pub IsAloneSession : Session → Type 0
IsAloneSession (SettingUp list) = Unit {0}
IsAloneSession (Operating m) = IsAlone m

phase-of : (s : Session) → phase_of s ≡ phase_of (progress_of s)
phase-of (SettingUp list) = refl
phase-of (Operating m) = refl

-- A step leads from the first session to the second, which is sound. If the operator is alone after the step, it was
-- alone before the step, and `Holds` holds.
abbrev GoesOn : Session → Session → Type 0 → Type 0
GoesOn s new Holds = IsSoundSession new × (IsAloneSession new → IsAloneSession s × Holds)

-- If a session is sound, the station that an operation finds is sound. If its operator is alone, it was alone in the
-- session, and the channels are those that the operation finds when the lines are carried out in order.
found-alone : (scid : ℕ) (s : Session) (m : Staffed) → IsStaffedFound scid s m → IsSoundSession s → IsSound m × (IsAlone m → IsAloneSession s × (rack_of m ≡ rack_for scid (progress_of s)))
found-alone scid (SettingUp list) m found sound = (new-sound scid list m found, λ alone. (tt, new-rack scid list m found alone.0))
found-alone scid (Operating staffed) m found sound = (subst IsSound (sym found) sound, λ alone. (subst IsAlone found alone, ap rack_of found))

module _ (laws : AloneLaws) (scid : ℕ) where
  done-alone : (operation : Operation) (s new : Session) (answer : Option Answer) → IsSoundSession s → IsDoneSo (IsStaffedOperated scid) operation s answer new
      → GoesOn s new (IsDoneSo (IsPerformed scid) operation (progress_of s) answer (progress_of new))
  done-alone operation s new answer sound (a, (m, after, found, answered, is), reported) =
      let before = found-alone scid s m found sound in
      let one = answered-alone laws operation m after a before.0 answered in (
        subst IsSoundSession (sym is) one.0,
        λ alone.
            let met = one.1 (subst IsAloneSession is alone) in
            let start = before.1 met.0 in
            let performed = subst (λ (r : Racked). IsAnswerOf operation r a (rack_of after)) start.1 met.1 in
            (start.0, (a, (rack_for scid (progress_of s), rack_of after, rack-found scid (progress_of s), performed, ap progress_of is), reported)),
      )

  line-alone : (instruction : Instruction) (s new : Session) (answer : Option Answer) → IsSoundSession s → Does (phase_of s) instruction (phase_of new) → IsInstructionAnswered (IsStaffedOperated scid) s instruction new answer
      → GoesOn s new (IsInstructionAnswered (IsPerformed scid) (progress_of s) instruction (progress_of new) answer)
  line-alone Nothing s new answer sound does a = (subst IsSoundSession (sym a.1) sound, λ alone. (subst IsAloneSession a.1 alone, (a.0, ap progress_of a.1)))
  line-alone (Channel settings) s new answer sound (old, list, was, adds, is) a = (subst IsSoundSession (sym (set-up new list is)) tt, λ alone. (subst IsAloneSession (sym (set-up s old was)) tt, a))
  line-alone (Add vcid addition) s new answer sound (old, list, was, adds, is) a = (subst IsSoundSession (sym (set-up new list is)) tt, λ alone. (subst IsAloneSession (sym (set-up s old was)) tt, a))
  line-alone (Frame octets) s new answer sound does a = done-alone (operations.Frame octets) s new answer sound a
  line-alone (Release vcid) s new answer sound does a = done-alone (operations.Release vcid) s new answer sound a
  line-alone (Take vcid apid) s new answer sound does a = done-alone (operations.Take vcid apid) s new answer sound a
  line-alone (TakeUnit vcid map_id) s new answer sound does a = done-alone (operations.Unit vcid map_id) s new answer sound a
  line-alone (Clcw vcid) s new answer sound does a = done-alone (operations.Clcw vcid) s new answer sound a

  all-alone : (script : List ℕ) (answers : List (Option Answer)) (s : Session) (rest : List ℕ) → AreAnswers (IsStaffedOperated scid) script answers s rest
      → IsSoundSession s × (IsAloneSession s → AreAnswers (IsPerformed scid) script answers (progress_of s) rest)
  all-alone script answers s rest at_first = (tt, λ alone. at_first)
  all-alone script answers s rest (one_more {answers = before} {stage = old} {answer = answer} leads next answered) =
      let so_far = all-alone script before old _ leads in
      let line = line-alone _ old s answer so_far.0 answered.2 answered.3 in (
        line.0,
        λ alone.
            let one = line.1 alone in
            let does = subst (λ (x : Phase × Phase). Does x.0 (instruction_of answered.0) x.1) (λ i. (phase-of old i, phase-of s i)) answered.2 in
            one_more (so_far.1 one.0) next (answered.0, answered.1, does, one.1),
      )

  -- the report at the end of a session is the report of the script when its lines are carried out in order
  pub reported-alone : (script : List ℕ) (answers : List (Option Answer)) (s : Session) (text : List ℕ) → AreAnswers (IsStaffedOperated scid) script answers s [] → IsSessionReport scid s text
      → AreAnswers (IsPerformed scid) script answers (progress_of s) [] × IsScriptReport scid (progress_of s) text
  reported-alone script answers s text leads (inl (none, empty)) =
      ((all-alone script answers s [] leads).1 (subst IsAloneSession (sym (set-up s [] none)) tt), inl (sym (phase-of s) ∙ none, empty))
  reported-alone script answers s text leads (inr (m, met, channels, found, have, ours, closed, of)) =
      let lines = all-alone script answers s [] leads in
      let start = found-alone scid s m found lines.0 in
      let there = all-met-alone laws (length m.watchers) m met have start.0 in
      let whole = closed-alone laws met closed.there there.0.seen ours.1 closed.closed in
      let alone = there.1 (whole.0, all-level laws m met have) in
      let begun = start.1 alone.0 in
      let same : closed.there ≡ histories (rack_for scid (progress_of s)) = whole.1 ∙ ap histories (alone.1 ∙ begun.1) in
      (lines.1 begun.0, inr (channels, subst (λ (l : List History). IsPermutation l channels) same closed.all, of))

-- ---- the number of events of each channel that was closed

pub closed-reported : (station : Roster) (operators : List AtStation) (closed : List History) → AreClosedTogether station operators closed → All IsNumberReported closed
closed-reported station operators closed (owned_desks, owned, all) = λ k c lt.
    let inside : k < length owned_desks = omega (arith, lt, all.as_many) in
    let owned_desk = get_or owned_desks k nobody in
    let one : IsClosed owned_desk (column k (operator_lists_of operators)) (get_or closed k c) = all.each k owned_desk (get_or closed k c) (slice_get-get_or owned_desks k nobody inside) (slice_get-get_or closed k c lt) in
    one.balanced.1
