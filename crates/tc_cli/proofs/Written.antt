-- The text that a script writes, line by line.
use Rattle.std.proofs.Common.{◌≡◌, ℕ, ◌+◌, List, [], ◌∷◌, ◌++◌, ◌⊎◌, Option, None, Some, Result, Ok, Err, IfSome, All, inl, inr, length, refl, sym, ap, ◌∙◌, subst, OnOk, IfErr, is_ok}
use Rattle.tc_cli.proofs.Names.{AllHaveMet, Answer, AreAnswers, AreNonDecreasing, AreWorkedChannels, AtStation, History, IsBadLine, IsClosedReport, IsFirstLine, IsLawfulHistory, IsLineAnswered, IsStaffedFound, IsStaffedOperated, IsNumberReported, IsPerformed, IsReadFault, IsReportFault, IsReportOf, IsScriptCloseFault, IsScriptReport, Leads, Line, Staffed, NoMemory, Progress, Read, Reason, Roster, ScriptFault, Session, TooLong, Unbalanced, Write, at_first, goes_on, one_more, phase_of, report_text, starts}
use Rattle.std.proofs.lemmas.List.{flat_map_more, length_push}
use Rattle.std.proofs.lemmas.Option.{IfSome_then}
use Rattle.std.proofs.lemmas.Result.{IfErr-weaker, on_ok_weaker}
use Rattle.std.proofs.KnownBytes.{Appends-nil, Appends-trans, Appends-kept, Keeps-refl, Keeps-trans}
use Rattle.std.specs.Io.KnownBytes.{Appends, Keeps}
use Rattle.tc_station.specs.Tally.{IsOurs}
use Rattle.tc_station.specs.Together.{IsCauseAtStation}
use Rattle.tc_rack.specs.Printed.{answer_line}
use Rattle.tc_cli.specs.Written.{IsSessionReportWritten, IsScriptUnreported, IsScriptWritten, IsWrittenInParallel, IsScriptCutShort, answers_text}
use Rattle.tc_cli.proofs.Alone.{AloneLaws}
use Rattle.tc_cli.proofs.Sessions.{progress_of, reported-alone}

-- if both results are `Ok` or neither is, a fact that holds if the first is `Ok` also holds if the second is `Ok`
pub on-ok-same : {T U E F : Type 0} (r : Result T E) (s : Result U F) (A : Type 0) → is_ok s ≡ is_ok r → OnOk r A → OnOk s A
on-ok-same (Ok x) (Ok y) A same holds = holds
on-ok-same (Ok x) (Err f) A same holds = tt
on-ok-same (Err e) (Ok y) A same holds = let no : ⊥ = cc in absurd no
on-ok-same (Err e) (Err f) A same holds = tt

-- if `A` and `B` hold whenever a result is `Ok`, and `C` follows from both, `C` holds whenever the result is `Ok`
pub on-ok-both : {T E : Type 0} (r : Result T E) (A B C : Type 0) → (A → B → C) → OnOk r A → OnOk r B → OnOk r C
on-ok-both (Ok x) A B C follows a b = follows a b
on-ok-both (Err e) A B C follows a b = tt

-- lines that are answered are good
pub answered-leads : (scid : ℕ) (script : List ℕ) (answers : List (Option Answer)) (session : Session) (rest : List ℕ) → AreAnswers (IsStaffedOperated scid) script answers session rest
    → Leads script (length answers) (phase_of session) rest
answered-leads scid script answers session rest at_first = starts
answered-leads scid script answers session rest (one_more {answers = before} {stage = old} {answer = answer} leads next answered) =
    let good = answered-leads scid script before old _ leads in
    subst (λ n. Leads script n (phase_of session) rest) (sym (length_push before answer)) (goes_on good next (answered.0, answered.1, answered.2))

-- the first `count` lines were answered, and their answers were written
abbrev pub IsSoFar : ℕ → List ℕ → ℕ → Session → List ℕ → Option (List ℕ) → Option (List ℕ) → Type 0
IsSoFar scid script count session rest old new =
    (answers : List (Option Answer)) × AreAnswers (IsStaffedOperated scid) script answers session rest × (count ≡ length answers) × Appends old new (answers_text answers)

pub none-so-far : (scid : ℕ) (script : List ℕ) (session : Session) (a : Option (List ℕ)) → AreAnswers (IsStaffedOperated scid) script [] session script
    → IsSoFar scid script 0 session script a a
none-so-far scid script session a leads = ([], leads, refl, Appends-nil a)

pub so-far-good : (scid : ℕ) (script : List ℕ) (count : ℕ) (session : Session) (rest : List ℕ) (a b : Option (List ℕ)) → IsSoFar scid script count session rest a b
    → Leads script count (phase_of session) rest
so-far-good scid script count session rest a b (answers, leads, is, text) =
    subst (λ n. Leads script n (phase_of session) rest) (sym is) (answered-leads scid script answers session rest leads)

-- if one more line is answered and its answer is written, the answers to the first `count + 1` lines are written
pub one-more-so-far : (scid : ℕ) (script : List ℕ) (count : ℕ) (session new : Session) (rest line after : List ℕ) (answer : Option Answer) (a b c : Option (List ℕ))
    → IsSoFar scid script count session rest a b → IsFirstLine rest line after → IsLineAnswered (IsStaffedOperated scid) session line new answer → Appends b c (answer_line answer)
    → IsSoFar scid script (count + 1) new after a c
one-more-so-far scid script count session new rest line after answer a b c (answers, leads, is, text) next answered more = (
  answers ++ answer ∷ [],
  one_more leads next answered,
  ap (λ n. n + 1) is ∙ sym (length_push answers answer),
  subst (Appends a c) (flat_map_more answer_line [] answers answer) (Appends-trans a b c _ _ text more),
)

-- if memory runs out at the next line or this line is bad, the script is cut short at this line
pub cut-short : (scid : ℕ) (script : List ℕ) (count : ℕ) (session : Session) (rest line after : List ℕ) (reason : Reason) (a b : Option (List ℕ))
    → (reason ≡ NoMemory) ⊎ IsBadLine (phase_of session) line reason → IsSoFar scid script count session rest a b → IsFirstLine rest line after
    → IsScriptCutShort scid script a b (Line (count + 1) reason)
cut-short scid script count session rest line after reason a b (inl memory) (answers, leads, is, text) next =
    inl (memory, inr (inl (answers, session, rest, line, after, leads, next, tt, ap (λ n. n + 1) is, text)))
cut-short scid script count session rest line after reason a b (inr bad) (answers, leads, is, text) next =
    inr (answers, session, rest, line, after, leads, next, bad, ap (λ n. n + 1) is, text)

-- if no octets are left and the report is written, the whole text of the script is written
pub end-written : (laws : AloneLaws) (reported : Result (Unit {0}) ScriptFault) (scid : ℕ) (script : List ℕ) (count : ℕ) (session : Session) (rest : List ℕ) (a b c : Option (List ℕ))
    → IsSoFar scid script count session rest a b → rest ≡ [] → OnOk reported (IsSessionReportWritten scid session b c) → OnOk reported (IsScriptWritten scid script a c)
end-written laws (Err fault) scid script count session rest a b c so-far end written = tt
end-written laws (Ok done) scid script count session rest a b c (answers, leads, is, text) end (report, of, more) =
    let alone = reported-alone laws scid script answers session report (rw end at leads) of in
    (answers, progress_of session, report, alone.0, alone.1, Appends-trans a b c _ _ text more)

unreported : (scid : ℕ) (script : List ℕ) (count : ℕ) (session : Session) (rest : List ℕ) (a b c : Option (List ℕ))
    → IsSoFar scid script count session rest a b → rest ≡ [] → Keeps b c → IsScriptUnreported scid script count a c
unreported scid script count session rest a b c (answers, leads, is, text) end kept =
    (answers, session, rw end at leads, is, Appends-kept a b c _ text kept)

pub end-cut-short : (reported : Result (Unit {0}) ScriptFault) (scid : ℕ) (script : List ℕ) (count : ℕ) (session : Session) (rest : List ℕ) (a b c : Option (List ℕ))
    → IsSoFar scid script count session rest a b → rest ≡ [] → IfErr reported (IsReportFault scid session count) → IfErr reported (λ fault. (fault ≡ Write) ⊎ Keeps b c)
    → IfErr reported (IsScriptCutShort scid script a c)
end-cut-short (Ok done) scid script count session rest a b c so-far end why kept = tt
end-cut-short (Err fault) scid script count session rest a b c so-far end why (inl write) = subst (IsScriptCutShort scid script a c) (sym write) tt
end-cut-short (Err fault) scid script count session rest a b c so-far end (inl write) (inr kept) = subst (IsScriptCutShort scid script a c) (sym write) tt
end-cut-short (Err fault) scid script count session rest a b c (answers, leads, is, text) end (inr (inl (unbalanced, cause))) (inr kept) =
    subst (IsScriptCutShort scid script a c) (sym unbalanced) (answers, session, rw end at leads, cause, Appends-kept a b c _ text kept)
end-cut-short (Err fault) scid script count session rest a b c so-far end (inr (inr memory)) (inr kept) =
    subst (IsScriptCutShort scid script a c) (sym memory) (inl (refl, inr (inr (unreported scid script count session rest a b c so-far end kept))))

-- a fault in closing the station of a session is a fault of the session's report
pub not-closed : (scid : ℕ) (session : Session) (staffed met : Staffed) (station : Roster) (operator : AtStation) (operators : List AtStation) (lines : ℕ) (fault : ScriptFault)
    → IsStaffedFound scid session staffed → AllHaveMet staffed met → station ≡ met.station → operator ≡ met.operator → operators ≡ operator ∷ []
    → IsScriptCloseFault station operators lines fault → IsReportFault scid session lines fault
not-closed scid session staffed met station operator operators lines fault found have place hand all (inl (unbalanced, cause)) =
    let one = subst (λ (x : Roster × List AtStation). IsCauseAtStation x.0 x.1) (λ i. (place i, (all ∙ ap (λ (o : AtStation). o ∷ []) hand) i)) cause in
    inr (inl (unbalanced, (staffed, met, found, have, one)))
not-closed scid session staffed met station operator operators lines fault found have place hand all (inr memory) = inr (inr memory)

-- if the station of a session is closed and the report on its channels is written, this is the report of the session
pub reported : (scid : ℕ) (session : Session) (staffed met : Staffed) (station : Roster) (operator : AtStation) (operators : List AtStation) (channels shown : List History) (a b : Option (List ℕ))
    → shown ≡ channels → IsStaffedFound scid session staffed → AllHaveMet staffed met → station ≡ met.station → operator ≡ met.operator → IsOurs station operator → operators ≡ operator ∷ []
    → IsClosedReport station operators channels → All IsNumberReported channels → All IsLawfulHistory shown → Appends a b (report_text shown)
    → IsSessionReportWritten scid session a b
reported scid session staffed met station operator operators channels shown a b lent found have place hand ours all closed numbers lawful text =
    let one = subst (λ (x : Roster × List AtStation). IsClosedReport x.0 x.1 channels) (λ i. (place i, (all ∙ ap (λ (o : AtStation). o ∷ []) hand) i)) closed in
    let mine = subst (λ (x : Roster × AtStation). IsOurs x.0 x.1) (λ i. (place i, hand i)) ours in
    let of : IsReportOf channels (report_text shown) = record { ordered = closed.ordered; reported = numbers; lawful = subst (All IsLawfulHistory) lent lawful; written = ap report_text lent } in
    (report_text shown, inr (staffed, met, channels, found, have, mine, one, of), text)

-- if workers have carried out the whole script, the report on their channels is the report of the script when its lines
-- are carried out in order
abbrev pub IsReportInOrder : Type 0
IsReportInOrder = (scid : ℕ) (script : List ℕ) (channels : List History) (text : List ℕ) → AreWorkedChannels scid script channels → IsReportOf channels text
    → (answers : List (Option Answer)) × (progress : Progress) × AreAnswers (IsPerformed scid) script answers progress [] × IsScriptReport scid progress text

-- if the octets of the reader are known, the text that is written is the report of the script with these octets when its
-- lines are carried out in order
pub parallel-written : IsReportInOrder → (known : Option (List ℕ)) (scid : ℕ) (script read : List ℕ) (channels shown : List History) (a b c : Option (List ℕ))
    → script ≡ read → IfSome known (λ octets. read ≡ octets) → shown ≡ channels → AreWorkedChannels scid script channels → AreNonDecreasing channels → All IsNumberReported channels
    → All IsLawfulHistory shown → Appends a b (report_text shown) → Keeps b c → IfSome known (λ octets. IsWrittenInParallel scid octets a c)
parallel-written in-order None scid script read channels shown a b c whole is lent worked rising numbers lawful text kept = tt
parallel-written in-order (Some octets) scid script read channels shown a b c whole is lent worked rising numbers lawful text kept =
    let of-script = subst (λ s. AreWorkedChannels scid s channels) (whole ∙ is) worked in
    let of : IsReportOf channels (report_text shown) = record { ordered = rising; reported = numbers; lawful = subst (All IsLawfulHistory) lent lawful; written = ap report_text lent } in
    let one = in-order scid octets channels (report_text shown) of-script of in
    (one.0, one.1, report_text shown, one.2, one.3, Appends-kept a b c _ text kept)

-- if the text of a script was written, and all that was written is kept, the text of the script is still there
written-kept : (scid : ℕ) (script : List ℕ) (a b c : Option (List ℕ)) → IsScriptWritten scid script a b → Keeps b c → IsScriptWritten scid script a c
written-kept scid script a b c (answers, progress, report, leads, of, text) kept = (answers, progress, report, leads, of, Appends-kept a b c _ text kept)

cut-short-kept : (scid : ℕ) (script : List ℕ) (a b c : Option (List ℕ)) (fault : ScriptFault) → IsScriptCutShort scid script a b fault → Keeps b c → IsScriptCutShort scid script a c fault
cut-short-kept scid script a b c Read short kept = Keeps-trans a b c short kept
cut-short-kept scid script a b c TooLong short kept = Keeps-trans a b c short kept
cut-short-kept scid script a b c Write short kept = tt
cut-short-kept scid script a b c Unbalanced (answers, session, leads, cause, text) kept = (answers, session, leads, cause, Appends-kept a b c _ text kept)
cut-short-kept scid script a b c (Line number reason) (inl (memory, inl (none, short))) kept = inl (memory, inl (none, Keeps-trans a b c short kept))
cut-short-kept scid script a b c (Line number reason) (inl (memory, inr (inl (answers, session, rest, line, after, leads, next, so, is, text)))) kept =
    inl (memory, inr (inl (answers, session, rest, line, after, leads, next, so, is, Appends-kept a b c _ text kept)))
cut-short-kept scid script a b c (Line number reason) (inl (memory, inr (inr (answers, session, leads, is, text)))) kept =
    inl (memory, inr (inr (answers, session, leads, is, Appends-kept a b c _ text kept)))
cut-short-kept scid script a b c (Line number reason) (inr (answers, session, rest, line, after, leads, next, bad, is, text)) kept =
    inr (answers, session, rest, line, after, leads, next, bad, is, Appends-kept a b c _ text kept)

-- nothing was written if the script wasn't read
pub read-cut-short : (known : Option (List ℕ)) (scid : ℕ) (a : Option (List ℕ)) (fault : ScriptFault) → IsReadFault known fault
    → IfSome known (λ script. IsScriptCutShort scid script a a fault)
read-cut-short None scid a fault why = tt
read-cut-short (Some script) scid a Read why = Keeps-refl a
read-cut-short (Some script) scid a TooLong why = Keeps-refl a
read-cut-short (Some script) scid a (Line number reason) why = inl (why.1, inl (why.0, Keeps-refl a))
read-cut-short (Some script) scid a Write why = tt
read-cut-short (Some script) scid a Unbalanced why = absurd why

-- if the octets of the reader are known, the text that was written is the text of the script with these octets
pub whole-written : (done : Result (Unit {0}) ScriptFault) (known : Option (List ℕ)) (scid : ℕ) (script read : List ℕ) (a b c : Option (List ℕ))
    → script ≡ read → IfSome known (λ octets. read ≡ octets) → OnOk done (IsScriptWritten scid script a b) → Keeps b c → OnOk done (IfSome known (λ octets. IsScriptWritten scid octets a c))
whole-written done known scid script read a b c whole is written kept =
    on_ok_weaker done (λ text. IfSome_then known is (λ octets same. subst (λ s. IsScriptWritten scid s a c) (whole ∙ same) (written-kept scid script a b c text kept))) written

pub whole-cut-short : (done : Result (Unit {0}) ScriptFault) (known : Option (List ℕ)) (scid : ℕ) (script read : List ℕ) (a b c : Option (List ℕ))
    → script ≡ read → IfSome known (λ octets. read ≡ octets) → IfErr done (IsScriptCutShort scid script a b) → Keeps b c
    → IfErr done (λ fault. IfSome known (λ octets. IsScriptCutShort scid octets a c fault))
whole-cut-short done known scid script read a b c whole is short kept =
    IfErr-weaker done _ _ (λ fault why. IfSome_then known is (λ octets same. subst (λ s. IsScriptCutShort scid s a c fault) (whole ∙ same) (cut-short-kept scid script a b c fault why kept))) short
