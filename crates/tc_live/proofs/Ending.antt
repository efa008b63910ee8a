-- The text that is written after the last line, with or without the final report.
use Rattle.tc_live.proofs.Names.{◌≡◌, ◌⊎◌, ℕ, Bool, false, List, Option, None, Some, IfSome, Result, Ok, Err, inl, inr, sym, subst, both_ways, All-permutation, Appends-trans, Appends-kept, ◌↔◌, All, IsPermutation, IsTrue, OnOk, IfOk, IfErr, Keeps, histories, Receiving, rack_at, IsClosingFault, IsReceptionCutShort, IsLineSaid, IsReportWritten, IsNumberUnreported, IsReceptionWritten, fault_at_lines, line_limit, FrameEnds}
use Rattle.tc_lines.specs.Answering as lines
use Rattle.tc_lines.specs.declared.answering.ServingFault.{ServingFault as AnsweringFault}
use Rattle.tc_lines.specs.declared.answering.ServingFault.TheVariants as answering
use Rattle.tc_channel.specs.Journal.{History, IsNumberReported}
use Rattle.tc_live.specs.declared.serving.ServingFault.{ServingFault}
use Rattle.tc_live.specs.declared.serving.ServingFault.TheVariants.{Write}

-- if the answers to all lines are written, and then the report, the whole text of the reception is written
pub all-written : (closed : Result FrameEnds ServingFault) (receiver last : Receiving) (known a b c : Option (List ℕ))
    → IfSome known (λ octets. lines.AreAllWritten line_limit IsLineSaid receiver octets last a b) → OnOk closed (IsReportWritten last b c)
    → IfOk closed (λ ends. ends ≡ last.ends) → IfOk closed (λ ends. IfSome known (λ octets. IsReceptionWritten receiver octets a c ends))
all-written (Err fault) receiver last known a b c answered report same = tt
all-written (Ok ends) receiver last None a b c answered report same = tt
all-written (Ok ends) receiver last (Some octets) a b c (answers, is, before) (report, final, more) same =
    (last, answers, report, is, same, final, Appends-trans a b c answers report before more)

-- if there is no report, or only a part of it, the reception was cut short
pub not-reported : {T : Type 0} (closed : Result T ServingFault) (receiver last : Receiving) (known a b c : Option (List ℕ))
    → IfSome known (λ octets. lines.AreAllWritten line_limit IsLineSaid receiver octets last a b)
    → IfErr closed (IsClosingFault last) → IfErr closed (λ fault. (fault ≡ Write) ⊎ Keeps b c)
    → IfErr closed (λ fault. IfSome known (λ octets. IsReceptionCutShort receiver octets a c fault))
not-reported (Ok done) receiver last known a b c answered why kept = tt
not-reported (Err fault) receiver last None a b c answered why kept = tt
not-reported (Err fault) receiver last (Some octets) a b c answered why (inl write) = subst (IsReceptionCutShort receiver octets a c) (sym write) tt
not-reported (Err fault) receiver last (Some octets) a b c answered (inl write) (inr kept) = subst (IsReceptionCutShort receiver octets a c) (sym write) tt
not-reported (Err fault) receiver last (Some octets) a b c (answers, is, before) (inr (inl memory)) (inr kept) =
    subst (IsReceptionCutShort receiver octets a c) (sym memory) (inr (last, (answers, is, Appends-kept a b c answers before kept)))
not-reported (Err fault) receiver last (Some octets) a b c (answers, is, before) (inr (inr (unbalanced, unreported))) (inr kept) =
    subst (IsReceptionCutShort receiver octets a c) (sym unbalanced) (last, (answers, is, Appends-kept a b c answers before kept), unreported)

-- if answering stops at a fault, the reception was cut short
pub lines-cut : (fault : AnsweringFault) (receiver last : Receiving) (known a b : Option (List ℕ))
    → IfSome known (λ octets. lines.IsCutShort line_limit IsLineSaid receiver octets last a b fault)
    → IfSome known (λ octets. IsReceptionCutShort receiver octets a b (fault_at_lines fault))
lines-cut fault receiver last None a b cut = tt
lines-cut answering.Read receiver last (Some octets) a b cut = (last, cut)
lines-cut answering.Write receiver last (Some octets) a b cut = tt
lines-cut answering.NoMemory receiver last (Some octets) a b cut = inl cut.1

-- if a channel of the sorted list doesn't report the exact number of its events, the receiver has such a channel
pub is-number-unreported : (receiver : Receiving) (reported : Bool) (shown before after : List History) → IsTrue reported ↔ All IsNumberReported shown → reported ≡ false
    → shown ≡ after → IsPermutation before after → before ≡ histories (rack_at receiver) → IsNumberUnreported receiver
is-number-unreported receiver reported shown before after just not same shuffled is all =
    both_ways reported not (just.1 (subst (All IsNumberReported) (sym same) (All-permutation IsNumberReported before after shuffled (subst (All IsNumberReported) (sym is) all))))
