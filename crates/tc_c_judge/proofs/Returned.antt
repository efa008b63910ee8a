-- Lemmas about the judge in a seat, once the borrow of the judge has ended.
use Rattle.std.proofs.Common.{◌≡◌, ◌∙◌, Option, Some, None, Result, Ok, Err, IfOk, IfErr, OnSome, ap, sym}
use Rattle.std.specs.Prelude.{◌≢◌, ◌↔◌, ℕ, Bool, true, List}
use Rattle.tc_c_base.specs.declared.status.Status.{Status}
use Rattle.tc_judge.specs.Judge.{Knowledge}
use Rattle.tc_sender.specs.Account.{SenderKnowledge}
use Rattle.tc_sender.specs.declared.judge.SenderVerdict.{SenderVerdict}
use Rattle.tc_sender.specs.declared.judge.SenderVerdict.TheVariants.{Contradictory}
use Rattle.tc_c_judge.proofs.Names.{HeldValue}
use Rattle.tc_c_judge.specs.Held.{receiver_in, sender_in}
use Rattle.tc_c_judge.specs.Receivers.{IsSentNoted}
use Rattle.tc_c_judge.specs.Records.{flagged, judged}
use Rattle.tc_c_judge.specs.Senders.{IsSenderVerdict, arrived, sender_verdict_number}
use Rattle.tc_c_judge.specs.declared.records.FlagRecord.{FlagRecord}
use Rattle.tc_c_judge.specs.declared.records.VerdictRecord.{VerdictRecord}
use Rattle.tc_c_judge.specs.declared.held.HeldJudge.TheVariants.{Receiver, Sender}
use Rattle.tc_c_judge.specs.declared.held.ReceiverJudge.{ReceiverJudge as ReceiverValue}

-- if a judge was lent, the seat holds the judge that the borrow left
pub left-so : {A : Type 0} (lent : Option A) (held : A) (left : Option HeldValue) (new : HeldValue) → lent ≡ Some held
    → OnSome lent (left ≡ Some new) → left ≡ Some new
left-so (Some x) held left new is holds = holds
left-so None held left new is holds = absurd cc

-- if the judge of a receiver was lent, the seat holds a judge that equals the one that the borrow left
pub receiver-left : {A : Type 0} (lent : Option A) (held : A) (left : Option HeldValue) (new other : ReceiverValue) → lent ≡ Some held
    → OnSome lent (left ≡ Some (Receiver new)) → new ≡ other → left ≡ Some (Receiver other)
receiver-left lent held left new other is holds same = left-so lent held left (Receiver new) is holds ∙ ap (λ (j : ReceiverValue). Some (Receiver j)) same

was-receiver : (before : Option HeldValue) (old : ReceiverValue) → Some old ≡ receiver_in before → before ≡ Some (Receiver old)
was-receiver (Some (Receiver judge)) old is = cc
was-receiver (Some (Sender judge)) old is = absurd cc
was-receiver None old is = absurd cc

was-sender : (before : Option HeldValue) (old : SenderKnowledge) → Some old ≡ sender_in before → before ≡ Some (Sender old)
was-sender (Some (Sender judge)) old is = cc
was-sender (Some (Receiver judge)) old is = absurd cc
was-sender None old is = absurd cc

-- if the borrow left the judge as it was, the seat holds the same judge as before
pub receiver-kept : {A : Type 0} (lent : Option A) (held : A) (left before : Option HeldValue) (new old : ReceiverValue) → lent ≡ Some held
    → OnSome lent (left ≡ Some (Receiver new)) → new ≡ old → Some old ≡ receiver_in before → left ≡ before
receiver-kept lent held left before new old is holds same was = receiver-left lent held left new old is holds same ∙ sym (was-receiver before old was)

pub sender-kept : {A : Type 0} (lent : Option A) (held : A) (left before : Option HeldValue) (new old : SenderKnowledge) → lent ≡ Some held
    → OnSome lent (left ≡ Some (Sender new)) → new ≡ old → Some old ≡ sender_in before → left ≡ before
sender-kept lent held left before new old is holds same was =
    left-so lent held left (Sender new) is holds ∙ ap (λ (j : SenderKnowledge). Some (Sender j)) same ∙ sym (was-sender before old was)

-- the clause about a frame that was sent holds for the seat, if it holds for the judge that was lent
pub sent-left : (right : Result Bool Status) (octets : List ℕ) (result : FlagRecord) (old new : ReceiverValue) (left : Option HeldValue)
    → left ≡ Some (Receiver (record old { judge = new.judge }))
    → IfOk right (λ flag. (noted : Bool) × (result ≡ flagged noted) × IsSentNoted old octets flag new.judge noted)
    → IfOk right (λ flag. (noted : Bool) × (know : Knowledge) × (result ≡ flagged noted) × IsSentNoted old octets flag know noted
    × (left ≡ Some (Receiver (record old { judge = know }))))
sent-left (Ok flag) octets result old new left is (noted, done, sent) = (noted, new.judge, done, sent, is)
sent-left (Err fault) octets result old new left is sent = tt

-- the clause about a frame that arrived holds for the seat, if it holds for the judge that was lent
pub arrived-left : (accepted : Result Bool Status) (number : ℕ) (result : VerdictRecord) (old new : SenderKnowledge) (left : Option HeldValue)
    → left ≡ Some (Sender new)
    → IfOk accepted (λ flag. (verdict : SenderVerdict) × (result ≡ judged (sender_verdict_number verdict))
    × IsSenderVerdict old (arrived number flag) new verdict × ((verdict ≡ Contradictory) ↔ ((flag ≡ true) × (number ≢ old.vr))))
    → IfOk accepted (λ flag. (verdict : SenderVerdict) × (know : SenderKnowledge) × (result ≡ judged (sender_verdict_number verdict))
    × IsSenderVerdict old (arrived number flag) know verdict × ((verdict ≡ Contradictory) ↔ ((flag ≡ true) × (number ≢ old.vr))) × (left ≡ Some (Sender know)))
arrived-left (Ok flag) number result old new left is (verdict, done, judged, contradictory) = (verdict, new, done, judged, contradictory, is)
arrived-left (Err fault) number result old new left is judged = tt

-- if a call fails with a fault and `P`, and `Q` follows from `P`, it fails with the fault and `Q`
pub refused-left : {A : Type 0} {R : Type 0} (asked : Result A Status) (result : R) (of : Status → R) (P Q : Type 0) → (P → Q)
    → IfErr asked (λ fault. (result ≡ of fault) × P) → IfErr asked (λ fault. (result ≡ of fault) × Q)
refused-left (Ok x) result of P Q more refused = tt
refused-left (Err fault) result of P Q more (is, holds) = (is, more holds)
