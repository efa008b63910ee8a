-- Lemmas about the channel in a seat, once the borrow of the channel has ended.
use Rattle.tc_c.proofs.Names.{◌≡◌, ◌≤◌, ◌∙◌, ℕ, List, length, Option, Some, None, OnSome, IfSome, IfNone, ap, BeginsWith, frame_reply_within, LimitedHistory, with_limited_event, limit_of}
use Rattle.tc_channel.specs.declared.event.Event.TheVariants as Event
use Rattle.std.proofs.Common.{◌<◌, arith}
use Rattle.tc_fixed.specs.Taking.{IsOver}
use Rattle.tc_c_base.specs.declared.buffer.WrittenRecord.{WrittenRecord}
use Rattle.tc_c.specs.declared.channel.ReplyRecord.{ReplyRecord}
use Rattle.tc_c_base.specs.Written.{taken, too_short, IsCopied}
use Rattle.tc_c.specs.Channel.{reply_record}

pub left-so : {A : Type 0} (lent : Option A) (held : A) (left : Option LimitedHistory) (new : LimitedHistory) → lent ≡ Some held
    → OnSome lent (left ≡ Some new) → left ≡ Some new
left-so (Some x) held left new is holds = holds
left-so None held left new is holds = absurd cc

-- The clause about the channel after a frame, or after a take, holds for the seat. The condition is that the seat holds
-- the channel that the call left.
pub frame-left : {A : Type 0} (fault : Option A) (octets : List ℕ) (result : ReplyRecord) (held new : LimitedHistory) (left : Option LimitedHistory) → left ≡ Some new
    → IfNone fault ((frame : List ℕ) × BeginsWith octets frame × (result ≡ reply_record (frame_reply_within (limit_of held.limits) held.settings held.journal frame))
    × (new ≡ with_limited_event held (Event.Frame frame)))
    → IfNone fault ((frame : List ℕ) × BeginsWith octets frame × (result ≡ reply_record (frame_reply_within (limit_of held.limits) held.settings held.journal frame))
    × (left ≡ Some (with_limited_event held (Event.Frame frame))))
frame-left None octets result held new left is (frame, begins, reply, done) = (frame, begins, reply, is ∙ ap Some done)
frame-left (Some x) octets result held new left is done = tt

pub take-left : (item : Option (List ℕ)) (old to : List ℕ) (result : WrittenRecord) (new after : LimitedHistory) (left : Option LimitedHistory) → left ≡ Some new
    → IfSome item (λ octets. length octets ≤ length old → (result ≡ taken (length octets)) × IsCopied octets old to × (new ≡ after))
    → IfSome item (λ octets. length octets ≤ length old → (result ≡ taken (length octets)) × IsCopied octets old to × (left ≡ Some after))
take-left None old to result new after left is each = tt
take-left (Some octets) old to result new after left is each = λ fits. let done = each fits in (done.0, done.1, is ∙ ap Some done.2)

-- if there is no room for an item, the item isn't taken, and its length is returned
pub not-taken : (item : Option (List ℕ)) (room needed : ℕ) (P : List ℕ → Type 0) → IsOver room needed item → IfSome item (λ octets. length octets ≤ room → P octets)
not-taken None room needed P over = tt
not-taken (Some octets) room needed P over = λ fits. absurd (omega (arith, over.0, fits))

pub length-needed : (item : Option (List ℕ)) (room needed : ℕ) (result : WrittenRecord) → IsOver room needed item → result ≡ too_short needed
    → IfSome item (λ octets. room < length octets → result ≡ too_short (length octets))
length-needed None room needed result over is = tt
length-needed (Some octets) room needed result over is = λ short. rw (← over.1) is
