-- The answer to an operation, and the channels after it. The answer follows from the journal of the channel that the
-- operation names.
use Rattle.std.specs.Prelude.{◌≡◌, ◌⊎◌, ℕ, List}
use Rattle.tc_link.specs.Frame.{BeginsWith, header_of}
use Rattle.tc_link.specs.declared.location.LocateFault.{LocateFault}
use Rattle.tc_rack.specs.declared.answer.Answer.{Answer}
use Rattle.tc_rack.specs.declared.answer.Answer.TheVariants.{Refused}
use Rattle.tc_rack.specs.declared.answer.Refusal.TheVariants.{Unlocated, UnknownChannel}
use Rattle.tc_rack.specs.declared.operation.Operation.{Operation}
use Rattle.tc_rack.specs.declared.operation.Operation.TheVariants as operations
use Rattle.tc_rack.specs.Linked.{Linked, IsFrameAnswered, IsReleaseAnswered, IsTakeAnswered, IsUnitAnswered, reported_word}
use Rattle.tc_rack.specs.Rack.{Racked, HasChannel, IsOf, Changes, IsRackLocateFault}

-- there is no channel with this id, and the answer reports that
abbrev pub IsUnknown : Racked → ℕ → Answer → Type 0
IsUnknown rack vcid answer = ¬ HasChannel rack.channels vcid × (answer ≡ Refused UnknownChannel)

-- Either the channel with this id gives this answer, and all other channels are as before. Or there is no such channel,
-- the answer reports that, and nothing changes.
abbrev pub IsChannelAnswer : ℕ → (Linked → Answer → Linked → Type 0) → Racked → Answer → Racked → Type 0
IsChannelAnswer vcid Answers old answer new =
    Changes old vcid (λ before after. Answers before answer after) new ⊎ (IsUnknown old vcid answer × (new ≡ old))

-- the octets begin with a frame of the spacecraft, and the channel that the frame names answers
abbrev pub IsFrameBrought : List ℕ → Racked → Answer → Racked → Type 0
IsFrameBrought octets old answer new =
    (frame : List ℕ) × BeginsWith octets frame × ((header_of frame).scid ≡ old.scid)
    × Changes old (header_of frame).vcid (λ before after. IsFrameAnswered frame before answer after) new

-- either octets are brought to the channel that their frame names, or the answer is the reason why they aren't
abbrev pub IsFrameAnswer : List ℕ → Racked → Answer → Racked → Type 0
IsFrameAnswer octets old answer new =
    IsFrameBrought octets old answer new
    ⊎ ((fault : LocateFault) × IsRackLocateFault old octets fault × (answer ≡ Refused (Unlocated fault)) × (new ≡ old))

-- the answer has the CLCW of the channel with this id, or reports that there is no such channel
abbrev pub IsClcwAnswer : ℕ → Racked → Answer → Type 0
IsClcwAnswer vcid rack answer = IsOf rack vcid (λ channel. answer ≡ reported_word channel) ⊎ IsUnknown rack vcid answer

-- the operation has this answer, and these are the channels after it
abbrev pub IsAnswerOf : Operation → Racked → Answer → Racked → Type 0
IsAnswerOf (operations.Frame octets) old answer new = IsFrameAnswer octets old answer new
IsAnswerOf (operations.Release vcid) old answer new = IsChannelAnswer vcid IsReleaseAnswered old answer new
IsAnswerOf (operations.Take vcid apid) old answer new = IsChannelAnswer vcid (IsTakeAnswered apid) old answer new
IsAnswerOf (operations.Unit vcid map_id) old answer new = IsChannelAnswer vcid (IsUnitAnswered map_id) old answer new
IsAnswerOf (operations.Clcw vcid) old answer new = IsClcwAnswer vcid old answer × (new ≡ old)
