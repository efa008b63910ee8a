-- After a lawful journal, each accepted frame has a field with at least one octet, and a number below 256.
use Rattle.tc_channel.proofs.Names.{ℕ, ◌<◌, List, [], ◌∷◌, length, map, drop, arith, AllByRecursion, length-drop, HasStep, IsWhole, accepts, Settings, Event, Frame, ChannelState, Accepted, step, row_of, first_of, header_of, passed_on, run_within, IsLawfulWithin}
use Rattle.tc_channel.proofs.StateQueues.{kept-either}
use Rattle.tc_channel.proofs.Runs.{keeps}
use Rattle.tc_queues.proofs.Lists.{all-append}

abbrev pub IsFilled : Accepted → Type 0
IsFilled a = (0 < length a.field) × (a.ns < 256)

abbrev pub AreFilled : List Accepted → Type 0
AreFilled xs = AllByRecursion IsFilled xs

-- the field and the number of each whole frame have the property P
abbrev pub OfWholes : (Accepted → Type 0) → Type 0
OfWholes P = (octets : List ℕ) → IsWhole octets → P (record { ns = (header_of octets).ns; field = drop 5 octets })

step-each : (P : Accepted → Type 0) → OfWholes P → (c : Settings) (b : ChannelState) (e : Event) → HasStep c b e → AllByRecursion P b.accepted → AllByRecursion P (step c b e).accepted
unfolding passed_on
step-each P one c b (Frame octets) has h =
    kept-either (λ x. AllByRecursion P x.accepted) (row_of c b octets) (accepts (row_of c b octets) b.report) octets b h
    (all-append P b.accepted (record { ns = (header_of octets).ns; field = drop 5 octets } ∷ []) h (one octets has.0, tt)) h
step-each P one c b _ has h = h

-- after a lawful journal, a property that the field and the number of each whole frame have holds for each accepted
-- frame
pub each-accepted : (P : Accepted → Type 0) → OfWholes P → (limits : ℕ → ℕ) (c : Settings) (journal : List Event) → IsLawfulWithin limits c journal → AllByRecursion P (run_within limits c journal).accepted
each-accepted P one limits c journal lawful = keeps (λ b. AllByRecursion P b.accepted) limits c journal lawful (step-each P one c) tt

pub first-filled : (xs : List Accepted) → AreFilled xs → 0 < length xs → 0 < length (first_of (map (λ (a : Accepted). a.field) xs))
first-filled [] h some = absurd (omega arith)
first-filled (x ∷ xs) h some = h.0.0

pub state-filled : (limits : ℕ → ℕ) (c : Settings) (j : List Event) → IsLawfulWithin limits c j → AreFilled (run_within limits c j).accepted
state-filled = each-accepted IsFilled (λ octets whole. (let l = whole.least in omega (arith, length-drop 5 octets), whole.each 4))
