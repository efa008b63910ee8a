-- The receiving end (CCSDS 231.0-B), which searches for a start sequence, and then decodes code blocks until it rejects
-- one or has no room for one.
use Rattle.std.specs.Prelude.{◌≡◌, ℕ, zero, suc, ◌+◌, ◌<◌, ◌≤◌, Bool, true, false, List, [], ◌∷◌, ◌++◌, length, take, drop, Option, Some, None, is_some, nat_eq, nat_lt, if◌then◌else◌}
use Rattle.std.specs.Cmp.Lexicographic.{pointwise}
use Rattle.tc_edges.specs.Fecf.Checksum.{bits_of}
use Rattle.tc_edges.specs.Fecf.Changes.{differences}
use Rattle.tc_edges.specs.Cltu.CodeBlock.{decoded, most_errors}
use Rattle.tc_edges.specs.Cltu.Cltu.{start_sequence, tail_sequence}
use Rattle.tc_edges.specs.declared.cltu.block.Fate.{Fate}
use Rattle.tc_edges.specs.declared.cltu.block.Fate.TheVariants.{Right, Corrected, Tail, Rejected, Overlong}
use Rattle.tc_edges.specs.declared.cltu.block.Mode.{Mode}
use Rattle.tc_edges.specs.declared.cltu.block.Mode.TheVariants.{Detect}

-- The state of the receiving end. `Searching` holds the octet that came last in this search, or 0 if none has come.
-- `Decoding` holds the octets of the accepted blocks, and the octets of the next block that have come.
pub data Reception : Type 0 where
  Searching : ℕ → Reception
  Decoding : List ℕ → List ℕ → Reception

-- the state after an octet, and the candidate frames that this octet completes
abbrev pub Step : Type 0
Step = Reception × List (List ℕ)

-- The step after a whole block. The octets of an accepted block are kept while there is room for them. A rejected block
-- completes a candidate frame if blocks were accepted before it, and a block that finds no room completes none.
abbrev pub after_block : ℕ → List ℕ → Option (List ℕ) → Step
after_block room frame (Some information) = if nat_lt room (length frame + 7) then (Searching 0, []) else (Decoding (frame ++ information) [], [])
after_block room [] None = (Searching 0, [])
after_block room (o ∷ frame) None = (Searching 0, (o ∷ frame) ∷ [])

-- the number of bits, out of sixteen, in which two octets differ from the start sequence
unfoldable pub start_errors : ℕ → ℕ → ℕ
start_errors last octet = differences (bits_of (last ∷ octet ∷ [])) (bits_of start_sequence)

-- true if two octets count as the start sequence, that is, have at most as many wrong bits as the mode allows in a code
-- block
unfoldable pub is_start : Mode → ℕ → ℕ → Bool
is_start mode last octet = if nat_lt (most_errors mode) (start_errors last octet) then false else true

abbrev pub reception_step : Mode → ℕ → Reception → ℕ → Step
reception_step mode room (Searching last) octet = if is_start mode last octet then (Decoding [] [], []) else (Searching octet, [])
reception_step mode room (Decoding frame block) octet =
    if nat_lt (length block) 7 then (Decoding frame (block ++ octet ∷ []), [])
    else after_block room frame (decoded mode (block ++ octet ∷ []))

-- the state after a list of octets
abbrev pub state_after : Mode → ℕ → Reception → List ℕ → Reception
state_after mode room state [] = state
state_after mode room state (octet ∷ octets) = state_after mode room (reception_step mode room state octet).0 octets

-- all candidate frames that a list of octets completes, in order
abbrev pub frames_of : Mode → ℕ → Reception → List ℕ → List (List ℕ)
frames_of mode room state [] = []
frames_of mode room state (octet ∷ octets) = (reception_step mode room state octet).1 ++ frames_of mode room (reception_step mode room state octet).0 octets

-- the fate of a block that isn't accepted
abbrev pub rejected_as : List ℕ → Fate
rejected_as block = if pointwise nat_eq block tail_sequence then Tail else Rejected

-- the fate of a block if there is room for it
abbrev pub fate_in : Mode → List ℕ → Fate
fate_in mode block =
    if is_some (decoded Detect block) then Right
    else if is_some (decoded mode block) then Corrected
    else rejected_as block

-- The fate of a block, given the octets that the CLTU carried before it, the octets that the block carries, and its fate
-- if there is room for it. A block that decodes but finds no room is `Overlong`.
abbrev pub fate_behind : ℕ → List ℕ → Option (List ℕ) → Fate → Fate
fate_behind room frame None fate = fate
fate_behind room frame (Some information) fate = if nat_lt room (length frame + 7) then Overlong else fate

abbrev pub fate_after : Mode → ℕ → List ℕ → List ℕ → Fate
fate_after mode room frame block = fate_behind room frame (decoded mode block) (fate_in mode block)

-- the fate of the code block that an octet completes, if it completes one
abbrev pub fate_of : Mode → ℕ → Reception → ℕ → Option Fate
fate_of mode room (Searching last) octet = None
fate_of mode room (Decoding frame block) octet = if nat_lt (length block) 7 then None else Some (fate_after mode room frame (block ++ octet ∷ []))

abbrev pub corrections_of : Option Fate → ℕ
corrections_of (Some Corrected) = 1
corrections_of _ = 0

abbrev pub rejections_of : Option Fate → ℕ
rejections_of (Some Rejected) = 1
rejections_of _ = 0

abbrev pub overruns_of : Option Fate → ℕ
overruns_of (Some Overlong) = 1
overruns_of _ = 0

-- The sum of `count` over all octets. For each octet, `count` is given the fate of the code block that the octet
-- completes, or `None`.
abbrev pub counted_in : (Option Fate → ℕ) → Mode → ℕ → Reception → List ℕ → ℕ
counted_in count mode room state [] = 0
counted_in count mode room state (octet ∷ octets) =
    count (fate_of mode room state octet) + counted_in count mode room (reception_step mode room state octet).0 octets

-- the number of corrected code blocks that the octets complete
abbrev pub corrected_in : Mode → ℕ → Reception → List ℕ → ℕ
corrected_in mode room state octets = counted_in corrections_of mode room state octets

-- the number of rejected code blocks that the octets complete, apart from tail sequences
abbrev pub rejected_in : Mode → ℕ → Reception → List ℕ → ℕ
rejected_in mode room state octets = counted_in rejections_of mode room state octets

-- The number of code blocks that the octets complete and that find no room. Each of them ends the reception of its CLTU.
abbrev pub overlong_in : Mode → ℕ → Reception → List ℕ → ℕ
overlong_in mode room state octets = counted_in overruns_of mode room state octets

-- the view of a decoder in contracts: its mode, its state, and the octets of the blocks that it has accepted since the
-- last start sequence
pub record Receiver : Type 0 where
  pub mode : Mode
  pub state : Reception
  pub carried : List ℕ

-- Octets at the front were processed. They completed the candidate frames `given`, and `rest` is left.
pub record IsTaken (room : ℕ) (before after : Receiver) (octets rest : List ℕ) (given : List (List ℕ)) : Type 0 where
  pub count : ℕ
  pub within : count ≤ length octets
  pub left : rest ≡ drop count octets
  pub state : after.state ≡ state_after before.mode room before.state (take count octets)
  pub frames : frames_of before.mode room before.state (take count octets) ≡ given

-- Memory ran out at the end of a candidate frame. The octets up to this end were processed, and the candidate frames
-- `given` before it were kept. The decoder still carries the frame.
pub record StopsShort (room : ℕ) (before after : Receiver) (octets : List ℕ) (given : List (List ℕ)) : Type 0 where
  pub count : ℕ
  pub within : count ≤ length octets
  pub state : after.state ≡ state_after before.mode room before.state (take count octets)
  pub frames : frames_of before.mode room before.state (take count octets) ≡ given ++ after.carried ∷ []

-- no two consecutive octets count as the start sequence, and neither do `last` and the first octet
abbrev pub HasNoStart : Mode → ℕ → List ℕ → Type 0
HasNoStart mode last [] = Unit {0}
HasNoStart mode last (o ∷ os) = (is_start mode last o ≡ false) × HasNoStart mode o os

abbrev pub is_decoding : Reception → Bool
is_decoding (Searching last) = false
is_decoding (Decoding frame block) = true

abbrev pub IsSearching : Reception → Type 0
IsSearching (Searching last) = Unit {0}
IsSearching (Decoding frame block) = ⊥

-- Less than a whole block waits. This holds in each state that the receiving end reaches from a search.
abbrev pub IsReception : Reception → Type 0
IsReception (Searching last) = Unit {0}
IsReception (Decoding frame block) = length block < 8

-- `n` octets of the idle sequence
abbrev pub idle : ℕ → List ℕ
idle zero = []
idle (suc n) = 0x55 ∷ idle n
