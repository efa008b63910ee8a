-- The decoders of streams, and the answers to their octets.
use Rattle.std.specs.Prelude.{◌≡◌, ◌⊎◌, ℕ, Bool, List, [], ◌∷◌, ◌++◌, codes, decimal, replicate, slice_index_or, slice_set, Option, Some, None}
use Rattle.std.specs.List.{flat_map}
use Rattle.tc_edges.specs.Cltu.Cltu.{most_octets}
use Rattle.tc_edges.specs.Cltu.Reception.{Receiver, Searching, state_after, frames_of, corrected_in, rejected_in, overlong_in, is_decoding}
use Rattle.tc_edges.specs.declared.cltu.block.Mode.{Mode}
use Rattle.tc_make.specs.Printed.{bad_text, named_text, flag_text}
use Rattle.tc_make.specs.declared.fault.Reason.TheVariants.{NoDecoder, NoMemory}

unfoldable pub no_decoders : List (Option Receiver)
no_decoders = replicate 256 None

abbrev pub new_decoder : Mode → Receiver
new_decoder mode = record { mode = mode; state = Searching 0; carried = [] }

-- the decoders after a stream gets a new decoder, in the place of any that it had
abbrev pub with_new_decoder : List (Option Receiver) → ℕ → Mode → List (Option Receiver)
with_new_decoder decoders id mode = slice_set decoders id (Some (new_decoder mode))

-- a line for each candidate frame
abbrev pub candidates_text : List (List ℕ) → List ℕ
candidates_text frames = flat_map (named_text (codes "frame")) frames

-- the line `blocks ..`, with the numbers of code blocks that were corrected and rejected, and of CLTUs that carried too
-- many octets
abbrev pub blocks_text : ℕ → ℕ → ℕ → List ℕ
blocks_text corrected rejected overlong =
    codes "blocks corrected " ++ decimal corrected ++ codes " rejected " ++ decimal rejected ++ codes " overlong " ++ decimal overlong ++ codes "\n"

-- the answer to octets that a decoder is given
abbrev pub fed_text : Receiver → List ℕ → List ℕ
fed_text d octets =
    candidates_text (frames_of d.mode most_octets d.state octets) ++ blocks_text (corrected_in d.mode most_octets d.state octets) (rejected_in d.mode most_octets d.state octets)
    (overlong_in d.mode most_octets d.state octets)

-- Either a decoder took the octets and the text is its answer, or there is no decoder and the text reports that.
abbrev pub IsFed : Option Receiver → List ℕ → Option Receiver → List ℕ → Type 0
IsFed None octets new text = (new ≡ None) × (text ≡ bad_text NoDecoder)
IsFed (Some old) octets new text =
    (d : Receiver) × (new ≡ Some d) × (d.mode ≡ old.mode) × (d.state ≡ state_after old.mode most_octets old.state octets) × (text ≡ fed_text old octets)

-- The decoder of a stream, if there is one, took the stream's next octets, and the text is the answer. Nothing changes
-- for other streams.
abbrev pub IsPieceSaid : List (Option Receiver) → ℕ → List ℕ → List (Option Receiver) → List ℕ → Type 0
IsPieceSaid old id octets new text = (slot : Option Receiver) × (new ≡ slice_set old id slot) × IsFed (slice_index_or old id None) octets slot text

-- Either the stream has a new decoder and the answer is empty, or memory ran out and the decoders are as they were.
abbrev pub IsDecoderSaid : List (Option Receiver) → ℕ → Mode → List (Option Receiver) → List ℕ → Type 0
IsDecoderSaid old id mode new text = ((text ≡ []) × (new ≡ with_new_decoder old id mode)) ⊎ ((text ≡ bad_text NoMemory) × (new ≡ old))

-- the line `search ..`, with a flag that is set if a CLTU was cut short
abbrev pub search_text : Bool → List ℕ
search_text cut = codes "search cut " ++ flag_text cut ++ codes "\n"

-- Either a decoder looks for a start sequence again, or there is no decoder and the text reports that.
abbrev pub IsSearching : Option Receiver → Option Receiver → List ℕ → Type 0
IsSearching None new text = (new ≡ None) × (text ≡ bad_text NoDecoder)
IsSearching (Some old) new text =
    (d : Receiver) × (new ≡ Some d) × (d.mode ≡ old.mode) × (d.state ≡ Searching 0) × (text ≡ search_text (is_decoding old.state))

-- The decoder of a stream, if there is one, looks for a start sequence again, and the text is the answer. Nothing
-- changes for other streams.
abbrev pub IsSearchSaid : List (Option Receiver) → ℕ → List (Option Receiver) → List ℕ → Type 0
IsSearchSaid old id new text = (slot : Option Receiver) × (new ≡ slice_set old id slot) × IsSearching (slice_index_or old id None) slot text
