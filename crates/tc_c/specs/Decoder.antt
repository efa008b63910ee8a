-- A decoder of CLTUs, as a record of numbers and a buffer. The buffer has the octets that the decoder holds.
use Rattle.std.specs.Prelude.{ℕ, ◌==◌, ◌||◌, Bool, true, false, List, [], ◌∷◌, take, drop, Result, Ok, Err, nat_lt, if◌then◌else◌}
use Rattle.tc_edges.specs.declared.cltu.block.Mode.{Mode}
use Rattle.tc_edges.specs.declared.cltu.block.Mode.TheVariants.{Detect, Correct}
use Rattle.tc_edges.specs.Cltu.Cltu.{most_octets}
use Rattle.tc_edges.specs.Cltu.Reception.{Reception, Searching, Decoding}
use Rattle.tc_c_base.specs.declared.status.Status.{Status}
use Rattle.tc_c_base.specs.declared.status.Status.TheVariants.{BadDecoder, NoRoom}
use Rattle.tc_c.specs.declared.decoder.DecoderRecord.{DecoderRecord}
use Rattle.tc_c.specs.declared.decoder.DecodedRecord.{DecodedRecord}
use Rattle.tc_c_base.specs.Status.{code_of}
use Rattle.tc_c.specs.Farm.{with_ok, flag_of}

abbrev pub mode_of : Bool → Mode
mode_of true = Correct
mode_of false = Detect

-- the number of octets that a buffer needs, for the most octets that a CLTU carries, and one code block behind them
abbrev pub decoder_room : ℕ
decoder_room = 1037

-- The given mode, or the first reason why the decoder can't take octets in it. Either a number of the record is too
-- large, or the buffer, which has `room` octets, is too short.
abbrev pub decoder_allowed : DecoderRecord → ℕ → Mode → Result Mode Status
decoder_allowed decoder room mode =
    if nat_lt 7 decoder.count || nat_lt most_octets decoder.carried then Err BadDecoder
    else if nat_lt room decoder_room then Err NoRoom
    else Ok mode

abbrev pub decoder_given : DecoderRecord → ℕ → Result Mode Status
decoder_given decoder room =
    with_ok (flag_of decoder.correct) (λ correct.
    with_ok (flag_of decoder.decoding) (λ decoding.
    decoder_allowed decoder room (mode_of correct)))

-- The state of a decoder. While the decoder decodes, the buffer begins with the octets that the code blocks carried.
-- The octets of the next block that have come stand behind them.
abbrev pub reception_of : DecoderRecord → List ℕ → Reception
reception_of decoder frame =
    if decoder.decoding == 0 then Searching decoder.last
    else Decoding (take decoder.carried frame) (take decoder.count (drop decoder.carried frame))

-- the list of the candidate frames that ended in a call, one or none, given the call's record and the buffer after it
abbrev pub given_by : DecodedRecord → List ℕ → List (List ℕ)
given_by answer frame = if answer.ended == 0 then [] else take answer.decoder.carried frame ∷ []

-- the record of a call that takes no octets
abbrev pub none_taken : Status → DecoderRecord → DecodedRecord
none_taken fault decoder = record { status = code_of fault; decoder = decoder; ended = 0; taken = 0; corrected = 0; rejected = 0; overlong = 0 }

-- the decoder when it begins to look for a start sequence
abbrev pub searching : DecoderRecord → DecoderRecord
searching decoder = record { correct = decoder.correct; decoding = 0; last = 0; count = 0; carried = 0 }
