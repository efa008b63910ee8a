-- The meaning of a line, as a function of its words.
use Rattle.std.specs.Prelude.{ℕ, Bool, true, false, Option, ◌==◌, ◌&&◌, ◌||◌, List, [], ◌∷◌, length, codes, slice_index, Some, None, Result, Ok, Err, if◌then◌else◌}
use Rattle.hex.specs.Hex.{decode_of}
use Rattle.tc_edges.specs.declared.cltu.block.Mode.{Mode}
use Rattle.tc_edges.specs.declared.cltu.block.Mode.TheVariants.{Detect, Correct}
use Rattle.tc_link.specs.declared.command.Command.TheVariants.{Unlock, SetVr}
use Rattle.tc_packet.specs.declared.segment.Part.TheVariants.{Unsegmented}
use Rattle.tc_packet.specs.declared.segment.Segment.{Segment}
use Rattle.tc_lines.specs.Number.{word_number}
use Rattle.tc_lines.specs.Word.{is, is_comment, after_ok}
use Rattle.tc_make.specs.declared.fault.Reason.{Reason}
use Rattle.tc_make.specs.declared.fault.Reason.TheVariants.{UnknownCommand, Marked, WordCount, BadNumber, BadHex, BadMode, BadClcw}
use Rattle.tc_link.specs.declared.frame.Header.{Header}
use Rattle.tc_make.specs.declared.form.Form.{Form}
use Rattle.tc_make.specs.declared.form.Form.TheVariants as forms
use Rattle.tc_make.specs.declared.form.Number.{Number}
use Rattle.tc_make.specs.declared.form.Number.TheVariants as numbers
use Rattle.tc_make.specs.declared.line.Stream.{Stream}
use Rattle.tc_make.specs.declared.line.Sizing.{Sizing}
use Rattle.tc_make.specs.declared.line.Line.{Line}
use Rattle.tc_make.specs.declared.line.Line.TheVariants.{Blank, Packet, Frame, Command, Segments, Explain, Clcw, Cltu, Random, Tm, Telemetry, Decoder, Piece, Search, Frames}

abbrev pub Words : Type 0
Words = List (List ℕ)

abbrev pub Said : Type 0
Said = Result Line Reason

-- the octets that the only argument of a command spells, or an error if there isn't one argument or it isn't hexadecimal
abbrev pub alone_of : Form → Words → Result (List ℕ) Reason
alone_of form (word ∷ []) = elim (decode_of word) [ Ok octets ↦ Ok octets | Err fault ↦ Err BadHex ]
alone_of form _ = Err (WordCount form)

-- The result of `says` for one word, or an error if the number of words isn't one. The next definitions do this for two
-- to six words.
abbrev pub with_one : Form → Words → (List ℕ → Said) → Said
with_one form (a ∷ []) says = says a
with_one form _ says = Err (WordCount form)

abbrev pub with_two : Form → Words → (List ℕ → List ℕ → Said) → Said
with_two form (a ∷ b ∷ []) says = says a b
with_two form _ says = Err (WordCount form)

abbrev pub with_three : Form → Words → (List ℕ → List ℕ → List ℕ → Said) → Said
with_three form (a ∷ b ∷ c ∷ []) says = says a b c
with_three form _ says = Err (WordCount form)

abbrev pub with_four : Form → Words → (List ℕ → List ℕ → List ℕ → List ℕ → Said) → Said
with_four form (a ∷ b ∷ c ∷ d ∷ []) says = says a b c d
with_four form _ says = Err (WordCount form)

abbrev pub with_five : Form → Words → (List ℕ → List ℕ → List ℕ → List ℕ → List ℕ → Said) → Said
with_five form (a ∷ b ∷ c ∷ d ∷ e ∷ []) says = says a b c d e
with_five form _ says = Err (WordCount form)

abbrev pub with_six : Form → Words → (List ℕ → List ℕ → List ℕ → List ℕ → List ℕ → List ℕ → Said) → Said
with_six form (a ∷ b ∷ c ∷ d ∷ e ∷ f ∷ []) says = says a b c d e f
with_six form _ says = Err (WordCount form)

-- the result of `next` for the number that a word spells, or an error if the word isn't a number of at most `most`
abbrev pub if_number : Number → ℕ → List ℕ → (ℕ → Said) → Said
if_number name most word next = elim (word_number most word) [ None ↦ Err (BadNumber name) | Some number ↦ next number ]

-- the result of `next` for the octets that a word spells in hexadecimal digits, or an error if it doesn't spell octets
abbrev pub with_octets : List ℕ → (List ℕ → Said) → Said
with_octets word next = elim (decode_of word) [ Ok octets ↦ next octets | Err fault ↦ Err BadHex ]

-- The segment header that a word names. The word `plain` stands for no segment header, and a number for an unsegmented
-- one with this MAP id.
abbrev pub segment_word : List ℕ → Result (Option Segment) Reason
segment_word word =
    if is word (codes "plain") then Ok None
    else elim (word_number 255 word) [ None ↦ Err (BadNumber numbers.Map) | Some map ↦ Ok (Some (record { part = Unsegmented; map = map })) ]

-- the stream that three words name: a spacecraft, one of its virtual channels, and an N(S)
abbrev pub stream_of : List ℕ → List ℕ → List ℕ → Result Stream Reason
stream_of s v n =
    elim (word_number 65535 s) [
      | None ↦ Err (BadNumber numbers.Scid)
      | Some scid ↦ elim (word_number 255 v) [
        | None ↦ Err (BadNumber numbers.Vcid)
        | Some vcid ↦ elim (word_number 255 n) [
          | None ↦ Err (BadNumber numbers.Ns)
          | Some ns ↦ Ok (record { scid = scid; vcid = vcid; ns = ns })
        ]
      ]
    ]

-- the sizing that two words name: a MAP, and the number of octets of the unit that each segment except the last carries
abbrev pub sizing_of : List ℕ → List ℕ → Result Sizing Reason
sizing_of m z =
    elim (word_number 255 m) [
      | None ↦ Err (BadNumber numbers.Map)
      | Some map ↦ elim (word_number 65535 z) [
        | None ↦ Err (BadNumber numbers.Size)
        | Some size ↦ Ok (record { map = map; size = size })
      ]
    ]

abbrev pub ad_header : Stream → Header
ad_header stream = record { bypass = false; control = false; scid = stream.scid; vcid = stream.vcid; ns = stream.ns }

-- the header of a Type-BD frame, in which N(S) is 0 (CCSDS 232.0-B, 4.1.2.8)
abbrev pub bd_header : ℕ → ℕ → Header
bd_header scid vcid = record { bypass = true; control = false; scid = scid; vcid = vcid; ns = 0 }

abbrev pub packet_of : Words → Said
packet_of words = with_three forms.Packet words (λ a c o. if_number numbers.Apid 65535 a (λ apid. if_number numbers.Count 65535 c (λ count. with_octets o (λ octets.
    Ok (Packet apid count octets)))))

-- the line for a frame that carries the octets that a word spells
abbrev pub framed_of : Header → Option Segment → List ℕ → Said
framed_of header segment word = with_octets word (λ octets. Ok (Frame header segment octets))

abbrev pub ad_of : Words → Said
ad_of words = with_five forms.Ad words (λ s v n m o. after_ok (stream_of s v n) (λ stream. after_ok (segment_word m) (λ segment. framed_of (ad_header stream) segment o)))

abbrev pub bd_of : Words → Said
bd_of words = with_four forms.Bd words (λ s v m o. if_number numbers.Scid 65535 s (λ scid. if_number numbers.Vcid 255 v (λ vcid. after_ok (segment_word m) (λ segment.
    framed_of (bd_header scid vcid) segment o))))

abbrev pub unlock_of : Words → Said
unlock_of words = with_two forms.Unlock words (λ s v. if_number numbers.Scid 65535 s (λ scid. if_number numbers.Vcid 255 v (λ vcid. Ok (Command scid vcid Unlock))))

abbrev pub setvr_of : Words → Said
setvr_of words = with_three forms.SetVr words (λ s v x. if_number numbers.Scid 65535 s (λ scid. if_number numbers.Vcid 255 v (λ vcid. if_number numbers.Vr 255 x (λ vr.
    Ok (Command scid vcid (SetVr vr))))))

-- the line for the unit that a word spells, which is sent in segments
abbrev pub parted_of : Stream → Sizing → List ℕ → Said
parted_of stream sizing word = with_octets word (λ unit. Ok (Segments stream sizing unit))

abbrev pub sized_of : Stream → List ℕ → List ℕ → List ℕ → Said
sized_of stream m z o = after_ok (sizing_of m z) (λ sizing. parted_of stream sizing o)

abbrev pub segments_of : Words → Said
segments_of words = with_six forms.Segments words (λ s v n m z o. after_ok (stream_of s v n) (λ stream. sized_of stream m z o))

abbrev pub explain_of : Words → Said
explain_of words = after_ok (alone_of forms.Explain words) (λ octets. Ok (Explain octets))

abbrev pub clcw_of : Words → Said
clcw_of words = after_ok (alone_of forms.Clcw words) (λ octets. Ok (Clcw octets))

abbrev pub cltu_of : Words → Said
cltu_of words = after_ok (alone_of forms.Cltu words) (λ octets. Ok (Cltu octets))

abbrev pub random_of : Words → Said
random_of words = after_ok (alone_of forms.Random words) (λ octets. Ok (Random octets))

-- the four octets of the CLCW that a word spells
abbrev pub four_of : List ℕ → Result (List ℕ) Reason
four_of word = elim (decode_of word) [ Ok octets ↦ (if length octets == 4 then Ok octets else Err BadClcw) | Err fault ↦ Err BadHex ]

abbrev pub tm_of : Words → Said
tm_of words = with_four forms.Tm words (λ s v z o. if_number numbers.Scid 65535 s (λ scid. if_number numbers.Vcid 255 v (λ vcid. if_number numbers.Size 65535 z (λ size.
    after_ok (four_of o) (λ control. Ok (Tm (record { scid = scid; vcid = vcid; size = size; control = control })))))))

abbrev pub telemetry_of : Words → Said
telemetry_of words = after_ok (alone_of forms.Telemetry words) (λ octets. Ok (Telemetry octets))

abbrev pub mode_word : List ℕ → Result Mode Reason
mode_word word =
    if is word (codes "detect") then Ok Detect
    else if is word (codes "correct") then Ok Correct
    else Err BadMode

abbrev pub decoder_of : Words → Said
decoder_of words = with_two forms.Decoder words (λ i m. if_number numbers.Id 255 i (λ id. after_ok (mode_word m) (λ mode. Ok (Decoder id mode))))

abbrev pub piece_of : Words → Said
piece_of words = with_two forms.Octets words (λ i o. if_number numbers.Id 255 i (λ id. with_octets o (λ octets. Ok (Piece id octets))))

-- the flag that is set if the word begins with the byte order mark of UTF-8 or UTF-16
abbrev pub is_marked : List ℕ → Bool
is_marked word =
    (slice_index word 0 == 239 && slice_index word 1 == 187 && slice_index word 2 == 191)
    || (slice_index word 0 == 255 && slice_index word 1 == 254)
    || (slice_index word 0 == 254 && slice_index word 1 == 255)

abbrev pub search_of : Words → Said
search_of words = with_one forms.Search words (λ i. if_number numbers.Id 255 i (λ id. Ok (Search id)))

abbrev pub frames_of : Words → Said
frames_of words = with_two forms.Frames words (λ m o. if_number numbers.Most 255 m (λ most. with_octets o (λ octets. Ok (Frames most octets))))

-- the meaning of a line about CLTUs or telemetry frames, or the reason why the line is bad
unfoldable pub link_line_of : List ℕ → Words → Said
link_line_of command arguments =
    if is command (codes "cltu") then cltu_of arguments
    else if is command (codes "random") then random_of arguments
    else if is command (codes "tm") then tm_of arguments
    else if is command (codes "telemetry") then telemetry_of arguments
    else if is command (codes "decoder") then decoder_of arguments
    else if is command (codes "octets") then piece_of arguments
    else if is command (codes "search") then search_of arguments
    else if is command (codes "frames") then frames_of arguments
    else if is_marked command then Err Marked
    else Err UnknownCommand

-- the meaning of the words of a line, or the first of the reasons why the line is bad
unfoldable pub maker_line_of : Words → Said
maker_line_of [] = Ok Blank
maker_line_of (command ∷ arguments) =
    if is_comment command then Ok Blank
    else if is command (codes "packet") then packet_of arguments
    else if is command (codes "ad") then ad_of arguments
    else if is command (codes "bd") then bd_of arguments
    else if is command (codes "unlock") then unlock_of arguments
    else if is command (codes "setvr") then setvr_of arguments
    else if is command (codes "segments") then segments_of arguments
    else if is command (codes "explain") then explain_of arguments
    else if is command (codes "clcw") then clcw_of arguments
    else link_line_of command arguments
