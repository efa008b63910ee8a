-- The meaning of a line of a script, as a function of its words.
use Rattle.std.specs.Prelude.{ℕ, Bool, true, false, Option, ◌==◌, List, [], ◌∷◌, codes, Some, None, Result, Ok, Err, if◌then◌else◌}
use Rattle.hex.specs.Hex.{decode_of}
use Rattle.hex.specs.declared.FromHexError.{FromHexError}
use Rattle.tc_lines.specs.Number.{word_number}
use Rattle.tc_lines.specs.Word.{is, is_comment, after_ok}
use Rattle.tc_text.specs.declared.fault.Reason.{Reason}
use Rattle.tc_text.specs.declared.fault.Reason.TheVariants.{UnknownCommand, WordCount, BadNumber, BadHex, BadOption}
use Rattle.tc_text.specs.declared.line.Line.{Line}
use Rattle.tc_text.specs.declared.line.Line.TheVariants.{Blank, Channel, Queue, Map, Frame, Release, Take, Unit as TakeUnit, Clcw}

-- the word that is left, if there is one, or an error if more than one is left
abbrev pub last_of : List (List ℕ) → Result (Option (List ℕ)) Reason
last_of [] = Ok None
last_of (word ∷ []) = Ok (Some word)
last_of (word ∷ more ∷ rest) = Err WordCount

-- the two words that follow a command, or an error if there aren't exactly two
abbrev pub two_of : List (List ℕ) → Result (List ℕ × List ℕ) Reason
two_of [] = Err WordCount
two_of (first ∷ []) = Err WordCount
two_of (first ∷ second ∷ []) = Ok (first, second)
two_of (first ∷ second ∷ more ∷ rest) = Err WordCount

-- the three words that follow a command, or an error if there aren't exactly three
abbrev pub three_of : List (List ℕ) → Result (List ℕ × List ℕ × List ℕ) Reason
three_of [] = Err WordCount
three_of (first ∷ []) = Err WordCount
three_of (first ∷ second ∷ []) = Err WordCount
three_of (first ∷ second ∷ third ∷ []) = Ok (first, second, third)
three_of (first ∷ second ∷ third ∷ more ∷ rest) = Err WordCount

-- the result of `next` for the number that a word spells, or an error if the word isn't a number of at most `most`
abbrev pub with_number : ℕ → List ℕ → (ℕ → Result Line Reason) → Result Line Reason
with_number most word next = elim (word_number most word) [ None ↦ Err BadNumber | Some number ↦ next number ]

-- The flag for data fields that begin with a segment header. It is set if the line has no option, and clear if the
-- option is `plain`.
abbrev pub segmented_of : Option (List ℕ) → Result Bool Reason
segmented_of None = Ok true
segmented_of (Some option) = if is option (codes "plain") then Ok false else Err BadOption

abbrev pub channel_command : List (List ℕ) → Result Line Reason
channel_command [] = Err WordCount
channel_command (v ∷ []) = Err WordCount
channel_command (v ∷ w ∷ []) = Err WordCount
channel_command (v ∷ w ∷ b ∷ []) = Err WordCount
channel_command (v ∷ w ∷ b ∷ f ∷ rest) =
    after_ok (last_of rest) (λ option.
    with_number 255 v (λ vcid. with_number 255 w (λ width. with_number 255 b (λ buffer. with_number 255 f (λ first.
    after_ok (segmented_of option) (λ segmented.
    Ok (Channel vcid width buffer first segmented)))))))

abbrev pub queue_command : List (List ℕ) → Result Line Reason
queue_command arguments =
    after_ok (three_of arguments) (λ words.
    with_number 255 words.0 (λ vcid. with_number 65535 words.1 (λ apid. with_number 65535 words.2 (λ capacity.
    Ok (Queue vcid apid capacity)))))

abbrev pub map_command : List (List ℕ) → Result Line Reason
map_command arguments =
    after_ok (three_of arguments) (λ words.
    with_number 255 words.0 (λ vcid. with_number 255 words.1 (λ map_id. with_number 65535 words.2 (λ capacity.
    Ok (Map vcid map_id capacity)))))

abbrev pub frame_if_decoded : Result (List ℕ) FromHexError → Result Line Reason
frame_if_decoded (Ok octets) = Ok (Frame octets)
frame_if_decoded (Err fault) = Err BadHex

abbrev pub frame_command : List (List ℕ) → Result Line Reason
frame_command [] = Err WordCount
frame_command (digits ∷ []) = frame_if_decoded (decode_of digits)
frame_command (digits ∷ more ∷ rest) = Err WordCount

abbrev pub release_command : List (List ℕ) → Result Line Reason
release_command [] = Err WordCount
release_command (v ∷ []) = with_number 255 v (λ vcid. Ok (Release vcid))
release_command (v ∷ more ∷ rest) = Err WordCount

abbrev pub take_command : List (List ℕ) → Result Line Reason
take_command arguments =
    after_ok (two_of arguments) (λ words.
    with_number 255 words.0 (λ vcid. with_number 65535 words.1 (λ apid. Ok (Take vcid apid))))

abbrev pub unit_command : List (List ℕ) → Result Line Reason
unit_command arguments =
    after_ok (two_of arguments) (λ words.
    with_number 255 words.0 (λ vcid. with_number 255 words.1 (λ map_id. Ok (TakeUnit vcid map_id))))

abbrev pub clcw_command : List (List ℕ) → Result Line Reason
clcw_command [] = Err WordCount
clcw_command (v ∷ []) = with_number 255 v (λ vcid. Ok (Clcw vcid))
clcw_command (v ∷ more ∷ rest) = Err WordCount

-- the meaning of the words of a line, or the first reason why the words are bad
unfoldable pub line_of : List (List ℕ) → Result Line Reason
line_of [] = Ok Blank
line_of (command ∷ arguments) =
    if is_comment command then Ok Blank
    else if is command (codes "channel") then channel_command arguments
    else if is command (codes "queue") then queue_command arguments
    else if is command (codes "map") then map_command arguments
    else if is command (codes "frame") then frame_command arguments
    else if is command (codes "release") then release_command arguments
    else if is command (codes "take") then take_command arguments
    else if is command (codes "unit") then unit_command arguments
    else if is command (codes "clcw") then clcw_command arguments
    else Err UnknownCommand
