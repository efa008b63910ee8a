-- The meaning of a line for a live receiver, as a function of its words.
use Rattle.std.specs.Prelude.{ℕ, Bool, true, false, ◌==◌, List, [], ◌∷◌, codes, Some, None, Result, Ok, Err, if◌then◌else◌}
use Rattle.tc_text.specs.Line.{line_of, three_of}
use Rattle.tc_lines.specs.Number.{word_number}
use Rattle.tc_lines.specs.Word.{is, after_ok}
use Rattle.tc_text.specs.declared.fault.Reason.{Reason}
use Rattle.tc_text.specs.declared.fault.Reason.TheVariants.{WordCount, BadNumber, BadHex}
use Rattle.hex.specs.Hex.{decode_of}
use Rattle.hex.specs.declared.FromHexError.{FromHexError}
use Rattle.tc_text.specs.declared.line.Line.{Line}
use Rattle.tc_text.specs.declared.line.Line.TheVariants.{Blank}
use Rattle.tc_text.specs.declared.live.LiveLine.{LiveLine}
use Rattle.tc_text.specs.declared.live.LiveLine.TheVariants.{Script, Link as LinkOf, Report, Deliver, Collect, Candidate}

abbrev pub small_of : List ℕ → Result ℕ Reason
small_of word = elim (word_number 255 word) [ None ↦ Err BadNumber | Some number ↦ Ok number ]

-- the flag that a number stands for: 0 is clear, 1 is set, and any other number is bad
abbrev pub flag_for : ℕ → Result Bool Reason
flag_for number = if number == 0 then Ok false else if number == 1 then Ok true else Err BadNumber

abbrev pub flag_word : List ℕ → Result Bool Reason
flag_word word = after_ok (small_of word) flag_for

abbrev pub link_command : List (List ℕ) → Result LiveLine Reason
link_command arguments =
    after_ok (three_of arguments) (λ words.
    after_ok (small_of words.0) (λ vcid. after_ok (flag_word words.1) (λ no_rf. after_ok (flag_word words.2) (λ no_bit_lock.
    Ok (LinkOf vcid (record { no_rf = no_rf; no_bit_lock = no_bit_lock }))))))

abbrev pub report_command : List (List ℕ) → Result LiveLine Reason
report_command [] = Err WordCount
report_command (v ∷ []) = after_ok (small_of v) (λ vcid. Ok (Report vcid))
report_command (v ∷ more ∷ rest) = Err WordCount

abbrev pub deliver_command : List (List ℕ) → Result LiveLine Reason
deliver_command [] = Err WordCount
deliver_command (v ∷ []) = after_ok (small_of v) (λ vcid. Ok (Deliver vcid))
deliver_command (v ∷ more ∷ rest) = Err WordCount

abbrev pub collect_command : List (List ℕ) → Result LiveLine Reason
collect_command [] = Err WordCount
collect_command (v ∷ []) = after_ok (small_of v) (λ vcid. Ok (Collect vcid))
collect_command (v ∷ more ∷ rest) = Err WordCount

abbrev pub candidate_if_decoded : Result (List ℕ) FromHexError → Result LiveLine Reason
candidate_if_decoded (Ok octets) = Ok (Candidate octets)
candidate_if_decoded (Err fault) = Err BadHex

abbrev pub candidate_command : List (List ℕ) → Result LiveLine Reason
candidate_command [] = Err WordCount
candidate_command (digits ∷ []) = candidate_if_decoded (decode_of digits)
candidate_command (digits ∷ more ∷ rest) = Err WordCount

abbrev pub scripted : Result Line Reason → Result LiveLine Reason
scripted said = after_ok said (λ line. Ok (Script line))

-- The meaning of the words of a line, or the first reason why the words are bad. Only a live receiver takes the commands
-- `link`, `report`, `deliver`, `collect` and `candidate`.
unfoldable pub live_line_of : List (List ℕ) → Result LiveLine Reason
live_line_of [] = Ok (Script Blank)
live_line_of (command ∷ arguments) =
    if is command (codes "link") then link_command arguments
    else if is command (codes "report") then report_command arguments
    else if is command (codes "deliver") then deliver_command arguments
    else if is command (codes "collect") then collect_command arguments
    else if is command (codes "candidate") then candidate_command arguments
    else scripted (line_of (command ∷ arguments))
