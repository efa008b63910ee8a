-- The answers to bad lines, which docs/reference/tclive.md shows under "Output".
use Rattle.std.specs.Prelude.{ℕ, Bool, true, false, ◌==◌, ◌||◌, ◌&&◌, Option, Some, None, List, [], ◌∷◌, codes, nat_le, slice_index, if◌then◌else◌}
use Rattle.tc_lines.specs.Number.{word_number}
use Rattle.tc_lines.specs.Word.{is}
use Rattle.tc_live.specs.declared.hint.Number.{Number}
use Rattle.tc_live.specs.declared.hint.Number.TheVariants.{Vcid, Width, Buffer, First, Apid, Capacity, Map, NoRf, NoBitLock}
use Rattle.tc_text.specs.declared.fault.Reason.{Reason}
use Rattle.tc_text.specs.declared.fault.Reason.TheVariants.{UnknownCommand, WordCount, BadNumber, BadHex, BadVcid, BadWindow, BadBuffer, BadApid, BadCapacity, BadOption, BadMap, BadUnits}

-- the text before a reason: `bad` and a space, or nothing if the reason begins with `bad`
abbrev pub bad_word_text : Reason → List ℕ
bad_word_text BadNumber = []
bad_word_text BadHex = []
bad_word_text BadVcid = []
bad_word_text BadWindow = []
bad_word_text BadBuffer = []
bad_word_text BadApid = []
bad_word_text BadCapacity = []
bad_word_text BadOption = []
bad_word_text BadMap = []
bad_word_text BadUnits = []
bad_word_text _ = codes "bad "

-- the flag that is set if the word begins with the byte order mark of UTF-8 or UTF-16
abbrev pub is_marked : List ℕ → Bool
is_marked word =
    (slice_index word 0 == 239 && slice_index word 1 == 187 && slice_index word 2 == 191)
    || (slice_index word 0 == 255 && slice_index word 1 == 254)
    || (slice_index word 0 == 254 && slice_index word 1 == 255)

abbrev pub commands_text : List ℕ
commands_text = codes ": use channel, queue, map, frame, release, take, unit, clcw, link, report, deliver, collect or candidate"

-- the list of the commands, or a note that the line begins with a byte order mark
abbrev pub unknown_text : List (List ℕ) → List ℕ
unknown_text [] = commands_text
unknown_text (command ∷ arguments) =
    if is_marked command then codes ": the line begins with a byte order mark; save the file without it" else commands_text

-- the form of the command that the words begin with, or nothing if they don't begin with a command
unfoldable pub command_form_text : List (List ℕ) → List ℕ
command_form_text [] = []
command_form_text (command ∷ arguments) =
    if is command (codes "channel") then codes ": write channel VC WIDTH BUFFER VR [plain]"
    else if is command (codes "queue") then codes ": write queue VC APID CAPACITY"
    else if is command (codes "map") then codes ": write map VC MAP CAPACITY"
    else if is command (codes "frame") then codes ": write frame HEX, octets without spaces"
    else if is command (codes "release") then codes ": write release VC"
    else if is command (codes "take") then codes ": write take VC APID"
    else if is command (codes "unit") then codes ": write unit VC MAP"
    else if is command (codes "clcw") then codes ": write clcw VC"
    else if is command (codes "link") then codes ": write link VC RF BL"
    else if is command (codes "report") then codes ": write report VC"
    else if is command (codes "deliver") then codes ": write deliver VC"
    else if is command (codes "collect") then codes ": write collect VC"
    else if is command (codes "candidate") then codes ": write candidate HEX, octets without spaces"
    else []

-- the name of a number in the form of its command, and its bounds
abbrev pub bounds_text : Number → List ℕ
bounds_text Vcid = codes ": VC is 0 to 63"
bounds_text Width = codes ": WIDTH is even, 2 to 254"
bounds_text Buffer = codes ": BUFFER is 1 to 64"
bounds_text First = codes ": VR is 0 to 255"
bounds_text Apid = codes ": APID is 0 to 2046"
bounds_text Capacity = codes ": CAPACITY is 1 to 256"
bounds_text Map = codes ": MAP is 0 to 63"
bounds_text NoRf = codes ": RF is 0 or 1"
bounds_text NoBitLock = codes ": BL is 0 or 1"

-- the largest value that the parser accepts for a number
abbrev pub most_of : Number → ℕ
most_of Apid = 65535
most_of Capacity = 65535
most_of NoRf = 1
most_of NoBitLock = 1
most_of _ = 255

-- the flag that is set if the parser accepts this word for the number
abbrev pub takes_word : Number → List ℕ → Bool
takes_word number word = elim (word_number 65535 word) [ None ↦ false | Some n ↦ nat_le n (most_of number) ]

-- The numbers after a command, in order. A command that isn't named here counts as one with a channel's id alone.
unfoldable pub numbers_behind : List ℕ → List Number
numbers_behind command =
    if is command (codes "channel") then Vcid ∷ Width ∷ Buffer ∷ First ∷ []
    else if is command (codes "queue") then Vcid ∷ Apid ∷ Capacity ∷ []
    else if is command (codes "map") then Vcid ∷ Map ∷ Capacity ∷ []
    else if is command (codes "take") then Vcid ∷ Apid ∷ []
    else if is command (codes "unit") then Vcid ∷ Map ∷ []
    else if is command (codes "link") then Vcid ∷ NoRf ∷ NoBitLock ∷ []
    else Vcid ∷ []

-- the first of the numbers whose word can't be parsed, or `None` if all words for the numbers can be parsed
abbrev pub first_misfit : List Number → List (List ℕ) → Option Number
first_misfit [] arguments = None
first_misfit (number ∷ numbers) [] = None
first_misfit (number ∷ numbers) (word ∷ arguments) = if takes_word number word then first_misfit numbers arguments else Some number

abbrev pub misfit_text : Option Number → List ℕ
misfit_text None = []
misfit_text (Some number) = bounds_text number

-- the bounds of the first number whose word can't be parsed, if there is one
abbrev pub number_hint_text : List (List ℕ) → List ℕ
number_hint_text [] = []
number_hint_text (command ∷ arguments) = misfit_text (first_misfit (numbers_behind command) arguments)

-- The hint on how to mend a line. It lists the commands, shows the form of the line's command, or gives the bounds or
-- the form of the wrong word. It is empty if the reason has no hint.
abbrev pub line_hint_text : List (List ℕ) → Reason → List ℕ
line_hint_text line UnknownCommand = unknown_text line
line_hint_text line WordCount = command_form_text line
line_hint_text line BadNumber = number_hint_text line
line_hint_text line BadHex = codes ": HEX is two hexadecimal digits for each octet"
line_hint_text line BadOption = codes ": write plain or nothing after VR"
line_hint_text line BadVcid = bounds_text Vcid
line_hint_text line BadWindow = bounds_text Width
line_hint_text line BadBuffer = bounds_text Buffer
line_hint_text line BadApid = bounds_text Apid
line_hint_text line BadCapacity = bounds_text Capacity
line_hint_text line BadMap = bounds_text Map
line_hint_text line BadUnits = bounds_text Capacity
line_hint_text line _ = []
