-- Lines of octets, and their answers.
use Rattle.std.specs.Prelude.{◌≡◌, ◌≢◌, ◌<◌, ◌≤◌, ◌==◌, if◌then◌else◌, ◌⊎◌, ℕ, true, false, List, [], ◌∷◌, ◌++◌, length, codes, Option}
use Rattle.std.specs.Io.KnownBytes.{Appends, Keeps}
use Rattle.tc_lines.specs.declared.reading.LineRead.{LineRead}
use Rattle.tc_lines.specs.declared.answering.ServingFault.{ServingFault}
use Rattle.tc_lines.specs.declared.answering.ServingFault.TheVariants.{Read, Write, NoMemory}

-- The lines with one more octet in front. The octet isn't a line feed, so it belongs to the first line.
abbrev pub lines_after : ℕ → List (List ℕ) → List (List ℕ)
lines_after octet [] = (octet ∷ []) ∷ []
lines_after octet (line ∷ lines) = (octet ∷ line) ∷ lines

-- The lines of octets in their order, each without its line feed. Octets after the last line feed are a line.
abbrev pub lines_of : List ℕ → List (List ℕ)
lines_of [] = []
lines_of (octet ∷ octets) = if octet == 10 then [] ∷ lines_of octets else lines_after octet (lines_of octets)

-- the contents of a writer grew by a text with this property
abbrev pub Writes : Option (List ℕ) → Option (List ℕ) → (List ℕ → Type 0) → Type 0
Writes old new Is = (text : List ℕ) × Is text × Appends old new text

-- the answer to a line of more octets than the limit
abbrev pub too_long_text : List ℕ
too_long_text = codes "bad too long\n"

-- A line of more than `limit` octets is answered with `too_long_text`, and changes nothing. Any other line is answered
-- as `Answers` states.
abbrev pub IsAnswered : {S : Type 0} → ℕ → (S → List ℕ → S → List ℕ → Type 0) → S → List ℕ → S → List ℕ → Type 0
IsAnswered limit Answers old line new text =
    ((limit < length line) × (new ≡ old) × (text ≡ too_long_text)) ⊎ ((length line ≤ limit) × Answers old line new text)

-- lines are answered in their order, each once
abbrev pub AreAnswered : {S : Type 0} → ℕ → (S → List ℕ → S → List ℕ → Type 0) → S → List (List ℕ) → S → List ℕ → Type 0
AreAnswered limit Answers old [] new text = (new ≡ old) × (text ≡ [])
AreAnswered {S} limit Answers old (line ∷ lines) new text =
    (between : S) × (first : List ℕ) × (rest : List ℕ) × IsAnswered limit Answers old line between first
    × AreAnswered limit Answers between lines new rest × (text ≡ first ++ rest)

-- A line that was read is answered as `Answers` states for its kept octets, or with `too_long_text` if it was too long.
-- If no line feed was read and no octets were kept, there was no line, and nothing is answered.
abbrev pub IsReadAnswered : {S : Type 0} → (S → List ℕ → S → List ℕ → Type 0) → S → LineRead → List ℕ → S → List ℕ → Type 0
IsReadAnswered Answers old read kept new text =
    ((read.too_long ≡ true) × (new ≡ old) × (text ≡ too_long_text))
    ⊎ ((read.too_long ≡ false) × ((read.ended ≡ true) ⊎ (kept ≢ [])) × Answers old kept new text)
    ⊎ ((read.too_long ≡ false) × (read.ended ≡ false) × (kept ≡ []) × (new ≡ old) × (text ≡ []))

-- the answers to all lines of these octets were written, in their order, each once
abbrev pub AreAllWritten : {S : Type 0} → ℕ → (S → List ℕ → S → List ℕ → Type 0) → S → List ℕ → S → Option (List ℕ) → Option (List ℕ) → Type 0
AreAllWritten limit Answers old octets new before after = Writes before after (AreAnswered limit Answers old (lines_of octets) new)

-- the answers to the first lines of these octets were written, up to some line
abbrev pub AreFirstWritten : {S : Type 0} → ℕ → (S → List ℕ → S → List ℕ → Type 0) → S → List ℕ → S → Option (List ℕ) → Option (List ℕ) → Type 0
AreFirstWritten limit Answers old octets new before after =
    (lines : List (List ℕ)) × (rest : List (List ℕ)) × (lines_of octets ≡ lines ++ rest)
    × Writes before after (AreAnswered limit Answers old lines new)

-- The state after an early end. After a failed read, some first lines were answered. After a failed write, nothing is
-- known. Without memory, nothing was done.
abbrev pub IsCutShort : {S : Type 0} → ℕ → (S → List ℕ → S → List ℕ → Type 0) → S → List ℕ → S → Option (List ℕ) → Option (List ℕ) → ServingFault → Type 0
IsCutShort limit Answers old octets new before after Read = AreFirstWritten limit Answers old octets new before after
IsCutShort limit Answers old octets new before after Write = Unit {0}
IsCutShort limit Answers old octets new before after NoMemory = (new ≡ old) × Keeps before after
