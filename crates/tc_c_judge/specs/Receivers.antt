-- The results of the calls on a judge of a receiver.
use Rattle.std.specs.Prelude.{◌≡◌, ◌≢◌, ◌≤◌, ◌<◌, ◌+◌, ◌↔◌, ◌⊎◌, ℕ, Bool, true, false, List, [], ◌∷◌, drop, length}
use Rattle.tc_link.specs.Clcw.{IsClcw, fields_of, word_of}
use Rattle.tc_link.specs.Farm.{first_report}
use Rattle.tc_link.specs.declared.farm.Report.{Report}
use Rattle.tc_judge.specs.Account.{Explains}
use Rattle.tc_judge.specs.Judge.{Knowledge, Allows}
use Rattle.tc_judge.specs.Layer.{Has, IsEmpty, place_in_layer}
use Rattle.tc_judge.specs.Reading.{IsFor, as_taken, shown}
use Rattle.tc_judge.specs.declared.account.Item.{Item}
use Rattle.tc_judge.specs.declared.account.Item.TheVariants.{Sent, Heard}
use Rattle.tc_judge.specs.declared.account.Rules.{Rules}
use Rattle.tc_judge.specs.declared.account.SentFrame.{SentFrame}
use Rattle.tc_judge.specs.declared.judge.Verdict.{Verdict}
use Rattle.tc_judge.specs.declared.judge.Verdict.TheVariants.{Possible, Impossible, Unknown}
use Rattle.tc_c_base.specs.declared.status.Status.TheVariants.{Done}
use Rattle.tc_c_judge.specs.declared.held.ReceiverJudge.{ReceiverJudge as ReceiverValue}
use Rattle.tc_c_judge.specs.declared.records.WordRecord.{WordRecord}
use Rattle.tc_c_judge.specs.Records.{no_word, word_found}
use Rattle.tc_c_judge.specs.declared.settings.JudgeSettings.{JudgeSettings}

-- a judge that was created with these settings and rules
pub record IsNew (s : JudgeSettings) (rules : Rules) (made : ReceiverValue) : Type 0 where
  pub allows : (items : List Item) → Allows made.judge items ↔ Explains rules [] (first_report s.first) items
  pub rules_kept : made.judge.rules ≡ rules
  pub room : (made.judge.way ≡ []) × (made.judge.most ≡ s.most) × (made.judge.overrun ≡ false)
  pub channel : (made.scid ≡ s.scid) × (made.vcid ≡ s.vcid)
  pub set : IsEmpty made.set

-- A frame was noted as sent. If there was no room for it, there was an overrun.
pub record IsAdded (old : Knowledge) (frame : SentFrame) (new : Knowledge) : Type 0 where
  pub allows : length old.way < old.most → (items : List Item) → Allows new items ↔ Allows old (Sent frame ∷ items)
  pub noted : length old.way < old.most → (length new.way ≡ length old.way + 1) × (new.overrun ≡ old.overrun)
  pub overrun : old.most ≤ length old.way → new ≡ record old { overrun = true }
  pub kept : (new.rules ≡ old.rules) × (new.most ≡ old.most)

-- The frame at the front of the octets was noted as sent, or there is no frame for the receiver. The flag `right` is set
-- if the frame has a right check sum, and `noted` if the frame was noted.
abbrev pub IsSentNoted : ReceiverValue → List ℕ → Bool → Knowledge → Bool → Type 0
IsSentNoted old octets right new true =
    (frame : List ℕ) × IsFor octets frame old.scid old.vcid × IsAdded old.judge (as_taken right frame) new
IsSentNoted old octets right new false = ((frame : List ℕ) → IsFor octets frame old.scid old.vcid → ⊥) × (new ≡ old.judge)

-- the word is a CLCW of COP-1 for this virtual channel
abbrev pub IsClcwOf : ℕ → ℕ → Type 0
IsClcwOf vcid word = IsClcw word × ((fields_of word).vcid ≡ vcid)

-- the components that a CLCW shows
abbrev pub shown_by : ℕ → Report
shown_by word = shown (fields_of word)

-- the number of each verdict, and the number for a word that is no CLCW of the receiver's virtual channel
abbrev pub verdict_number : Verdict → ℕ
verdict_number Possible = 1
verdict_number Impossible = 2
verdict_number Unknown = 3

abbrev pub no_item_number : ℕ
no_item_number = 4

-- the verdict on a CLCW that showed these components
pub record IsVerdict (old : Knowledge) (r : Report) (new : Knowledge) (verdict : Verdict) : Type 0 where
  pub unknown : (verdict ≡ Unknown) ↔ (old.overrun ≡ true)
  pub possible : verdict ≡ Possible → (items : List Item) → Allows new items ↔ Allows old (Heard r ∷ items)
  pub explained : verdict ≡ Possible → Allows new []
  pub impossible : verdict ≡ Impossible → (items : List Item) → Allows old (Heard r ∷ items) → ⊥
  pub unchanged : verdict ≢ Possible → new ≡ old
  pub kept : (new.rules ≡ old.rules) × (new.most ≡ old.most) × (new.overrun ≡ old.overrun)

-- The judge goes on from these components. Any number of the frames on their way, from the oldest on, may be gone.
pub record ContinuesFrom (old : Knowledge) (from : Report) (new : Knowledge) : Type 0 where
  pub allows : (items : List Item) → Allows new items ↔ ((n : ℕ) × Explains old.rules (drop n old.way) from items)
  pub kept : (new.rules ≡ old.rules) × (new.way ≡ old.way) × (new.most ≡ old.most) × (new.overrun ≡ old.overrun)

-- the judge begins anew with a receiver that has these components, and to which no frame is on its way
pub record Restarts (old : Knowledge) (first : Report) (new : Knowledge) : Type 0 where
  pub allows : (items : List Item) → Allows new items ↔ Explains old.rules [] first items
  pub rules_kept : new.rules ≡ old.rules
  pub room : (new.way ≡ []) × (new.most ≡ old.most) × (new.overrun ≡ false)

-- The judge goes on or begins anew from the components that a CLCW shows, if the word is a CLCW of the receiver's
-- virtual channel. Otherwise the judge stays as it was. The flag is set if the word is such a CLCW.
abbrev pub IsClcwTaken : (Knowledge → Report → Knowledge → Type 0) → ReceiverValue → ℕ → Knowledge → Bool → Type 0
IsClcwTaken Takes old word new true = IsClcwOf old.vcid word × Takes old.judge (shown_by word) new
IsClcwTaken Takes old word new false = (IsClcwOf old.vcid word → ⊥) × (new ≡ old.judge)

-- the CLCW that shows these components, in which the flags of the link are clear
abbrev pub clcw_showing : Report → ℕ → ℕ
clcw_showing r vcid = word_of r vcid (record { no_rf = false; no_bit_lock = false })

-- the components of a set are those that a CLCW that is heard next can show, and after an overrun there are none
pub record IsPossibleSet (old : Knowledge) (set : List Bool) : Type 0 where
  pub possible : old.overrun ≡ false → (r : Report) → Has set r ↔ Allows old (Heard r ∷ [])
  pub overrun : old.overrun ≡ true → IsEmpty set

-- the record has the CLCW of the components at this place, if the judge's set has them
abbrev pub IsWordAt : ReceiverValue → ℕ → WordRecord → Type 0
IsWordAt held place result =
    ((r : Report) × Has held.set r × (place_in_layer r ≡ place) × (result ≡ word_found (clcw_showing r held.vcid)))
    ⊎ (((r : Report) → Has held.set r → place_in_layer r ≡ place → ⊥) × (result ≡ no_word Done))
