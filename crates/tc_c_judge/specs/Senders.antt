-- The results of the calls on a judge of a sender.
use Rattle.std.specs.Prelude.{◌≡◌, ◌≢◌, ◌↔◌, ℕ, Bool, List, [], ◌∷◌}
use Rattle.tc_sender.specs.Account.{Seen, Arrived, SenderAllows, SenderExplains, SenderKnowledge}
use Rattle.tc_sender.specs.declared.judge.SenderVerdict.{SenderVerdict}
use Rattle.tc_sender.specs.declared.judge.SenderVerdict.TheVariants.{Explained, Breach, Contradictory}

-- A Type-AD frame with this number arrived, which was accepted if the flag is set. The judge doesn't look at data
-- fields, so the frame is noted with an empty one.
abbrev pub arrived : ℕ → Bool → Seen
arrived number accepted = Arrived number accepted []

-- a judge that was created with this window and this V(R)
pub record IsNewSender (window vr : ℕ) (made : SenderKnowledge) : Type 0 where
  pub allows : (items : List Seen) → SenderAllows made items ↔ SenderExplains window vr [] vr items
  pub width : made.window ≡ window

-- the number of each verdict
abbrev pub sender_verdict_number : SenderVerdict → ℕ
sender_verdict_number Explained = 1
sender_verdict_number Breach = 2
sender_verdict_number Contradictory = 3

-- the verdict on an item of an account of the receiving end
pub record IsSenderVerdict (old : SenderKnowledge) (item : Seen) (new : SenderKnowledge) (verdict : SenderVerdict) : Type 0 where
  pub explained : verdict ≡ Explained → (items : List Seen) → SenderAllows new items ↔ SenderAllows old (item ∷ items)
  pub unexplained : verdict ≢ Explained → (items : List Seen) → SenderAllows old (item ∷ items) → ⊥
  pub unchanged : verdict ≢ Explained → new ≡ old
  pub kept : new.window ≡ old.window

-- the item was noted
pub record Follows (old : SenderKnowledge) (item : Seen) (new : SenderKnowledge) : Type 0 where
  pub allows : (items : List Seen) → SenderAllows new items ↔ SenderAllows old (item ∷ items)
  pub kept : new.window ≡ old.window
