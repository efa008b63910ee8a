-- The progress of a script, which its lines alone determine. Its channels are set up first, and then each of them has
-- the journal of the operations so far.
use Rattle.std.specs.Prelude.{◌≡◌, ℕ, List}
use Rattle.tc_queues.specs.declared.settings.Settings.{Settings}
use Rattle.tc_rack.specs.Operation.{IsAnswerOf}
use Rattle.tc_rack.specs.Performing.{IsOperated}
use Rattle.tc_rack.specs.Rack.{Racked, new_rack}
use Rattle.tc_rack.specs.declared.answer.Answer.{Answer}
use Rattle.tc_rack.specs.declared.operation.Operation.{Operation}
use Rattle.tc_rack.specs.declared.stage.Stage.{Stage}
use Rattle.tc_rack.specs.declared.stage.Stage.TheVariants.{SettingUp, Operating}

abbrev pub Progress : Type 0
Progress = Stage Racked

-- the channels that an operation finds, which are new if no operation came before
abbrev pub rack_for : ℕ → Progress → Racked
rack_for scid (SettingUp list) = new_rack scid list
rack_for scid (Operating rack) = rack

-- these are new channels with these settings
abbrev pub IsNewRack : ℕ → List Settings → Racked → Type 0
IsNewRack scid list rack = rack ≡ new_rack scid list

-- An operation of a script is answered by the channels that it finds. The answer is the reply of the channel that the
-- operation names, after the journal of the earlier operations.
abbrev pub IsPerformed : ℕ → Operation → Progress → Answer → Progress → Type 0
IsPerformed scid operation old answer new = IsOperated (IsNewRack scid) IsAnswerOf operation old answer new
