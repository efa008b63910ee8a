-- The effect of a script's lines on the set-up, and the reasons why a line is bad.
use Rattle.std.specs.Prelude.{◌≡◌, ◌≢◌, ℕ, List, [], ◌⊎◌}
use Rattle.tc_queues.specs.declared.settings.Settings.{Settings}
use Rattle.tc_queues.specs.declared.settings.SettingsFault.{SettingsFault}
use Rattle.tc_queues.specs.Settings.{IsFault}
use Rattle.tc_rack.specs.Configuration.{HasSettings, IsAt, AddsChannel, AddsToChannel, with_addition}
use Rattle.tc_text.specs.declared.fault.Reason.{Reason}
use Rattle.tc_text.specs.declared.fault.Reason.TheVariants.{TooLate, NoChannel, DoubleChannel, UnknownChannel}
use Rattle.tc_text.specs.Reason.{reason_of}
use Rattle.tc_rack.specs.declared.instruction.Addition.{Addition}
use Rattle.tc_rack.specs.declared.instruction.Instruction.{Instruction}
use Rattle.tc_rack.specs.declared.instruction.Instruction.TheVariants.{Nothing, Channel, Add, Frame, Release, Take, Unit as TakeUnit, Clcw}

-- The phase of a script: the set-up, with the settings of the channels so far, or the operation, in which nothing more
-- is set up.
pub data Phase : Type 0 where
  Setup : List Settings → Phase
  Operation : Phase

-- an operation needs a channel, and ends the set-up
abbrev pub Operates : Phase → Phase → Type 0
Operates phase new = (phase ≢ Setup []) × (new ≡ Operation)

-- this is the instruction of a good line, and leads from the first phase to the second
abbrev pub Does : Phase → Instruction → Phase → Type 0
Does phase Nothing new = new ≡ phase
Does phase (Channel settings) new =
    (old : List Settings) × (list : List Settings) × (phase ≡ Setup old) × AddsChannel old settings list × (new ≡ Setup list)
Does phase (Add vcid addition) new =
    (old : List Settings) × (list : List Settings) × (phase ≡ Setup old) × AddsToChannel old vcid addition list × (new ≡ Setup list)
Does phase (Frame octets) new = Operates phase new
Does phase (Release vcid) new = Operates phase new
Does phase (Take vcid apid) new = Operates phase new
Does phase (TakeUnit vcid map_id) new = Operates phase new
Does phase (Clcw vcid) new = Operates phase new

-- this is the reason why no channel can have the settings, which is their first fault
abbrev pub IsSettingsReason : Settings → Reason → Type 0
IsSettingsReason s reason = (fault : SettingsFault) × (reason ≡ reason_of fault) × IsFault s fault

-- this is the reason why a channel can't be set up in addition to these channels
abbrev pub IsChannelRefused : List Settings → Settings → Reason → Type 0
IsChannelRefused list s reason =
    (HasSettings list s.vcid × (reason ≡ DoubleChannel)) ⊎ (¬ HasSettings list s.vcid × IsSettingsReason s reason)

-- this is the reason why the queue or chosen MAP can't be added to the channel with this id
abbrev pub IsAdditionRefused : List Settings → ℕ → Addition → Reason → Type 0
IsAdditionRefused list vcid addition reason =
    (¬ HasSettings list vcid × (reason ≡ UnknownChannel))
    ⊎ ((place : ℕ) × (s : Settings) × IsAt list vcid place s × IsSettingsReason (with_addition s addition) reason)

abbrev pub IsBadChannel : Phase → Settings → Reason → Type 0
IsBadChannel Operation s reason = reason ≡ TooLate
IsBadChannel (Setup list) s reason = IsChannelRefused list s reason

abbrev pub IsBadAddition : Phase → ℕ → Addition → Reason → Type 0
IsBadAddition Operation vcid addition reason = reason ≡ TooLate
IsBadAddition (Setup list) vcid addition reason = IsAdditionRefused list vcid addition reason

abbrev pub IsBadOperation : Phase → Reason → Type 0
IsBadOperation phase reason = (phase ≡ Setup []) × (reason ≡ NoChannel)

-- this is the reason, other than lack of memory, why the line of an instruction is bad
abbrev pub IsBad : Phase → Instruction → Reason → Type 0
IsBad phase Nothing reason = ⊥
IsBad phase (Channel settings) reason = IsBadChannel phase settings reason
IsBad phase (Add vcid addition) reason = IsBadAddition phase vcid addition reason
IsBad phase (Frame octets) reason = IsBadOperation phase reason
IsBad phase (Release vcid) reason = IsBadOperation phase reason
IsBad phase (Take vcid apid) reason = IsBadOperation phase reason
IsBad phase (TakeUnit vcid map_id) reason = IsBadOperation phase reason
IsBad phase (Clcw vcid) reason = IsBadOperation phase reason
