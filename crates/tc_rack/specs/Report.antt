-- The final report of channels. It is shown in docs/reference/scripts.md, under "The final report".
use Rattle.std.specs.Prelude.{◌≡◌, ℕ, List, ◌++◌, Option, Some, None, All, codes, decimal, length}
use Rattle.std.specs.List.{flat_map}
use Rattle.std.specs.List.Sorted.{IsNonDecreasingBy}
use Rattle.tc_channel.specs.Journal.{History, IsNumberReported}
use Rattle.tc_channel.specs.Reply.{buffered_fields, clcw, waiting_packets, waiting_units}
use Rattle.tc_channel.specs.Run.{IsLawful}
use Rattle.tc_queues.specs.Settings.{IsAllowed}
use Rattle.tc_queues.specs.declared.settings.QueueSetting.{QueueSetting}
use Rattle.tc_queues.specs.declared.settings.MapSetting.{MapSetting}
use Rattle.tc_text.specs.Printed.{word_text}
use Rattle.tc_rack.specs.Linked.{no_flag}

abbrev pub vcid_of : History → ℕ
vcid_of channel = channel.settings.vcid

-- the ids of the channels don't fall from one channel to the next
abbrev pub AreNonDecreasing : List History → Type 0
AreNonDecreasing channels = IsNonDecreasingBy vcid_of channels

-- the settings of the channel are allowed, and its journal is lawful for them
abbrev pub IsLawfulHistory : History → Type 0
IsLawfulHistory channel = IsAllowed channel.settings × IsLawful channel.settings channel.journal

-- The line that reports the number of items in a queue, `WORD VC ID N`. The text is empty if there is no such queue.
abbrev pub waiting_line : List ℕ → ℕ → ℕ → Option (List (List ℕ)) → List ℕ
waiting_line word vcid id None = codes ""
waiting_line word vcid id (Some waiting) =
    word ++ codes " " ++ decimal vcid ++ codes " " ++ decimal id ++ codes " " ++ decimal (length waiting) ++ codes "\n"

-- the line that reports the number of packets in a queue
abbrev pub queue_line : History → QueueSetting → List ℕ
queue_line channel queue =
    waiting_line (codes "queue") channel.settings.vcid queue.apid (waiting_packets channel.settings channel.journal queue.apid)

-- the line that reports the number of units in the queue of a chosen MAP
abbrev pub map_line : History → MapSetting → List ℕ
map_line channel chosen =
    waiting_line (codes "map") channel.settings.vcid chosen.map (waiting_units channel.settings channel.journal chosen.map)

-- the line that reports the state of a channel: its CLCW with both link flags 0, the number of its events, and the
-- number of data fields in its buffer
abbrev pub final_line : History → List ℕ
final_line channel =
    codes "final " ++ decimal channel.settings.vcid ++ codes " " ++ word_text (clcw channel.settings channel.journal no_flag)
    ++ codes " events " ++ decimal (length channel.journal)
    ++ codes " buffered " ++ decimal (length (buffered_fields channel.settings channel.journal)) ++ codes "\n"

-- the lines of a channel, with its queues and its chosen MAPs in the order in which they were set up
abbrev pub channel_text : History → List ℕ
channel_text channel =
    final_line channel ++ flat_map (queue_line channel) channel.settings.queues ++ flat_map (map_line channel) channel.settings.maps

-- the lines of each channel, one channel after the other
abbrev pub report_text : List History → List ℕ
report_text channels = flat_map channel_text channels

-- The text is the report of these channels, whose ids don't fall. Each channel has allowed settings and a lawful
-- journal, with fewer events than 2^64 - 1.
pub record IsReportOf (channels : List History) (text : List ℕ) : Type 0 where
  pub ordered : AreNonDecreasing channels
  pub reported : All IsNumberReported channels
  pub lawful : All IsLawfulHistory channels
  pub written : text ≡ report_text channels
