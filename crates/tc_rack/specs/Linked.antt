-- A channel with the flags of its link, its answers to operations, and the state after each of them.
use Rattle.std.specs.Prelude.{◌≡◌, ◌≢◌, ◌⊎◌, ℕ, List, [], Some, None, false}
use Rattle.tc_link.specs.declared.clcw.Link.{Link}
use Rattle.tc_queues.specs.declared.settings.Settings.{Settings}
use Rattle.tc_channel.specs.declared.event.Event.{Event}
use Rattle.tc_channel.specs.declared.event.Event.TheVariants as events
use Rattle.tc_channel.specs.Journal.{History, with_event}
use Rattle.tc_channel.specs.Reply.{frame_reply, release_reply, take_reply, unit_reply, waiting_packets, waiting_units, buffered_fields, clcw}
use Rattle.tc_rack.specs.declared.answer.Answer.{Answer}
use Rattle.tc_rack.specs.declared.answer.Answer.TheVariants as answers
use Rattle.tc_rack.specs.declared.answer.Refusal.TheVariants.{NoQueue, NoMap, Empty}

pub record Linked : Type 0 where
  pub history : History
  pub link : Link

-- a link with neither flag set
abbrev pub no_flag : Link
no_flag = record { no_rf = false; no_bit_lock = false }

abbrev pub vcid_of : Linked → ℕ
vcid_of channel = channel.history.settings.vcid

-- a new channel, with no flag of its link set
abbrev pub new_linked : Settings → Linked
new_linked s = record {
  history = record { settings = s; journal = [] };
  link = no_flag;
}

-- the channel after one more event
abbrev pub later : Event → Linked → Linked
later event channel = record channel { history = with_event channel.history event }

-- the frame gets this answer, and is the next event of the channel
abbrev pub IsFrameAnswered : List ℕ → Linked → Answer → Linked → Type 0
IsFrameAnswered frame old answer new =
    (answer ≡ answers.Frame (vcid_of old) (frame_reply old.history.settings old.history.journal frame)) × (new ≡ later (events.Frame frame) old)

-- a release is answered, or refused because the buffer is empty
abbrev pub IsReleaseAnswered : Linked → Answer → Linked → Type 0
IsReleaseAnswered old answer new =
    ((buffered_fields old.history.settings old.history.journal ≢ [])
    × (answer ≡ answers.Release (vcid_of old) (release_reply old.history.settings old.history.journal))
    × (new ≡ later events.Release old))
    ⊎ ((buffered_fields old.history.settings old.history.journal ≡ []) × (answer ≡ answers.Refused Empty) × (new ≡ old))

-- the oldest packet is taken
abbrev pub IsPacketTaken : ℕ → Linked → Answer → Linked → Type 0
IsPacketTaken apid old answer new =
    (packet : List ℕ) × (take_reply old.history.settings old.history.journal apid ≡ Some packet)
    × (answer ≡ answers.Take (vcid_of old) apid packet) × (new ≡ later (events.Take apid) old)

-- there is no packet to take, because the APID has no queue, or because its queue is empty
abbrev pub IsPacketRefused : ℕ → Linked → Answer → Type 0
IsPacketRefused apid old answer =
    ((waiting_packets old.history.settings old.history.journal apid ≡ None) × (answer ≡ answers.Refused NoQueue))
    ⊎ ((waiting_packets old.history.settings old.history.journal apid ≡ Some []) × (answer ≡ answers.Refused Empty))

-- the oldest packet is taken, or the take is refused
abbrev pub IsTakeAnswered : ℕ → Linked → Answer → Linked → Type 0
IsTakeAnswered apid old answer new =
    IsPacketTaken apid old answer new ⊎ (IsPacketRefused apid old answer × (new ≡ old))

-- the oldest unit is taken
abbrev pub IsUnitTaken : ℕ → Linked → Answer → Linked → Type 0
IsUnitTaken map_id old answer new =
    (unit : List ℕ) × (unit_reply old.history.settings old.history.journal map_id ≡ Some unit)
    × (answer ≡ answers.Unit (vcid_of old) map_id unit) × (new ≡ later (events.TakeUnit map_id) old)

-- there is no unit to take, because the MAP isn't chosen, or because its queue is empty
abbrev pub IsUnitRefused : ℕ → Linked → Answer → Type 0
IsUnitRefused map_id old answer =
    ((waiting_units old.history.settings old.history.journal map_id ≡ None) × (answer ≡ answers.Refused NoMap))
    ⊎ ((waiting_units old.history.settings old.history.journal map_id ≡ Some []) × (answer ≡ answers.Refused Empty))

-- the oldest unit is taken, or the take is refused
abbrev pub IsUnitAnswered : ℕ → Linked → Answer → Linked → Type 0
IsUnitAnswered map_id old answer new =
    IsUnitTaken map_id old answer new ⊎ (IsUnitRefused map_id old answer × (new ≡ old))

-- the answer with the CLCW, which shows the flags of the link
abbrev pub reported_word : Linked → Answer
reported_word channel = answers.Clcw (vcid_of channel) (clcw channel.history.settings channel.history.journal channel.link)
