-- The end of a delivery. Once its release is answered, all items that wait in the queues of a channel are handed on,
-- and then the CLCW is reported.
use Rattle.std.specs.Prelude.{◌≡◌, ◌⊎◌, ℕ, List, [], ◌∷◌, ◌++◌, map, codes, Option, Some, None}
use Rattle.std.specs.List.{flat_map, AllByRecursion}
use Rattle.std.specs.Io.KnownBytes.{Appends}
use Rattle.tc_queues.specs.declared.settings.Settings.{Settings}
use Rattle.tc_queues.specs.declared.settings.QueueSetting.{QueueSetting}
use Rattle.tc_queues.specs.declared.settings.MapSetting.{MapSetting}
use Rattle.tc_channel.specs.Reply.{waiting_packets, waiting_units}
use Rattle.tc_rack.specs.declared.answer.Answer.{Answer}
use Rattle.tc_rack.specs.declared.queue.QueueId.{QueueId}
use Rattle.tc_rack.specs.declared.queue.QueueId.TheVariants.{Packets, Units}
use Rattle.tc_rack.specs.Linked.{Linked, IsPacketTaken, IsUnitTaken, reported_word}
use Rattle.tc_rack.specs.Printed.{answer_text}
use Rattle.tc_rack.specs.Rack.{Racked, HasChannel, Changes}

-- the packet queues of a channel, in the order of the settings
abbrev pub packet_queues : Settings → List QueueId
packet_queues s = map (λ (queue : QueueSetting). Packets queue.apid) s.queues

-- the unit queues of the chosen MAPs of a channel, in the order of the settings
abbrev pub unit_queues : Settings → List QueueId
unit_queues s = map (λ (chosen : MapSetting). Units chosen.map) s.maps

-- all queues of a channel: the packet queues, and then the unit queues
abbrev pub queues_of : Settings → List QueueId
queues_of s = packet_queues s ++ unit_queues s

abbrev pub none_or : Option (List (List ℕ)) → List (List ℕ)
none_or None = []
none_or (Some items) = items

-- The items that wait in a queue, the oldest first. The list is empty if there is no such queue.
abbrev pub waiting_in : QueueId → Linked → List (List ℕ)
waiting_in (Packets apid) channel = none_or (waiting_packets channel.history.settings channel.history.journal apid)
waiting_in (Units map_id) channel = none_or (waiting_units channel.history.settings channel.history.journal map_id)

-- the oldest item of the queue is taken, and this is the answer to the take
abbrev pub IsTakenFrom : QueueId → Linked → Answer → Linked → Type 0
IsTakenFrom (Packets apid) old answer new = IsPacketTaken apid old answer new
IsTakenFrom (Units map_id) old answer new = IsUnitTaken map_id old answer new

-- items are taken one after the other, with these answers
abbrev pub AreTakenFrom : QueueId → Linked → List Answer → Linked → Type 0
AreTakenFrom queue old [] new = new ≡ old
AreTakenFrom queue old (answer ∷ answers) new =
    (between : Linked) × IsTakenFrom queue old answer between × AreTakenFrom queue between answers new

-- queues are emptied, one after the other, with these answers to the takes
abbrev pub AreEmptied : List QueueId → Linked → List Answer → Linked → Type 0
AreEmptied [] old answers new = (answers ≡ []) × (new ≡ old)
AreEmptied (queue ∷ queues) old answers new =
    (between : Linked) × (first : List Answer) × (rest : List Answer) × AreTakenFrom queue old first between × (waiting_in queue between ≡ [])
    × AreEmptied queues between rest new × (answers ≡ first ++ rest)

-- no item waits in any of these queues
abbrev pub AreEmpty : List QueueId → Linked → Type 0
AreEmpty queues channel = AllByRecursion (λ queue. waiting_in queue channel ≡ []) queues

-- each queue of a channel is emptied in turn, then no queue has an item, and at last the CLCW is reported
abbrev pub IsHandedOn : Linked → List Answer → Linked → Type 0
IsHandedOn old answers new =
    (taken : List Answer) × AreEmptied (queues_of old.history.settings) old taken new × AreEmpty (queues_of old.history.settings) new
    × (answers ≡ taken ++ reported_word new ∷ [])

-- either the channel with this id hands on the items that wait in it, or there is no such channel and nothing is
-- reported
abbrev pub IsDeliveryEnded : ℕ → Racked → List Answer → Racked → Type 0
IsDeliveryEnded vcid old answers new =
    Changes old vcid (λ before after. IsHandedOn before answers after) new ⊎ (¬ HasChannel old.channels vcid × (answers ≡ []) × (new ≡ old))

-- the line of an answer, and the lines of answers, each with a line feed
abbrev pub reported_line : Answer → List ℕ
reported_line answer = answer_text answer ++ codes "\n"

abbrev pub reported_lines : List Answer → List ℕ
reported_lines answers = flat_map reported_line answers

-- answers with this property were written
abbrev pub AreAnswersWritten : Option (List ℕ) → Option (List ℕ) → (List Answer → Type 0) → Type 0
AreAnswersWritten before after Are = (answers : List Answer) × Are answers × Appends before after (reported_lines answers)
