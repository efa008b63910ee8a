-- The texts of answers to lines, which docs/reference/tclive.md shows under "Input" and "Output".
use Rattle.std.specs.Prelude.{ℕ, List, [], ◌++◌, codes, decimal}
use Rattle.std.specs.List.{flat_map}
use Rattle.tc_link.specs.declared.clcw.Link.{Link}
use Rattle.tc_link.specs.declared.State.{State}
use Rattle.tc_link.specs.declared.State.TheVariants.{S1, S2, S3}
use Rattle.tc_text.specs.Printed.{flag_text, reason_text}
use Rattle.tc_text.specs.declared.fault.Reason.{Reason}
use Rattle.tc_channel.specs.declared.holding.Holding.{Holding}
use Rattle.tc_channel.specs.declared.holding.QueueHolding.{QueueHolding}
use Rattle.tc_channel.specs.declared.holding.MapHolding.{MapHolding}
use Rattle.tc_rack.specs.Printed.{answer_text}
use Rattle.tc_live.specs.Hint.{bad_word_text, line_hint_text}
use Rattle.tc_live.specs.declared.answer.LiveAnswer.{LiveAnswer}
use Rattle.tc_live.specs.declared.serving.ServingFault.{ServingFault}
use Rattle.tc_live.specs.declared.serving.ServingFault.TheVariants as faults
use Rattle.tc_live.specs.declared.answer.LiveAnswer.TheVariants.{Nothing, Operation, Delivery, Collection, Unchecked, More, Link as LinkOf, Report, UnknownChannel}

abbrev pub state_text : State → List ℕ
state_text S1 = codes "open"
state_text S2 = codes "wait"
state_text S3 = codes "lockout"

-- the text of the flags of a channel's link
abbrev pub link_text : ℕ → Link → List ℕ
link_text vcid link =
    codes "link " ++ decimal vcid ++ codes " " ++ flag_text link.no_rf ++ codes " " ++ flag_text link.no_bit_lock ++ codes "\n"

-- the beginning of the text of a report: FARM-1's state, V(R), and the flags Lockout and Wait
unfoldable pub farm_text : ℕ → Holding → List ℕ
farm_text vcid holding =
    codes "report " ++ decimal vcid ++ codes " state " ++ state_text holding.report.state ++ codes " vr " ++ decimal holding.report.vr
    ++ codes " lockout " ++ flag_text holding.report.lockout ++ codes " wait " ++ flag_text holding.report.wait

-- the next part of the text of a report: the flag Retransmit, the FARM-B counter, and the number of data fields that
-- wait in the buffer
unfoldable pub rest_text : Holding → List ℕ
rest_text holding =
    codes " retransmit " ++ flag_text holding.report.retransmit ++ codes " farm-b " ++ decimal holding.report.farm_b
    ++ codes " buffered " ++ decimal holding.buffered

abbrev pub queue_text : QueueHolding → List ℕ
queue_text queue = codes " queue " ++ decimal queue.apid ++ codes " " ++ decimal queue.packets

-- the text of the packet queues in a report, one after the other
abbrev pub queues_text : List QueueHolding → List ℕ
queues_text queues = flat_map queue_text queues

abbrev pub map_text : MapHolding → List ℕ
map_text chosen = codes " map " ++ decimal chosen.map ++ codes " " ++ decimal chosen.units

-- the text of the unit queues of the chosen MAPs in a report, one after the other
abbrev pub maps_text : List MapHolding → List ℕ
maps_text maps = flat_map map_text maps

-- the text of the report on a channel
unfoldable pub holding_text : ℕ → Holding → List ℕ
holding_text vcid holding =
    farm_text vcid holding ++ rest_text holding ++ queues_text holding.queues ++ maps_text holding.maps ++ codes "\n"

-- the text of an answer to a line
abbrev pub live_text : LiveAnswer → List ℕ
live_text Nothing = []
live_text (Operation answer) = answer_text answer ++ codes "\n"
live_text (Delivery vcid answer) = answer_text answer ++ codes "\n"
live_text (Collection vcid) = []
live_text Unchecked = codes "refused check\n"
live_text More = codes "refused more\n"
live_text (LinkOf vcid link) = link_text vcid link
live_text (Report vcid holding) = holding_text vcid holding
live_text UnknownChannel = codes "refused channel\n"

-- the answer to a bad line of these words: the reason, and a hint on how to mend the line
abbrev pub bad_line_text : List (List ℕ) → Reason → List ℕ
bad_line_text line reason = bad_word_text reason ++ reason_text reason ++ line_hint_text line reason ++ codes "\n"

-- the text of a fault after which lines are no longer answered
abbrev pub serving_fault_text : ServingFault → List ℕ
serving_fault_text faults.Read = codes "cannot read"
serving_fault_text faults.Write = codes "cannot write"
serving_fault_text faults.NoMemory = codes "no memory"
serving_fault_text faults.Unbalanced = codes "unbalanced"
