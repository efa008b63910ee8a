-- The state of a channel after a journal: FARM-1's components, and the number of items that wait in its buffer and its
-- queues.
use Rattle.std.specs.Prelude.{List, Option, length, option_map}
use Rattle.std.specs.List.{filter_map}
use Rattle.tc_queues.specs.declared.settings.Settings.{Settings}
use Rattle.tc_queues.specs.declared.settings.QueueSetting.{QueueSetting}
use Rattle.tc_queues.specs.declared.settings.MapSetting.{MapSetting}
use Rattle.tc_channel.specs.declared.event.Event.{Event}
use Rattle.tc_channel.specs.declared.holding.Holding.{Holding}
use Rattle.tc_channel.specs.declared.holding.QueueHolding.{QueueHolding}
use Rattle.tc_channel.specs.declared.holding.MapHolding.{MapHolding}
use Rattle.tc_channel.specs.Run.{run}
use Rattle.tc_channel.specs.Reply.{buffered_fields, waiting_packets, waiting_units}

-- the APID of a queue and the number of packets that wait in it, or `None` if the channel has no queue for that APID
abbrev pub queue_holding : Settings → List Event → QueueSetting → Option QueueHolding
queue_holding s journal queue = option_map (λ packets. record { apid = queue.apid; packets = length packets }) (waiting_packets s journal queue.apid)

-- a MAP and the number of units that wait in its queue, or `None` if the channel has no queue for that MAP
abbrev pub map_holding : Settings → List Event → MapSetting → Option MapHolding
map_holding s journal chosen = option_map (λ units. record { map = chosen.map; units = length units }) (waiting_units s journal chosen.map)

abbrev pub holding_of : Settings → List Event → Holding
holding_of s journal = record {
  report = (run s journal).report;
  buffered = length (buffered_fields s journal);
  queues = filter_map (queue_holding s journal) s.queues;
  maps = filter_map (map_holding s journal) s.maps;
}
