-- The number of bytes that are requested from an allocator when a channel with fixed memory is created, in a program
-- for a 64-bit machine.
use Rattle.std.specs.Prelude.{ℕ, zero, suc, ◌+◌, ◌*◌, length, if◌then◌else◌}
use Rattle.tc_packet.specs.Reassembly.{stream_count}
use Rattle.tc_queues.specs.declared.settings.Settings.{Settings}
use Rattle.tc_queues.specs.Memory.{room_words, run_words, queue_words, buffer_memory, tables_memory, packets_stored, units_stored}
use Rattle.tc_fixed.specs.Limits.{item_size, limit_of, none}
use Rattle.tc_fixed.specs.declared.limits.Limits.{Limits}

-- the sum of the limits of the first `count` MAPs
abbrev pub limits_below : Limits → ℕ → ℕ
limits_below limits zero = 0
limits_below limits (suc count) = limits_below limits count + limit_of limits count

-- The bytes of the rooms of all 128 streams, each for the largest unit of its MAP. A plain channel has no such rooms.
abbrev pub runs_storage : Settings → Limits → ℕ
runs_storage s limits = if s.segmented then stream_count * run_words + 2 * limits_below limits 64 else 0

-- the bytes of the queues, with a room of `item` octets for each packet and each unit
abbrev pub queues_in_rooms : Settings → ℕ → ℕ
queues_in_rooms s item = (length s.queues + length s.maps) * queue_words + (packets_stored s + units_stored s) * (room_words + item)

abbrev pub queues_storage : Settings → Limits → ℕ
queues_storage s limits = queues_in_rooms s (item_size limits s.segmented)

-- all memory that is requested when a channel with these settings and limits is created
unfoldable pub storage_within : Settings → Limits → ℕ
storage_within s limits = buffer_memory s + runs_storage s limits + queues_storage s limits + tables_memory s

-- the memory for a channel without limits by MAP
abbrev pub storage_of : Settings → ℕ
storage_of s = storage_within s none
