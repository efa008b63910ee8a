-- A bound on the memory of a channel, without its journal: on the bytes that the channel has requested from its allocator
-- and not freed, on a machine with 64-bit addresses. `memory_bound` is the bound. `memory_waiting` is the memory that the
-- queues and all that waits take.
use Rattle.std.specs.Prelude.{ℕ, ◌+◌, ◌*◌, ◌^◌, Bool, List, length, nat_lt, sum_by, if◌then◌else◌}
use Rattle.tc_packet.specs.Reassembly.{largest_unit, stream_count}
use Rattle.tc_queues.specs.declared.settings.QueueSetting.{QueueSetting}
use Rattle.tc_queues.specs.declared.settings.MapSetting.{MapSetting}
use Rattle.tc_queues.specs.declared.settings.Settings.{Settings}
use Rattle.tc_queues.specs.ChannelState.{ChannelState, Queue, buffer, waiting}

-- the bytes that a room itself takes, besides its octets: the address and the capacity of its block, the number of
-- octets in it, and the largest number that it may hold
abbrev pub room_words : ℕ
room_words = 32

-- the bytes that a run itself takes, besides its octets: its room, whether the run is open, and the number of its
-- octets
abbrev pub run_words : ℕ
run_words = 40

-- the bytes that a queue itself takes, besides its rooms: its key, the ring of its rooms, the numbers of waiting and of
-- staged items, and the size of a room
abbrev pub queue_words : ℕ
queue_words = 64

-- The number of octets in the largest data field. A frame has at most 1,024 octets (CCSDS 232.0-B, 4.1.2.7), and five
-- of them are its primary header.
abbrev pub largest_field : ℕ
largest_field = 1019

-- the largest number of bytes in the block of a run, which doubles until it can hold the largest unit
abbrev pub run_room : ℕ
run_room = 2 ^ 17

-- The number of octets in the largest packet. With segment headers the largest packet is as long as the largest unit. On a
-- plain channel it is as long as the largest data field, because each unit is a data field.
abbrev pub largest_item : Bool → ℕ
largest_item segmented = if segmented then largest_unit else largest_field

-- the largest number of packets that the packet queues hold together
abbrev pub packets_stored : Settings → ℕ
packets_stored s = sum_by (λ (q : QueueSetting). q.capacity) s.queues

-- the largest number of units that the unit queues hold together
abbrev pub units_stored : Settings → ℕ
units_stored s = sum_by (λ (m : MapSetting). m.capacity) s.maps

-- the bytes of the buffer's rooms, if each holds the largest data field
abbrev pub buffer_memory : Settings → ℕ
buffer_memory s = s.buffer * (room_words + largest_field)

-- the bytes of a run with the largest block for each MAP of each service, or 0 on a plain channel
abbrev pub runs_memory : Settings → ℕ
runs_memory s = if s.segmented then stream_count * (run_words + run_room) else 0

-- the bytes of the packet queues, full of the largest packets, and of the unit queues, full of the largest units
abbrev pub queues_memory : Settings → ℕ
queues_memory s = (length s.queues + length s.maps) * queue_words + packets_stored s * (room_words + largest_item s.segmented) + units_stored s * (room_words + largest_unit)

-- The bytes of a table of the places of 2,048 keys. There is no table for fewer than 8 queues.
abbrev pub table_memory : ℕ → ℕ
table_memory queues = if nat_lt queues 8 then 0 else 2048 * 2

-- the bytes of the tables of the packet queues and of the unit queues
abbrev pub tables_memory : Settings → ℕ
tables_memory s = table_memory (length s.queues) + table_memory (length s.maps)

-- A bound on the bytes in the new block of a run while the old block is still held. A first segment that is too long for
-- the old block is copied into a new block, and then the old block is freed.
abbrev pub segment_memory : Settings → ℕ
segment_memory s = if s.segmented then largest_field else 0

-- a bound on the bytes that a channel of these settings holds at any moment, without its journal
unfoldable pub memory_bound : Settings → ℕ
memory_bound s = buffer_memory s + runs_memory s + queues_memory s + tables_memory s + segment_memory s

-- the number of items that wait in the queues together
abbrev pub waiting_in_all : List Queue → ℕ
waiting_in_all queues = sum_by (λ (q : Queue). length (waiting q)) queues

-- the number of octets that items have together
abbrev pub octets_in : List (List ℕ) → ℕ
octets_in items = sum_by (λ (i : List ℕ). length i) items

-- the number of octets that wait in the queues together
abbrev pub octets_waiting : List Queue → ℕ
octets_waiting queues = sum_by (λ (q : Queue). octets_in (waiting q)) queues

-- the bytes that the queues and all that waits take: the words of each queue, the octets of each waiting item and the
-- words of its room, and the octets of each data field in the buffer
abbrev pub memory_waiting : Settings → ChannelState → ℕ
memory_waiting s state =
    (length s.queues + length s.maps) * queue_words + (waiting_in_all state.queues * room_words + octets_waiting state.queues)
    + (waiting_in_all state.units * room_words + octets_waiting state.units) + octets_in (buffer state)
