-- The steps that are counted: one for each queue that is looked at, and one for each packet that is cut from a unit.
use Rattle.std.specs.Prelude.{ℕ, ◌+◌, ◌*◌, List, [], ◌∷◌, length, nat_lt, Option, Some, None, if◌then◌else◌}
use Rattle.tc_packet.specs.SpacePacket.{packets_of}
use Rattle.tc_queues.specs.StoredQueues.{apid_count}
use Rattle.tc_queues.specs.Keyed.{Keyed}

-- the largest number of queues that are looked at to find one: 1 with a table, and otherwise all of them
abbrev pub looks : List Keyed → List ℕ → ℕ
looks queues [] = length queues
looks queues (n ∷ table) = 1

-- The largest number of queues that are looked at to find one among `count` queues. There is a table if there are 8 to
-- 65,535 queues.
abbrev pub most_looks : ℕ → ℕ
most_looks count = if nat_lt count 8 then count else if nat_lt 65535 count then count else 1

-- The largest number of queues that are looked at to find the queue with a key, among `count` queues. A table has only
-- the keys that an APID can be.
abbrev pub looks_for : ℕ → ℕ → ℕ
looks_for key count = if nat_lt key apid_count then most_looks count else count

-- the steps of a pass over packets: each one is cut, and its queue is found
abbrev pub pass_steps : ℕ → ℕ → ℕ
pass_steps packets looks_for_one = packets * (looks_for_one + 1)

-- The largest number of steps for a unit. The queue of its MAP is looked for. Then the packets are staged in their
-- queues. At last either the queue of each packet is committed, or each queue is.
abbrev pub unit_steps : ℕ → ℕ → ℕ → ℕ
unit_steps packets looks_for_one looks_for_map = looks_for_map + (pass_steps packets looks_for_one + (pass_steps packets looks_for_one + looks_for_one))

-- the largest number of steps for a unit of `packets` packets, given the numbers of packet queues and of unit queues
abbrev pub packet_steps : ℕ → ℕ → ℕ → ℕ
packet_steps packets queues units = unit_steps packets (most_looks queues) (most_looks units)

-- the largest number of steps for a delivery, which is 0 if there is no unit
abbrev pub delivery_steps : Option (List ℕ) → ℕ → ℕ → ℕ
delivery_steps None queues units = 0
delivery_steps (Some unit) queues units = packet_steps (length (packets_of unit)) queues units

-- the largest number of packets in a unit, which is reached if each has the least size, seven octets (CCSDS 133.0-B,
-- 4.1.2.1)
abbrev pub most_packets : ℕ
most_packets = 9363

-- The largest number of steps for a take from one of `count` queues. The queue is searched for at most twice.
abbrev pub take_steps : ℕ → ℕ → ℕ
take_steps key count = 2 * looks_for key count
