-- The number of bytes that are requested from an allocator when a judge is created, in a program for a 64-bit machine.
use Rattle.std.specs.Prelude.{ℕ, ◌+◌, ◌*◌, nat_lt, if◌then◌else◌}

-- the bytes of the block that holds a judge of either kind
abbrev pub block_storage : ℕ
block_storage = 192

-- the bytes of a list of marks with room for one more than `most`
abbrev pub marks_room : ℕ → ℕ
marks_room most = if nat_lt most 8 then 8 else if nat_lt most 15 then 16 else most + 1

-- The bytes for a judge of a receiver with room for `most` frames on their way. These are the judge's block, the set of
-- possible CLCWs, two layers, the frames of 4 bytes each, and two lists of marks.
abbrev pub judge_storage : ℕ → ℕ
judge_storage most = block_storage + 3 * 8192 + 4 * most + 2 * marks_room most

-- the bytes for a judge of a sender with a window of `window` frames: the judge's block and the numbers
abbrev pub sender_storage : ℕ → ℕ
sender_storage window = block_storage + window + 1
