use Rattle.std.proofs.Common.{◌≡◌, ℕ, ◌-◌, ◌/◌, length, drop, bit_and, slice_index_or, arith}
use Rattle.std.proofs.lemmas.Grind.{common_steps}
use Rattle.tc_link.specs.Bits.{word_at, bits}
use Rattle.tc_edges.proofs.TmLemmas.Frames.{same-fields}
use Rattle.tc_edges.proofs.tm.reading.read_fields.Goals as goal

pub returns : goal.returns
returns c =
    let o = c.args.octets.now in
    let first = c.from_be_bytes-first.result in
    let status = c.from_be_bytes-status.result in
    let scid : bit_and (first / 16) 1023 ≡ bits (word_at o 0) 4 10 = grind (arith, common_steps) in
    let vcid : bit_and (first / 2) 7 ≡ bits (word_at o 0) 1 3 = grind (arith, common_steps) in
    let pointer : bit_and status 2047 ≡ bits (word_at o 4) 0 11 = grind (arith, common_steps) in
    let control : c.copy_from_slice.new.self ≡ drop (length o - 4) o = grind (arith, common_steps) in
    same-fields (bit_and (first / 16) 1023) (bits (word_at o 0) 4 10) (bit_and (first / 2) 7) (bits (word_at o 0) 1 3) (slice_index_or o 2 0) (slice_index_or o 3 0)
    (bit_and status 2047) (bits (word_at o 4) 0 11) c.copy_from_slice.new.self (drop (length o - 4) o) scid vcid pointer control
