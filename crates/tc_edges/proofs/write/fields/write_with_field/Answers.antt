use Rattle.std.proofs.Common.{◌≡◌, ◌+◌, ◌*◌, ◌/◌, ◌%◌, ◌≤◌, List, ℕ, [], ◌∷◌, ◌++◌, length, get_or, drop, slice_set, slice_index_or, ◌∙◌, arith}
use Rattle.tc_edges.specs.Fecf.Checksum.{checksum_of}
use Rattle.tc_edges.proofs.FecfLemmas.Plain.{head, octets_before_field-is, frame_with_field-is}
use Rattle.tc_edges.proofs.WriteLemmas.Ends.{relengthened}
use Rattle.tc_edges.proofs.write.fields.write_with_field.Goals as goal

pub returns : goal.returns
returns c =
    let f = c.args.octets.now in
    let n = get_or f 2 0 * 256 + get_or f 3 0 + 2 in
    let least : 4 ≤ length f = grind arith in
    let second : c.from_be_bytes.result ≡ get_or f 2 0 * 256 + get_or f 3 0 = grind arith in
    let high : slice_index_or c.to_be_bytes.result 0 0 ≡ n / 256 % 256 = grind arith in
    let low : slice_index_or c.to_be_bytes.result 1 0 ≡ n % 256 = grind arith in
    let before : List ℕ = slice_set (slice_set c.copy_from_slice.new.self 2 (slice_index_or c.to_be_bytes.result 0 0)) 3 (slice_index_or c.to_be_bytes.result 1 0) in
    let front : before ≡ head f n ++ drop 4 f = rw (c.copy_from_slice.ensures.after, high, low) (relengthened f n least) in
    let summed : c.checksum.result ≡ checksum_of before = c.checksum.ensures in
    let field : c.copy_from_slice-2.new.self ≡ c.checksum.result / 256 % 256 ∷ c.checksum.result % 256 ∷ [] = grind arith in
    rw field (frame_with_field-is f before c.checksum.result (front ∙ octets_before_field-is f c.requires.whole c.requires.most) summed)
