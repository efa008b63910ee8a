use Rattle.std.proofs.Common.{◌≡◌, suc, ◌+◌, ◌-◌, ◌*◌, ◌/◌, ◌%◌, ◌≤◌, List, ℕ, ◌++◌, length, get_or, drop, take, slice_set, slice_index_or, ap, ◌∙◌, arith}
use Rattle.tc_edges.proofs.FecfLemmas.Plain.{head, plain-right}
use Rattle.tc_edges.proofs.WriteLemmas.Ends.{cut-off}
use Rattle.tc_edges.proofs.write.fields.write_without_field.Goals as goal

pub returns-clause-frame : goal.returns-clause-frame
returns-clause-frame c =
    let f = c.args.octets.now in
    let n = get_or f 2 0 * 256 + get_or f 3 0 - 2 in
    let k = length f - 2 - 4 in
    let least : 4 ≤ length f = grind arith in
    let second : c.from_be_bytes.result ≡ get_or f 2 0 * 256 + get_or f 3 0 = grind arith in
    let high : slice_index_or c.to_be_bytes.result 0 0 ≡ n / 256 % 256 = grind arith in
    let low : slice_index_or c.to_be_bytes.result 1 0 ≡ n % 256 = grind arith in
    let size : length c.args.plain.now ≡ suc (suc (suc (suc k))) = omega (arith, c.requires.all, c.requires.least) in
    let cut : c.copy_from_slice.new.self ≡ take (suc (suc (suc (suc k)))) f =
    c.copy_from_slice.ensures.after ∙ (c.split_at.ensures.front ∙ ap (λ (m : ℕ). take m f) size) in
    let plain : List ℕ = slice_set (slice_set c.copy_from_slice.new.self 2 (slice_index_or c.to_be_bytes.result 0 0)) 3 (slice_index_or c.to_be_bytes.result 1 0) in
    let is : plain ≡ head f n ++ take k (drop 4 f) = rw (cut, high, low) (cut-off f n k least) in
    plain-right f plain c.requires.whole c.requires.least c.requires.passes is
