use Rattle.std.proofs.Common.{◌≡◌, ◌+◌, ◌*◌, ◌/◌, ◌%◌, ◌≤◌, [], ◌∷◌, ◌++◌, length, get_or, drop, refl, ◌∙◌, arith}
use Rattle.tc_edges.specs.Fecf.Checksum.{checksum_of}
use Rattle.tc_edges.proofs.FecfLemmas.Plain.{head, rest-of, octets_before_field-is, frame_with_field-is}
use Rattle.tc_edges.proofs.fecf.frames.with_field.Goals as goal

pub returns-clause-frame : goal.returns-clause-frame
returns-clause-frame c =
    let f = c.args.octets.now in
    let second : c.from_be_bytes.result ≡ get_or f 2 0 * 256 + get_or f 3 0 = grind arith in
    let first : c.extend_from_slice.new.self.items ≡ head f (get_or f 2 0 * 256 + get_or f 3 0 + 2) = grind arith in
    let front : c.extend_from_slice-2.new.self.items ≡ head f (get_or f 2 0 * 256 + get_or f 3 0 + 2) ++ drop 4 f =
    (rw c.unwrap-2.ensures at c.extend_from_slice-2.ensures.items) ∙ rw (first, rest-of f) refl in
    let summed : c.checksum.result ≡ checksum_of c.extend_from_slice-2.new.self.items = grind arith in
    let items : c.extend_from_slice-3.new.self.items ≡ c.extend_from_slice-2.new.self.items ++ (c.checksum.result / 256 % 256 ∷ c.checksum.result % 256 ∷ []) = grind arith in
    let short : length f ≤ 1022 = grind arith in
    items ∙ frame_with_field-is f c.extend_from_slice-2.new.self.items c.checksum.result (front ∙ octets_before_field-is f c.in_ok-whole_frame.ensures.whole short) summed
