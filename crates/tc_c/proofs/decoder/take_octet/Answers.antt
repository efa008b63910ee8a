use Rattle.tc_c.proofs.Names.{◌≡◌, ℕ, ◌+◌, List, Some, set, take, drop, refl, ap, sym, ◌∙◌, arith, rules, common_steps, decoded, Step, after_block, fate_after}
use Rattle.tc_c.proofs.Receiving.{more-state, last-state, last-fate}
use Rattle.tc_c.proofs.decoder.take_octet.Goals as goal

pub returns-then-decoder-eq7 : goal.returns-then-decoder-eq7
returns-then-decoder-eq7 c =
    let d = c.args.decoder in let f = c.args.frame.now in let o = c.args.octet in
    let decoding = c.requires.decoding in let other = c.if-decoder-eq0.false in
    let on : d.decoding ≡ 1 = omega arith in
    let carried = c.requires.carried in let room = c.requires.room in let last = c.if-decoder-eq7.true in
    let h = c.from.ensures in let k = c.from-2.ensures in
    let place : c.from.result + c.from-2.result ≡ d.carried + d.count = omega arith in
    let written = ap (λ (n : ℕ). set f n o) place in
    let g = set f (c.from.result + c.from-2.result) o in
    let now = last-state c.args.mode o d f g on last (omega arith) written in
    let block : c.copy_from_slice.new.self ≡ take 8 (drop d.carried g) = grind arith in
    record {
      mode = first_of (search rules, grind (arith, common_steps));
      count = first_of (search rules, grind (arith, common_steps));
      carried = first_of (search rules, grind (arith, common_steps));
      decoding = first_of (search rules, grind (arith, common_steps));
      length = first_of (search rules, grind (arith, common_steps));
      state = c.end_block.ensures.state ∙ ap (λ (b : List ℕ). (after_block 1029 (take d.carried g) (decoded c.args.mode b)).0) block ∙ sym (ap (λ (s : Step). s.0) now);
      given = c.end_block.ensures.given ∙ ap (λ (b : List ℕ). (after_block 1029 (take d.carried g) (decoded c.args.mode b)).1) block ∙ sym (ap (λ (s : Step). s.1) now);
      fate = c.end_block.ensures.fate ∙ ap (λ (b : List ℕ). Some (fate_after c.args.mode 1029 (take d.carried g) b)) block ∙ sym (last-fate c.args.mode o d f g on last (omega arith) written);
    }

pub returns-clause-state : goal.returns-clause-state
returns-clause-state c =
    let d = c.args.decoder in let f = c.args.frame.now in let o = c.args.octet in
    let decoding = c.requires.decoding in let other = c.if-decoder-eq0.false in
    let on : d.decoding ≡ 1 = omega arith in
    let carried = c.requires.carried in let room = c.requires.room in let count = c.requires.count in let few = c.if-decoder-eq7.false in
    let h = c.from.ensures in let k = c.from-2.ensures in
    let place : c.from.result + c.from-2.result ≡ d.carried + d.count = omega arith in
    more-state c.args.mode o d (record d { count = d.count + 1 }) f (set f (c.from.result + c.from-2.result) o) on (omega arith) (omega arith)
    (ap (λ (n : ℕ). set f n o) place) refl
