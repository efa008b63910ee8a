use Rattle.tc_make.proofs.Names.{List, [], ap, arith, on_ok_weaker, refl, subst, ℕ, ◌+◌, ◌∙◌, ◌≡◌}
use Rattle.tc_edges.specs.declared.cltu.block.Mode.{Mode}
use Rattle.tc_edges.specs.Cltu.Reception.{state_after, corrections_of, rejections_of, overruns_of, corrected_in, rejected_in, overlong_in}
use Rattle.tc_edges.proofs.CltuLemmas.Decoding.{one-counted}
use Rattle.tc_make.proofs.Fed.{IsSoFar, some-fed, all-fed}
use Rattle.tc_make.proofs.decoders.write_fed.Goals as goal

pub loop-fed-preserved : goal.loop-fed-preserved
loop-fed-preserved g c =
    let l = c.loop-fed in let was = c.args.decoder.now in let d = l.decoder in let next = c.feed_front.new.self in
    let before = l.rest.now in let rest = c.in-Some.others.now in let fate = c.in-Some.fed.fate in
    let inv = l.invariant in let fed = c.in-Some.ensures in
    let counts = one-counted fate in let one = counts.0 in let two = counts.1 in let three = counts.2 in
    let is = c.count.ensures.corrected in let other = c.count.ensures.rejected in let too = c.count.ensures.overlong in
    let less = fed.less in let within = inv.corrected_within in let also = inv.rejected_within in let last = inv.overlong_within in
    let corrected : corrections_of fate + corrected_in was.mode 1029 next.state rest ≡ corrected_in was.mode 1029 d.state before =
    subst (λ (m : Mode). corrections_of fate + corrected_in m 1029 next.state rest ≡ corrected_in m 1029 d.state before) inv.mode (fed.fates corrections_of refl) in
    let rejected : rejections_of fate + rejected_in was.mode 1029 next.state rest ≡ rejected_in was.mode 1029 d.state before =
    subst (λ (m : Mode). rejections_of fate + rejected_in m 1029 next.state rest ≡ rejected_in m 1029 d.state before) inv.mode (fed.fates rejections_of refl) in
    let overlong : overruns_of fate + overlong_in was.mode 1029 next.state rest ≡ overlong_in was.mode 1029 d.state before =
    subst (λ (m : Mode). overruns_of fate + overlong_in m 1029 next.state rest ≡ overlong_in m 1029 d.state before) inv.mode (fed.fates overruns_of refl) in
    record {
      mode = c.feed_front.ensures.mode ∙ inv.mode;
      state = subst (λ (m : Mode). state_after m 1029 next.state rest ≡ state_after m 1029 d.state before) inv.mode fed.state ∙ inv.state;
      text = some-fed d.mode was.mode before rest c.args.octets.now was.state d.state next.state _ _ _ _ inv.mode fed.given inv.text c.in_ok-write_ended.ensures;
      corrected = omega (arith, corrected, inv.corrected, is);
      corrected_within = omega arith;
      rejected = omega (arith, rejected, inv.rejected, other);
      rejected_within = omega arith;
      overlong = omega (arith, overlong, inv.overlong, too);
      overlong_within = omega arith;
    }

pub returns-clause-text : goal.returns-clause-text
returns-clause-text g c =
    let l = c.loop-fed in let was = c.args.decoder.now in let os = c.args.octets.now in let d = l.decoder in
    let inv = l.invariant in let none : l.rest.now ≡ [] = c.in_default.ensures.none.0 in
    let corrected : corrected_in was.mode 1029 d.state l.rest.now ≡ 0 = ap (corrected_in was.mode 1029 d.state) none in
    let rejected : rejected_in was.mode 1029 d.state l.rest.now ≡ 0 = ap (rejected_in was.mode 1029 d.state) none in
    let overlong : overlong_in was.mode 1029 d.state l.rest.now ≡ 0 = ap (overlong_in was.mode 1029 d.state) none in
    on_ok_weaker c.write_blocks.result
    (all-fed was.mode l.counts.corrected l.counts.rejected l.counts.overlong os was.state d.state _ _ _ (subst (λ (r : List ℕ). IsSoFar was.mode r os was.state d.state (g.W.Write.contents c.args.writer.now) (g.W.Write.contents l.writer)) none inv.text)
    (omega (arith, corrected, inv.corrected)) (omega (arith, rejected, inv.rejected)) (omega (arith, overlong, inv.overlong)))
    c.write_blocks.ensures
