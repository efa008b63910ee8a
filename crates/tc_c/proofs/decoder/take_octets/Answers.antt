use Rattle.tc_c.proofs.Names.{◌≡◌, ℕ, ◌+◌, ◌-◌, Bool, List, [], ◌∷◌, length, take, drop, if◌then◌else◌, refl, ap, sym, ◌∙◌, arith, length-drop, take_all, Decoding, state_after, frames_of, corrections_of, rejections_of, overruns_of, corrected_in, rejected_in, overlong_in, one-counted, reception_of}
use Rattle.tc_c.proofs.Receiving.{begins, state-more, frames-more, counted-more}
use Rattle.tc_c.proofs.decoder.take_octets.Goals as goal

pub loop-taken-preserved-then-now-eq0 : goal.loop-taken-preserved-then-now-eq0
loop-taken-preserved-then-now-eq0 c =
    let l = c.loop-taken in let os = c.args.octets.now in let i = l.taken in let m = c.args.mode in
    let first = reception_of c.args.decoder c.args.frame.now in let at = reception_of l.now l.frame in
    let n = c.take_front-count.result.0 in let k = c.take_front-count.result.1 in let f = c.take_front-count.new.frame in
    let t = c.take_front-count.ensures in let inv = l.invariant in
    let counts = one-counted n.fate in let one = counts.0 in let two = counts.1 in let three = counts.2 in
    let is = c.count.ensures.corrected in let also = c.count.ensures.rejected in let too = c.count.ensures.overlong in
    let some = t.some in let few = t.within in let there = inv.within in let within = inv.corrected_within in let other = inv.rejected_within in let last = inv.overlong_within in
    let left = length-drop i os in
    let whole : take (length os - i) (drop i os) ≡ drop i os = take_all (length os - i) (drop i os) (omega arith) in
    let long = ap length whole in
    let given : [] ≡ frames_of m 1029 at (take k (drop i os)) =
    sym (ap (λ (b : Bool). if b then take n.decoder.carried f ∷ [] else []) c.if-next.false) ∙ t.given ∙ ap (λ (x : List ℕ). frames_of m 1029 at (take k x)) whole in
    let corrected = t.fates corrections_of refl ∙ ap (λ (x : List ℕ). corrected_in m 1029 at (take k x)) whole in
    let rejected = t.fates rejections_of refl ∙ ap (λ (x : List ℕ). rejected_in m 1029 at (take k x)) whole in
    let overlong = t.fates overruns_of refl ∙ ap (λ (x : List ℕ). overlong_in m 1029 at (take k x)) whole in
    let j = i + k in let next = Decoding (take n.decoder.carried f) [] in let more = c.take_blocks-blocks.result in let b = c.take_blocks-blocks.ensures in let less = b.within in let few_more = b.few in
    let left_more = length-drop j os in
    let whole_more : take (length os - j) (drop j os) ≡ drop j os = take_all (length os - j) (drop j os) (omega arith) in
    let long_more = ap length whole_more in
    let begun : reception_of n.decoder f ≡ next = begins n.decoder f c.if-now-eq1.true c.if-now-eq0.true in
    let state = state-more m 1029 i k os first at next inv.state (sym begun ∙ t.state ∙ ap (λ (x : List ℕ). state_after m 1029 at (take k x)) whole) in
    let none = sym (frames-more m 1029 i k os first at [] inv.state inv.none given) in
    let corrected_before = is ∙ counted-more corrections_of m 1029 i k (corrections_of n.fate) l.counts.corrected os first at inv.state corrected inv.corrected in
    let rejected_before = also ∙ counted-more rejections_of m 1029 i k (rejections_of n.fate) l.counts.rejected os first at inv.state rejected inv.rejected in
    let overlong_before = too ∙ counted-more overruns_of m 1029 i k (overruns_of n.fate) l.counts.overlong os first at inv.state overlong inv.overlong in
    let rejected_more = counted-more rejections_of m 1029 j more.taken 0 c.count.new.self.rejected os first next state
    (sym b.rejected ∙ ap (λ (x : List ℕ). rejected_in m 1029 next (take more.taken x)) whole_more) rejected_before in
    let overlong_more = counted-more overruns_of m 1029 j more.taken 0 c.count.new.self.overlong os first next state
    (sym b.overlong ∙ ap (λ (x : List ℕ). overlong_in m 1029 next (take more.taken x)) whole_more) overlong_before in
    record {
      correct = t.mode ∙ inv.correct;
      count = t.count;
      carried = b.carried;
      decoding = t.decoding;
      room = b.length ∙ t.length ∙ inv.room;
      within = omega arith;
      state = begins (record n.decoder { carried = more.carried }) c.take_blocks-blocks.new.frame c.if-now-eq1.true c.if-now-eq0.true
          ∙ state-more m 1029 j more.taken os first next _ state (b.state ∙ ap (λ (x : List ℕ). state_after m 1029 next (take more.taken x)) whole_more);
      none = sym (frames-more m 1029 j more.taken os first next [] state none (sym b.given ∙ ap (λ (x : List ℕ). frames_of m 1029 next (take more.taken x)) whole_more));
      corrected = counted-more corrections_of m 1029 j more.taken more.corrected c.count.new.self.corrected os first next state
          (b.corrected ∙ ap (λ (x : List ℕ). corrected_in m 1029 next (take more.taken x)) whole_more) corrected_before;
      corrected_within = omega arith;
      rejected = omega (arith, rejected_more);
      rejected_within = omega arith;
      overlong = omega (arith, overlong_more);
      overlong_within = omega arith;
    }

pub loop-taken-preserved : goal.loop-taken-preserved
loop-taken-preserved c =
    let l = c.loop-taken in let os = c.args.octets.now in let i = l.taken in let m = c.args.mode in
    let first = reception_of c.args.decoder c.args.frame.now in let at = reception_of l.now l.frame in
    let n = c.take_front-count.result.0 in let k = c.take_front-count.result.1 in let f = c.take_front-count.new.frame in
    let t = c.take_front-count.ensures in let inv = l.invariant in
    let counts = one-counted n.fate in let one = counts.0 in let two = counts.1 in let three = counts.2 in
    let is = c.count.ensures.corrected in let also = c.count.ensures.rejected in let too = c.count.ensures.overlong in
    let some = t.some in let few = t.within in let there = inv.within in let within = inv.corrected_within in let other = inv.rejected_within in let last = inv.overlong_within in
    let left = length-drop i os in
    let whole : take (length os - i) (drop i os) ≡ drop i os = take_all (length os - i) (drop i os) (omega arith) in
    let long = ap length whole in
    let given : [] ≡ frames_of m 1029 at (take k (drop i os)) =
    sym (ap (λ (b : Bool). if b then take n.decoder.carried f ∷ [] else []) c.if-next.false) ∙ t.given ∙ ap (λ (x : List ℕ). frames_of m 1029 at (take k x)) whole in
    let corrected = t.fates corrections_of refl ∙ ap (λ (x : List ℕ). corrected_in m 1029 at (take k x)) whole in
    let rejected = t.fates rejections_of refl ∙ ap (λ (x : List ℕ). rejected_in m 1029 at (take k x)) whole in
    let overlong = t.fates overruns_of refl ∙ ap (λ (x : List ℕ). overlong_in m 1029 at (take k x)) whole in
    record {
      correct = t.mode ∙ inv.correct;
      count = t.count;
      carried = t.carried;
      decoding = t.decoding;
      room = t.length ∙ inv.room;
      within = omega arith;
      state = state-more m 1029 i k os first at (reception_of n.decoder f) inv.state (t.state ∙ ap (λ (x : List ℕ). state_after m 1029 at (take k x)) whole);
      none = sym (frames-more m 1029 i k os first at [] inv.state inv.none given);
      corrected = is ∙ counted-more corrections_of m 1029 i k (corrections_of n.fate) l.counts.corrected os first at inv.state corrected inv.corrected;
      corrected_within = omega arith;
      rejected = also ∙ counted-more rejections_of m 1029 i k (rejections_of n.fate) l.counts.rejected os first at inv.state rejected inv.rejected;
      rejected_within = omega arith;
      overlong = too ∙ counted-more overruns_of m 1029 i k (overruns_of n.fate) l.counts.overlong os first at inv.state overlong inv.overlong;
      overlong_within = omega arith;
    }

pub returns-then-next : goal.returns-then-next
returns-then-next c =
    let l = c.loop-taken in let os = c.args.octets.now in let i = l.taken in let m = c.args.mode in
    let first = reception_of c.args.decoder c.args.frame.now in let at = reception_of l.now l.frame in
    let n = c.take_front-count.result.0 in let k = c.take_front-count.result.1 in let f = c.take_front-count.new.frame in
    let t = c.take_front-count.ensures in let inv = l.invariant in let some = t.some in
    let left = length-drop i os in
    let whole : take (length os - i) (drop i os) ≡ drop i os = take_all (length os - i) (drop i os) (omega arith) in
    let given : take n.decoder.carried f ∷ [] ≡ frames_of m 1029 at (take k (drop i os)) =
    sym (ap (λ (b : Bool). if b then take n.decoder.carried f ∷ [] else []) c.if-next.true) ∙ t.given ∙ ap (λ (x : List ℕ). frames_of m 1029 at (take k x)) whole in
    let corrected = t.fates corrections_of refl ∙ ap (λ (x : List ℕ). corrected_in m 1029 at (take k x)) whole in
    let rejected = t.fates rejections_of refl ∙ ap (λ (x : List ℕ). rejected_in m 1029 at (take k x)) whole in
    let overlong = t.fates overruns_of refl ∙ ap (λ (x : List ℕ). overlong_in m 1029 at (take k x)) whole in
    let last : i + k - 1 ≡ i + (k - 1) = omega arith in
    record {
      status = c.code.ensures;
      mode = t.mode ∙ inv.correct;
      count = t.count;
      carried = t.carried;
      decoding = t.decoding;
      length = t.length ∙ inv.room;
      state = state-more m 1029 i k os first at (reception_of n.decoder f) inv.state (t.state ∙ ap (λ (x : List ℕ). state_after m 1029 at (take k x)) whole);
      given = frames-more m 1029 i k os first at (take n.decoder.carried f ∷ []) inv.state inv.none given;
      before = λ _. ap (λ (x : ℕ). frames_of m 1029 first (take x os)) last ∙ sym (frames-more m 1029 i (k - 1) os first at [] inv.state inv.none (sym t.before ∙ ap (λ (x : List ℕ). frames_of m 1029 at (take (k - 1) x)) whole));
      all = λ e. absurd (omega arith);
      flag = omega arith;
      corrected = c.count.ensures.corrected ∙ counted-more corrections_of m 1029 i k (corrections_of n.fate) l.counts.corrected os first at inv.state corrected inv.corrected;
      rejected = c.count.ensures.rejected ∙ counted-more rejections_of m 1029 i k (rejections_of n.fate) l.counts.rejected os first at inv.state rejected inv.rejected;
      overlong = c.count.ensures.overlong ∙ counted-more overruns_of m 1029 i k (overruns_of n.fate) l.counts.overlong os first at inv.state overlong inv.overlong;
    }
