use Rattle.tc_c.proofs.Names.{◌≡◌, ℕ, ◌-◌, List, [], length, take, drop, ap, sym, ◌∙◌, arith, length-drop, take_all, Decoding, state_after, frames_of, corrections_of, rejections_of, overruns_of, corrected_in, rejected_in, overlong_in}
use Rattle.tc_c.proofs.Receiving.{state-more, frames-more, counted-more}
use Rattle.tc_c.proofs.decoder.take_blocks.Goals as goal

pub loop-corrections-preserved : goal.loop-corrections-preserved
loop-corrections-preserved c =
    let l = c.loop-corrections in let os = c.args.octets.now in let i = l.taken in let m = c.args.mode in
    let first = Decoding (take c.args.before c.args.frame.now) [] in let at = Decoding (take l.carried l.frame) [] in
    let block = c.in-Some.ensures in let inv = l.invariant in
    let there = inv.within in let enough = block.whole in let few = inv.few in let one = block.few in
    let left = length-drop i os in
    let whole : take (length os - i) (drop i os) ≡ drop i os = take_all (length os - i) (drop i os) (omega arith) in
    let long = ap length whole in
    record {
      carried = block.room;
      room = c.accept_block.ensures.length ∙ inv.room;
      within = omega arith;
      state = state-more m 1029 i 8 os first at _ inv.state (block.state ∙ ap (λ (x : List ℕ). state_after m 1029 at (take 8 x)) whole);
      none = sym (frames-more m 1029 i 8 os first at [] inv.state inv.none (sym block.given ∙ ap (λ (x : List ℕ). frames_of m 1029 at (take 8 x)) whole));
      corrected = counted-more corrections_of m 1029 i 8 c.in-Some.corrections l.corrected os first at inv.state
          (block.corrected ∙ ap (λ (x : List ℕ). corrected_in m 1029 at (take 8 x)) whole) inv.corrected;
      few = omega arith;
      rejected = sym (counted-more rejections_of m 1029 i 8 0 0 os first at inv.state
          (sym block.rejected ∙ ap (λ (x : List ℕ). rejected_in m 1029 at (take 8 x)) whole) (sym inv.rejected));
      overlong = sym (counted-more overruns_of m 1029 i 8 0 0 os first at inv.state
          (sym block.overlong ∙ ap (λ (x : List ℕ). overlong_in m 1029 at (take 8 x)) whole) (sym inv.overlong));
    }
