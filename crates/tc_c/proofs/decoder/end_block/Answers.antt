use Rattle.tc_c.proofs.Names.{◌≡◌, ◌+◌, ◌++◌, Some, take, ap, sym, ◌∙◌, arith, refl, decoded, Step}
use Rattle.tc_c.proofs.Receiving.{accepted, begins}
use Rattle.tc_c.proofs.decoder.end_block.Goals as goal

pub returns-else-carried-gt-MOST_OCTETS-clause-state : goal.returns-else-carried-gt-MOST_OCTETS-clause-state
returns-else-carried-gt-MOST_OCTETS-clause-state c =
    let d = c.args.decoder in let f = c.args.frame.now in
    let carried = c.requires.carried in let room = c.requires.room in let fits = c.if-carried-gt-MOST_OCTETS.false in let h = c.from-carried.ensures in
    let x = c.carry.new.frame in
    let is : decoded c.args.mode c.args.block.now ≡ Some (take 7 c.in-Some.block) = grind arith in
    let whole : take (d.carried + 7) x ≡ take d.carried f ++ take 7 c.in-Some.block = grind arith in
    begins (record d { count = 0; carried = d.carried + 7 }) x c.requires.decoding refl
    ∙ sym (ap (λ (s : Step). s.0) (accepted d.carried f x (take 7 c.in-Some.block) (decoded c.args.mode c.args.block.now) (omega arith) (omega arith) is whole))
