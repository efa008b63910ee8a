use Rattle.std.specs.Prelude.{◌≡◌, ◌⊎◌, true, false, Some, None}
use Rattle.std.proofs.Common.{inl, inr}
use Rattle.tc_judge.proofs.Unions.{two, alike, made-parts}
use Rattle.tc_judge.proofs.walk.deal.Goals.{then-rules, else-rules}
use Rattle.tc_judge.proofs.walk.deal.Goals as goal

pub returns-clause-made : goal.returns-clause-made
returns-clause-made c = λ y. alike (two (c.add_some-4.ensures.layer y) (two (c.add_some-3.ensures.layer y) (two (c.add_some-2.ensures.layer y) (c.add_some.ensures.layer y))))
    (made-parts c.args.rules.now c.args.frame c.args.r y c.if-rules.stays c.dealt.result c.dealt-2.result c.otherwise.result which c.dealt.ensures.entry c.dealt-2.ensures.entry c.otherwise.ensures.profile c.otherwise.ensures.other) where
      which : ((c.args.rules.now.lossy ≡ true) × (c.if-rules.stays ≡ Some c.args.r)) ⊎ ((c.args.rules.now.lossy ≡ false) × (c.if-rules.stays ≡ None))
      which = elim c.if-rules.branch [ then-rules w ↦ inl (w.if-rules.true, w.stays-is) | else-rules w ↦ inr (w.if-rules.false, w.stays-is) ]
