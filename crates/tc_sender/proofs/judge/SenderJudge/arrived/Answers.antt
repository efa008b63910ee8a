use Rattle.std.specs.Prelude.{◌≡◌, ◌<◌, true}
use Rattle.std.proofs.Common.{arith}
use Rattle.tc_sender.proofs.Judged.{expected, arrived-so, arrived-known, breach-so, otherwise-so}
use Rattle.tc_sender.proofs.judge.SenderJudge.arrived.Goals as goal

pub returns-then-is_accepted_otherwise-clause-unexplained : goal.returns-then-is_accepted_otherwise-clause-unexplained
returns-then-is_accepted_otherwise-clause-unexplained c = rw (← c.self.view_is)
    (λ e. otherwise-so c.self.inside.window c.self.inside.vr c.args.number c.args.accepted c.is_accepted_otherwise.result c.args.field.now c.self.inside.numbers.items
    c.self.invariant.1 c.is_accepted_otherwise.ensures c.if-is_accepted_otherwise.true)

pub returns-in_default-clause-unexplained : goal.returns-in_default-clause-unexplained
returns-in_default-clause-unexplained c = rw (← c.self.view_is)
    (λ e. breach-so c.self.inside.window c.width.result c.self.inside.vr c.args.number c.args.accepted c.args.field.now c.self.inside.numbers.items c.deref.result.now
    c.width.ensures.width c.deref.ensures.value c.self.invariant.1 c.in_default.ensures.none)

pub invariant_of-self : goal.invariant_of-self
invariant_of-self c =
    let fits = expected c.args.accepted c.is_accepted_otherwise.result c.args.number c.self.inside.vr c.is_accepted_otherwise.ensures c.if-is_accepted_otherwise.false in (
      c.self.invariant.0,
      arrived-known c.self.inside.window c.width.result c.self.inside.vr c.args.number c.in-Some.read c.vr_after-self-inside.result c.args.accepted
          c.self.inside.numbers.items c.deref.result.now c.forget.new.numbers.items c.self.invariant.0
          c.width.ensures.width c.deref.ensures.value c.forget.ensures.items c.vr_after-self-inside.ensures c.self.invariant.1 fits c.in-Some.ensures.some,
      omega (arith, c.forget.ensures.room, c.self.invariant.2),
    )

pub returns-clause-explained : goal.returns-clause-explained
returns-clause-explained c =
    let fits = expected c.args.accepted c.is_accepted_otherwise.result c.args.number c.self.inside.vr c.is_accepted_otherwise.ensures c.if-is_accepted_otherwise.false in
    let small : c.args.number < 256 = omega arith in
    rw (← c.self.view_is)
    (λ e. arrived-so c.self.inside.window c.width.result c.self.inside.vr c.args.number c.in-Some.read c.vr_after-self-inside.result c.args.accepted c.args.field.now
    c.self.inside.numbers.items c.deref.result.now c.forget.new.numbers.items
    c.width.ensures.width c.deref.ensures.value c.forget.ensures.items c.vr_after-self-inside.ensures c.self.invariant.1 small fits c.in-Some.ensures.some)
