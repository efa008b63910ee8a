use Rattle.std.specs.Prelude.{◌≤◌, length}
use Rattle.std.proofs.Common.{arith}
use Rattle.tc_sender.proofs.Judged.{made-so, made-known}
use Rattle.tc_sender.proofs.Knowing.{not-v-r, room-for}
use Rattle.tc_sender.proofs.judge.SenderJudge.made.Goals as goal

pub returns-then-vr-self-clause-unexplained : goal.returns-then-vr-self-clause-unexplained
returns-then-vr-self-clause-unexplained c = rw (← c.self.view_is)
    (λ e items. not-v-r c.self.inside.window c.self.inside.vr c.args.vr c.self.inside.numbers.items items c.if-vr-self.true)

pub note-requires : goal.note-requires
note-requires c = λ ne.
    let le : length c.self.inside.numbers.items ≤ c.self.inside.window
    = room-for c.self.inside.window c.self.inside.vr c.self.inside.numbers.items c.args.vr c.if-vr-self.false ne c.self.invariant.1 in
    omega (arith, le, c.self.invariant.2)

pub invariant_of-self : goal.invariant_of-self
invariant_of-self c = (
  c.self.invariant.0,
  made-known c.self.inside.window c.self.inside.vr c.args.vr c.self.inside.numbers.items c.note.new.numbers.items c.if-vr-self.false c.self.invariant.1 c.note.ensures.added c.note.ensures.known,
  omega (arith, c.note.ensures.room, c.self.invariant.2),
)

pub returns-clause-explained : goal.returns-clause-explained
returns-clause-explained c = rw (← c.self.view_is)
    (λ e. made-so c.self.inside.window c.self.inside.vr c.args.vr c.self.inside.numbers.items c.note.new.numbers.items c.if-vr-self.false c.self.invariant.1 c.note.ensures.added c.note.ensures.known)
