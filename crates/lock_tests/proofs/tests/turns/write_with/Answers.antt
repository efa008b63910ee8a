use Rattle.std.proofs.Common.{rules, refl}
use Rattle.lock_tests.proofs.Hands.{in_hands, keeps, writes}
use Rattle.lock_tests.proofs.tests.turns.write_with.Goals as goal

pub slot_mut-book-requires : goal.slot_mut-book-requires
slot_mut-book-requires g c = (search rules, (c.requires.unchanged.kept, in_hands _ _ c.requires.unchanged.hands))

pub unlock_with-requires-clause-longer : goal.unlock_with-requires-clause-longer
unlock_with-requires-clause-longer g c =
    writes _ _ c.slot_mut-book.result.now (record { title = c.slot_mut-book.result.now.title; numbers = c.push.new.self }) c.args.number g.P.Number.number
    c.requires.unchanged c.slot_mut-book.ensures.value refl (search rules) c.requires.number

pub unlock-requires-clause-unchanged : goal.unlock-requires-clause-unchanged
unlock-requires-clause-unchanged g c =
    keeps _ _ c.slot_mut-book.result.now (record { title = c.slot_mut-book.result.now.title; numbers = c.push.new.self })
    c.requires.unchanged c.slot_mut-book.ensures.value refl (search rules)
