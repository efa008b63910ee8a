-- Examples of accounts of the receiving end.
use Rattle.std.specs.Prelude.{◌≡◌, ℕ, ◌<◌, ◌≤◌, true, false, List, [], ◌∷◌}
use Rattle.std.proofs.Common.{refl, arith}
use Rattle.tc_sender.specs.Account.{Seen, Arrived, Made, SenderExplains, ended, arrived, made, lost, read}

pub last : SenderExplains 10 0 [] 0 (Arrived 9 false [] ∷ [])
last = arrived (omega arith) (omega arith) (λ t. absurd cc) ended

pub beyond : SenderExplains 10 0 [] 0 (Arrived 10 false [] ∷ []) → ⊥
beyond (arrived small within fits e) = absurd (omega (arith, within))

pub after-read : SenderExplains 10 0 [] 0 (Arrived 0 true [] ∷ Made 1 ∷ Arrived 10 false [] ∷ [])
after-read = arrived (omega arith) (omega arith) (λ t. refl) (made (read (arrived (omega arith) (omega arith) (λ t. absurd cc) ended)))

back-read : SenderExplains 10 1 [] 1 (Arrived 0 false [] ∷ []) → ⊥
back-read (arrived small within fits e) = absurd (omega (arith, within))

beyond-unread : SenderExplains 10 0 [] 1 (Arrived 10 false [] ∷ Arrived 0 false [] ∷ []) → ⊥
beyond-unread (arrived small within fits e) = absurd (omega (arith, within))

then-back : SenderExplains 10 1 [] 1 (Arrived 10 false [] ∷ Arrived 0 false [] ∷ []) → ⊥
then-back (arrived small within fits e) = back-read e

on-its-way : SenderExplains 10 0 (1 ∷ []) 1 (Arrived 10 false [] ∷ Arrived 0 false [] ∷ []) → ⊥
on-its-way (arrived small within fits e) = absurd (omega (arith, within))
on-its-way (lost e) = beyond-unread e
on-its-way (read e) = then-back e

made-so : SenderExplains 10 0 [] 1 (Made 1 ∷ Arrived 10 false [] ∷ Arrived 0 false [] ∷ []) → ⊥
made-so (made e) = on-its-way e

pub back : SenderExplains 10 0 [] 0 (Arrived 0 true [] ∷ Made 1 ∷ Arrived 10 false [] ∷ Arrived 0 false [] ∷ []) → ⊥
back (arrived small within fits e) = made-so e
