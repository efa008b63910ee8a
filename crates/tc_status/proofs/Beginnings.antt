-- Histories that are beginnings of others.
use Rattle.std.proofs.Common.{List, [], ◌++◌, refl, ap, sym, ◌∙◌, append_assoc}
use Rattle.std.proofs.lemmas.List.{append-nil}
use mathlib.Core.List.{IsPrefix}
use Rattle.tc_channel.specs.declared.event.Event.{Event}
use Rattle.tc_channel.specs.Journal.{History}
use Rattle.tc_status.specs.Board.{IsEarlier}

prefix-self : (es : List Event) → IsPrefix es es
prefix-self es = ([], append-nil es)

prefix-trans : (es fs gs : List Event) → IsPrefix es fs → IsPrefix fs gs → IsPrefix es gs
prefix-trans es fs gs p q = (p.0 ++ q.0, sym (append_assoc es p.0 q.0) ∙ (ap (λ w. w ++ q.0) p.1 ∙ q.1))

pub beginning-self : (h : History) → IsEarlier h h
beginning-self h = (refl, prefix-self h.journal)

pub beginning-trans : (a b c : History) → IsEarlier a b → IsEarlier b c → IsEarlier a c
beginning-trans a b c p q = (q.0 ∙ p.0, prefix-trans a.journal b.journal c.journal p.1 q.1)
