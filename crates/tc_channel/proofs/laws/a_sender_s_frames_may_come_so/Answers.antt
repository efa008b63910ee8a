use Rattle.tc_channel.proofs.Names.{refl, arith, inl, inr, eqb_tells}
use Rattle.tc_channel.proofs.laws.a_sender_s_frames_may_come_so.Goals as goal

pub returns-clause-repeated : goal.returns-clause-repeated
returns-clause-repeated c = record { number = 0; ns = refl; field = refl; not_old = omega arith; not_new = omega arith }

pub returns-clause-late : goal.returns-clause-late
returns-clause-late c = record { number = 0; ns = refl; field = refl; not_old = omega arith; not_new = omega arith }

pub returns-clause-behind_lost_ones : goal.returns-clause-behind_lost_ones
returns-clause-behind_lost_ones c = record { number = 2; ns = refl; field = refl; not_old = omega arith; not_new = omega arith }

pub returns-clause-too_late : goal.returns-clause-too_late
returns-clause-too_late c = λ k. elim (eqb_tells k.number 0) [
  | inl same ↦ absurd (let late = k.not_old in let is = same.1 in omega arith)
  | inr other ↦ absurd (let none = rw other.0 at k.field in cc)
]

pub returns-clause-too_early : goal.returns-clause-too_early
returns-clause-too_early c = λ k. elim (eqb_tells k.number 256) [
  | inl same ↦ absurd (let early = k.not_new in let is = same.1 in omega arith)
  | inr other ↦ absurd (let none = rw other.0 at k.field in cc)
]
