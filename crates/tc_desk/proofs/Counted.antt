-- Whether operators can close a desk depends on the number of operators and the number of their events.
use Rattle.tc_desk.proofs.Names.{◌≡◌, inl, inr, ℕ, ◌≤◌, ◌-◌, ◌^◌, List, length, arith, Event, total_made, Own, CanClose, IsBalanced, IsCause, ⊎_elim, lt_of_not-le}
use native.Mathlib.Decide.{dec_le}
use mathlib.Core.Logic.{dite}

-- Suppose that the operators have made the whole journal if none of those that were issued is missing. If they can
-- close the desk, they are balanced.
pub as-balanced : (issued : ℕ) (makers : List Own) (journal : List Event) → CanClose issued makers journal → (issued ≤ length makers → total_made makers ≡ length journal) → IsBalanced makers journal
as-balanced issued makers journal can whole =
    let few = can.0 in
    let all : total_made makers ≡ length journal = ⊎_elim (λ (back : issued ≤ length makers). whole back) (λ (same : total_made makers ≡ length journal). same) can.1 in
    (all, omega (arith, few, all))

-- if operators can't close a desk, there is a cause of the imbalance
pub cause-of : (issued : ℕ) (makers : List Own) (journal : List Event) → ¬ CanClose issued makers journal → IsCause issued makers
cause-of issued makers journal cannot = dite (dec_le issued (length makers))
    (λ (back : issued ≤ length makers). dite (dec_le (2 ^ 64 - 1) (total_made makers))
    (λ (many : 2 ^ 64 - 1 ≤ total_made makers). inr many)
    (λ (few : 2 ^ 64 - 1 ≤ total_made makers → ⊥). absurd (cannot (lt_of_not-le few, inl back))))
    (λ (missing : issued ≤ length makers → ⊥). inl (lt_of_not-le missing))

pub not-balanced : (issued : ℕ) (makers : List Own) (journal : List Event) → ¬ CanClose issued makers journal → ¬ IsBalanced makers journal
not-balanced issued makers journal cannot balanced =
    let same = balanced.0 in let few = balanced.1 in
    cannot (omega (arith, same, few), inr same)
