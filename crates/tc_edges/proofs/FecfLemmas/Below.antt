-- Two functions are equal at each number below n if a computation shows it for each of these numbers.
use Rattle.std.proofs.Common.{◌≡◌, ℕ, ◌<◌, true, eqb}
use Rattle.std.proofs.lemmas.Bool.{eqb-true, agree_below, agree_below_at}

pub same_below : (f g : ℕ → ℕ) (n : ℕ) → agree_below (λ k. eqb (f k) (g k)) (λ _. true) n ≡ true → (k : ℕ) → k < n → f k ≡ g k
same_below f g n h k less = eqb-true (f k) (g k) (agree_below_at (λ k. eqb (f k) (g k)) (λ _. true) n k h less)
