-- Each new receiver with allowed settings can be in a loop.
use Rattle.tc_laws.proofs.LoopsLemmas.Names.{IsAllowed, IsLawfulWithin, IsLoop, IsOctets, Link, S3, Settings, [], arith, inl, new_loop, receiver, refl, run_within, smallest, suc, ℕ, ◌<◌, ◌≢◌, IsWhole}

octets : (first i : ℕ) → IsOctets (smallest first i)
octets first i (suc (suc (suc (suc (suc (suc n)))))) = omega arith
octets first i _ = omega arith

pub smallest-whole : (first i : ℕ) → IsWhole (smallest first i)
smallest-whole first i = record { each = octets first i; least = omega arith; most = omega arith; version = refl; spare = refl; named = refl }

pub begins-so : (limits : ℕ → ℕ) (s : Settings) (links : ℕ → Link) (window : ℕ) → IsAllowed s → window < 256 → IsLoop (new_loop limits s links window) []
unfolding IsLawfulWithin
begins-so limits s links window allowed small = record {
  window = small;
  numbered = λ i. record { whole = smallest-whole s.first i; bypass = refl; control = refl; ns = refl };
  allowed = allowed;
  lawful = tt;
  era = record { parts = refl; starts = inl (refl, refl); last = λ i e here. absurd cc };
  possible = record {
    sends = λ t i here. absurd cc;
    links = record { arrives = λ t i s here. absurd cc; hears = λ t m here. absurd cc; frames_in_order = λ t u i j s r order here later. absurd cc; reports_in_order = λ t u m n order here later. absurd cc };
    others = λ t e here. absurd cc;
  };
}

pub begins-free : (limits : ℕ → ℕ) (s : Settings) (links : ℕ → Link) (window : ℕ) → (receiver (new_loop limits s links window) []).report.state ≢ S3
unfolding run_within
begins-free limits s links window e = cc
