-- The meaning of a lock's word:
-- 0: The lock is free.
-- 1: It is left to threads that have slept.
-- 2: It is taken.
-- 3: It is taken, and a thread may sleep.
-- 4: It is taken, and a thread has requested that it be left to threads that have slept.
use Rattle.std.specs.Prelude.{ℕ, zero, suc, Bool, true, false, ◌==◌, if◌then◌else◌}

-- true if a thread that has slept `sleeps` times may take a lock with this word
abbrev pub is_open : ℕ → ℕ → Bool
is_open zero sleeps = true
is_open (suc zero) zero = false
is_open (suc zero) (suc sleeps) = true
is_open (suc (suc word)) sleeps = false

-- The word by which a thread that has slept `sleeps` times shows that it waits. From its third sleep on it requests
-- that the lock be left to threads that have slept.
abbrev pub asking : ℕ → ℕ
asking zero = 3
asking (suc zero) = 3
asking (suc (suc sleeps)) = 4

-- The word of the lock after its release. The lock is left to threads that have slept if a thread requested this.
abbrev pub given_back : ℕ → ℕ
given_back word = if word == 4 then 1 else 0
