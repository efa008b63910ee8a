-- Limits of rooms.
use Rattle.std.proofs.Common.{◌≡◌, ℕ, ◌%◌, Bool, true, false, get_or, refl, Result, Ok, Err, if◌then◌else◌, replicate, arith}
use Rattle.std.specs.Prelude.{IfOk, OnOk, OnErr}
use Rattle.std.proofs.lemmas.List.{get_or-replicate}

-- a fact that a result ensures can be replaced by a fact that follows from it
pub on-ok : {A E P Q : Type 0} (r : Result A E) → (P → Q) → OnOk r P → OnOk r Q
on-ok (Ok x) follows h = follows h
on-ok (Err e) follows h = tt

pub on-err : {A E P Q : Type 0} (r : Result A E) → (P → Q) → OnErr r P → OnErr r Q
on-err (Ok x) follows h = tt
on-err (Err e) follows h = follows h

pub if-ok : {A E : Type 0} (P Q : A → Type 0) (r : Result A E) → ((x : A) → P x → Q x) → IfOk r P → IfOk r Q
if-ok P Q (Ok x) follows h = follows x h
if-ok P Q (Err e) follows h = tt

-- if every MAP has the same limit, each stream has that limit
pub one-limit : (segmented : Bool) (limit place : ℕ) → (if segmented then get_or (replicate 64 limit) (place % 64) 0 else limit) ≡ limit
one-limit true limit place = get_or-replicate 64 (place % 64) limit 0 (omega arith)
one-limit false limit place = refl
