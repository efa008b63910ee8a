-- A log that several seats have made, and the owner of each of its places.
use Rattle.std.specs.Prelude.{◌≡◌, ℕ, zero, suc, ◌+◌, ◌==◌, List, [], ◌∷◌, ◌++◌, length, if◌then◌else◌}
use mathlib.Core.Option.{some}
use lib.ListN.{get_elem?}
use mathlib.Core.List.{IsPrefix}
use Rattle.logged_lock.specs.declared.views.Log.{Log}
use Rattle.logged_lock.specs.declared.views.Account.{Account}

-- the log without entries
abbrev pub start_of : {D E : Type 0} → D → Log D E
start_of d = record { head = d; entries = [] }

-- a log with one more entry at its end
abbrev pub with_entry : {D E : Type 0} → Log D E → E → Log D E
with_entry l e = record { head = l.head; entries = l.entries ++ e ∷ [] }

-- the heads are equal, and the old entries are a beginning of the new ones
abbrev pub IsBeginning : {D E : Type 0} → Log D E → Log D E → Type 0
IsBeginning old new = (new.head ≡ old.head) × IsPrefix old.entries new.entries

-- The places that belong to an owner, each with its entry. The places of the log are numbered from `at` on.
abbrev pub owned : {E : Type 0} → ℕ → ℕ → List ℕ → List E → List (ℕ × E)
owned owner at [] es = []
owned owner at (o ∷ os) [] = []
owned owner at (o ∷ os) (e ∷ es) = if o == owner then (at, e) ∷ owned owner (suc at) os es else owned owner (suc at) os es

-- The entries that the k-th account has made, each with its place. There are none if there is no such account.
abbrev pub made_by : {D E : Type 0} → List (Account D E) → ℕ → List (ℕ × E)
made_by [] k = []
made_by (a ∷ more) zero = a.made
made_by (a ∷ more) (suc k) = made_by more k

-- the number of entries that all accounts have made together
abbrev pub total_made : {D E : Type 0} → List (Account D E) → ℕ
total_made [] = 0
total_made (a ∷ more) = length a.made + total_made more

-- Each place of the log has one owner, and the k-th account has made exactly the entries at its places, in their order.
-- The log is therefore a merge of the entries of the accounts. No place belongs to an owner that is none of the
-- accounts.
pub record IsMergeOf {D E : Type 0} (entries : List E) (makers : List (Account D E)) : Type 0 where
  pub owners : List ℕ
  pub long : length owners ≡ length entries
  pub parts : (k : ℕ) → owned k 0 owners entries ≡ made_by makers k

-- the log that each account has seen is a beginning of this log
abbrev pub AreBehind : {D E : Type 0} → List (Account D E) → Log D E → Type 0
AreBehind {D = D} {E = E} accounts now = (k : ℕ) (a : Account D E) → get_elem? accounts k ≡ some a → IsBeginning a.seen now
