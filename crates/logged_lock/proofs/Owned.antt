-- The places of a log that belong to an owner.
use Rattle.std.proofs.Common.{◌≡◌, ◌≢◌, ℕ, zero, suc, ◌+◌, ◌==◌, cond, Bool, true, false, List, [], ◌∷◌, ◌++◌, length, map, refl, sym, ap, ◌∙◌, arith, eq-eqb, ne_eqb}
use Rattle.std.proofs.lemmas.Bool.Decides.{nat_tests}
use mathlib.Core.Logic.{dite}
use native.Mathlib.Decide.{ℕ_discrete}
use Rattle.logged_lock.specs.declared.views.Account.{Account}
use Rattle.logged_lock.specs.Log.{owned, made_by}

-- ---- one step of `owned`
pub owned-own : {E : Type 0} (t at o : ℕ) (os : List ℕ) (e : E) (es : List E) → o ≡ t → owned t at (o ∷ os) (e ∷ es) ≡ (at, e) ∷ owned t (suc at) os es
owned-own t at o os e es same = ap (λ (b : Bool). cond b ((at, e) ∷ owned t (suc at) os es) (owned t (suc at) os es)) (eq-eqb o t same)

pub owned-other : {E : Type 0} (t at o : ℕ) (os : List ℕ) (e : E) (es : List E) → o ≢ t → owned t at (o ∷ os) (e ∷ es) ≡ owned t (suc at) os es
owned-other t at o os e es apart = ap (λ (b : Bool). cond b ((at, e) ∷ owned t (suc at) os es) (owned t (suc at) os es)) (ne_eqb o t apart)

at-end : {A : Type 0} (b : Bool) (x : A) (l : List A) (y : A) → cond b (x ∷ (l ++ y ∷ [])) (l ++ y ∷ []) ≡ cond b (x ∷ l) l ++ y ∷ []
at-end true x l y = refl
at-end false x l y = refl

-- one more place of this owner adds its entry to those of the owner
pub owned-here : {E : Type 0} (t at : ℕ) (os : List ℕ) (es : List E) (e : E) → length os ≡ length es → owned t at (os ++ t ∷ []) (es ++ e ∷ []) ≡ owned t at os es ++ (at + length es, e) ∷ []
owned-here t at [] [] e len = owned-own t at t [] e [] refl ∙ ap (λ (n : ℕ). (n, e) ∷ []) (omega arith)
owned-here t at (o ∷ os) (x ∷ es) e len =
    let more : owned t (suc at) (os ++ t ∷ []) (es ++ e ∷ []) ≡ owned t (suc at) os es ++ (at + length (x ∷ es), e) ∷ [] =
    owned-here t (suc at) os es e (omega arith) ∙ ap (λ (n : ℕ). owned t (suc at) os es ++ (n, e) ∷ []) (omega arith) in
    ap (λ l. cond (o == t) ((at, x) ∷ l) l) more ∙ at-end (o == t) (at, x) (owned t (suc at) os es) (at + length (x ∷ es), e)
owned-here t at _ _ e len = absurd (omega arith)

-- one more place of another owner adds nothing to the places of this owner
pub owned-else : {E : Type 0} (t at o : ℕ) (os : List ℕ) (es : List E) (e : E) → o ≢ t → length os ≡ length es → owned t at (os ++ o ∷ []) (es ++ e ∷ []) ≡ owned t at os es
owned-else t at o [] [] e apart len = owned-other t at o [] e [] apart
owned-else t at o (p ∷ os) (x ∷ es) e apart len = ap (λ l. cond (p == t) ((at, x) ∷ l) l) (owned-else t (suc at) o os es e apart (omega arith))
owned-else t at o _ _ e apart len = absurd (omega arith)

-- the owner `o`, or `b` if `o` is `a`: the owner `a` is renamed to `b`
abbrev pub renamed : ℕ → ℕ → ℕ → ℕ
renamed a b o = cond (o == a) b o

renamed-else : (a b t o : ℕ) → t ≢ a → t ≢ b → (renamed a b o == t) ≡ (o == t)
renamed-else a b t o na nb = grind (arith, nat_tests)

renamed-old : (a b o : ℕ) → a ≢ b → (renamed a b o == a) ≡ false
renamed-old a b o n = grind (arith, nat_tests)

renamed-new : (a b o : ℕ) → o ≢ b → (renamed a b o == b) ≡ (o == a)
renamed-new a b o n = grind (arith, nat_tests)

-- if one owner is renamed to another, a third owner keeps its places
pub owned-renamed : {E : Type 0} (a b t at : ℕ) (os : List ℕ) (es : List E) → t ≢ a → t ≢ b → owned t at (map (renamed a b) os) es ≡ owned t at os es
owned-renamed a b t at (o ∷ os) (e ∷ es) na nb =
    let more = owned-renamed a b t (suc at) os es na nb in
    λ i. cond (renamed-else a b t o na nb i) ((at, e) ∷ more i) (more i)
owned-renamed a b t at _ _ na nb = refl

-- once the owner `a` is renamed, no place belongs to `a`
pub owned-renamed-old : {E : Type 0} (a b at : ℕ) (os : List ℕ) (es : List E) → a ≢ b → owned a at (map (renamed a b) os) es ≡ []
owned-renamed-old a b at (o ∷ os) (e ∷ es) n =
    ap (λ (t : Bool). cond t ((at, e) ∷ owned a (suc at) (map (renamed a b) os) es) (owned a (suc at) (map (renamed a b) os) es)) (renamed-old a b o n) ∙ owned-renamed-old a b (suc at) os es n
owned-renamed-old a b at _ _ n = refl

-- if `b` owned nothing and the owner `a` is renamed to `b`, the places of `a` belong to `b`
pub owned-renamed-new : {E : Type 0} (a b at : ℕ) (os : List ℕ) (es : List E) → owned b at os es ≡ [] → owned b at (map (renamed a b) os) es ≡ owned a at os es
owned-renamed-new a b at (o ∷ os) (e ∷ es) none =
    dite (ℕ_discrete o b)
    (λ (there : o ≡ b). absurd (let some : (at, e) ∷ owned b (suc at) os es ≡ [] = sym (owned-own b at o os e es there) ∙ none in cc))
    (λ (n : o ≢ b).
    let more = owned-renamed-new a b (suc at) os es (sym (owned-other b at o os e es n) ∙ none) in
    λ i. cond (renamed-new a b o n i) ((at, e) ∷ more i) (more i))
owned-renamed-new a b at _ _ none = refl

-- the account that was joined last comes after all others
pub made_by-last : {D E : Type 0} (reported : List (Account D E)) (a : Account D E) → made_by (reported ++ a ∷ []) (length reported) ≡ a.made
made_by-last [] a = refl
made_by-last (x ∷ xs) a = made_by-last xs a

pub made_by-end : {D E : Type 0} (reported : List (Account D E)) → made_by reported (length reported) ≡ []
made_by-end [] = refl
made_by-end (x ∷ xs) = made_by-end xs

pub made_by-else : {D E : Type 0} (reported : List (Account D E)) (a : Account D E) (k : ℕ) → k ≢ length reported → made_by (reported ++ a ∷ []) k ≡ made_by reported k
made_by-else [] a zero n = absurd (n refl)
made_by-else (x ∷ xs) a (suc k) n = made_by-else xs a k (λ e. n (ap suc e))
made_by-else _ a _ n = refl
