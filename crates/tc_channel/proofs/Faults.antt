-- The fault that settings have, and the faults that they are free of.
use Rattle.tc_channel.proofs.Names.{List, [], ◌∷◌, inl, inr, ◌≡◌, ◌≢◌, ℕ, zero, suc, ◌++◌, take, drop, refl, subst, sym, arith, Settings, IsAllowed, All, AllPairs, AllByRecursion}
use Rattle.tc_queues.specs.declared.settings.SettingsFault.{SettingsFault}
use Rattle.tc_queues.specs.declared.settings.SettingsFault.TheVariants.{BadVcid, BadWindow, BadBuffer, BadApid, DoubleApid, BadCapacity, BadMap, DoubleMap, BadUnits, PlainMap, NoMemory}
use Rattle.tc_queues.specs.Settings.{IsFreeOf, IsFirstFault, IsFault, faults_in_order}

pub free-of-each : (s : Settings) (fault : SettingsFault) → IsAllowed s → IsFreeOf s fault
free-of-each s BadVcid a = a.vcid
free-of-each s BadWindow a = a.width
free-of-each s BadBuffer a = a.buffer
free-of-each s BadApid a = a.apids
free-of-each s DoubleApid a = a.apart
free-of-each s BadCapacity a = a.capacities
free-of-each s BadMap a = a.maps
free-of-each s DoubleMap a = a.maps_apart
free-of-each s BadUnits a = a.unit_capacities
free-of-each s PlainMap a = a.by_headers
free-of-each s NoMemory a = tt

none-first : (s : Settings) (faults : List SettingsFault) (fault : SettingsFault) → IsAllowed s → IsFirstFault s faults fault → ⊥
none-first s [] fault a h = h
none-first s (next ∷ later) fault a (inl (is, has)) = has (free-of-each s next a)
none-first s (next ∷ later) fault a (inr (free, h)) = none-first s later fault a h

pub no-fault : (s : Settings) (fault : SettingsFault) → IsAllowed s → IsFault s fault → ⊥
unfolding IsFault
no-fault s fault = none-first s faults_in_order fault

-- ---- the fault that settings have, with facts about lists of two items and about the faults that come before it
pub both : {A : Type 0} (P : A → Type 0) (one other : A) → P one → P other → All P (one ∷ other ∷ [])
both P one other p q zero d inside = p
both P one other p q (suc zero) d inside = q
both P one other p q (suc (suc k)) d inside = absurd (omega arith)

pub first-not : {A : Type 0} (P : A → Type 0) (one : A) (others : List A) → ¬ P one → ¬ All P (one ∷ others)
first-not P one others not_it all = not_it (all 0 one (omega arith))

pub two-apart : {A : Type 0} (key : A → ℕ) (one other : A) → key one ≢ key other → AllPairs (λ p q. key p ≢ key q) (one ∷ other ∷ [])
two-apart key one other ne zero (suc zero) d before inside = ne
two-apart key one other ne (suc i) zero d before inside = absurd (omega arith)
two-apart key one other ne (suc i) (suc zero) d before inside = absurd (omega arith)
two-apart key one other ne _ _ d before inside = absurd (omega arith)

pub not-two-apart : {A : Type 0} (key : A → ℕ) (one other : A) → key one ≡ key other → ¬ AllPairs (λ p q. key p ≢ key q) (one ∷ other ∷ [])
not-two-apart key one other same apart = apart 0 1 one (omega arith) (omega arith) same

-- if settings have a fault and are free of those listed before it, it is their first fault
pub first-of : (s : Settings) (before later : List SettingsFault) (fault : SettingsFault) → AllByRecursion (IsFreeOf s) before → ¬ IsFreeOf s fault → IsFirstFault s (before ++ fault ∷ later) fault
first-of s [] later fault free has = inl (refl, has)
first-of s (b ∷ before) later fault free has = inr (free.0, first-of s before later fault free.1 has)

-- if settings have the fault at place `n` of the list and are free of those listed before it, it is their fault
pub is-fault : (s : Settings) (n : ℕ) (fault : SettingsFault) → AllByRecursion (IsFreeOf s) (take n faults_in_order) → ¬ IsFreeOf s fault → faults_in_order ≡ take n faults_in_order ++ fault ∷ drop (suc n) faults_in_order → IsFault s fault
unfolding IsFault
is-fault s n fault free has at = subst (λ faults. IsFirstFault s faults fault) (sym at) (first-of s (take n faults_in_order) (drop (suc n) faults_in_order) fault free has)
