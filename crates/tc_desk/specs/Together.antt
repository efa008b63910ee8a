-- The conditions for closing desks together, and the relation of their channels to the operators that worked at them.
use Rattle.std.specs.Prelude.{◌≡◌, ◌≤◌, ℕ, List, [], ◌∷◌, length, map, slice_get, slice_index_or, Some, All}
use Rattle.std.specs.List.{AllZip}
use Rattle.tc_desk.specs.{TableId}
use Rattle.tc_channel.specs.Journal.{History}
use Rattle.tc_queues.specs.declared.settings.Settings.{Settings}
use Rattle.logged_lock.specs.Log.{IsBeginning, total_made, IsMergeOf, AreBehind}
use Rattle.logged_lock.specs.Rule.{gone}
use Rattle.tc_desk.specs.Log.{AtLock, AtHand, Identity, nowhere, accounts_of, reported_at}
use Rattle.tc_desk.specs.Closing.{IsBalanced, IsClosed, CanClose, IsCause}
use Rattle.tc_desk.specs.declared.together.Refusal.{Refusal}
use Rattle.tc_desk.specs.declared.together.Refusal.TheVariants.{NoMemory, InUse, Unbalanced}

abbrev pub locks_of : List AtLock → List TableId
locks_of list = map (λ (o : AtLock). o.lock) list

-- the parts of the desks that never change
abbrev pub heads_of : List AtLock → List Identity
heads_of list = map (λ (o : AtLock). o.own.seen.head) list

-- the numbers of operators that the owners have issued
abbrev pub issued_of : List AtLock → List ℕ
issued_of list = map (λ (o : AtLock). o.own.issued) list

-- the lists agree in the locks, the parts of desks that never change, and the numbers of operators that were issued
abbrev pub AreSame : List AtLock → List AtLock → Type 0
AreSame old new = (locks_of new ≡ locks_of old) × (heads_of new ≡ heads_of old) × (issued_of new ≡ issued_of old)

-- each list of operators has an operator at each of these desks, in the order of the desks
abbrev pub AreOurs : List AtLock → List (List AtLock) → Type 0
AreOurs owned_desks operator_lists = All (λ (operator_list : List AtLock). locks_of operator_list ≡ locks_of owned_desks) operator_lists

-- an operator of no desk
abbrev pub nobody : AtLock
nobody = record { lock = nowhere.board; own = (gone nowhere).own }

-- the operators at the desk at this place, one from each list
abbrev pub column : ℕ → List (List AtLock) → List AtLock
column place operator_lists = map (λ (operator_list : List AtLock). slice_index_or operator_list place nobody) operator_lists

-- There are as many channels as desks. The channel at the place of each desk is that desk's channel, closed with the
-- operators there.
pub record AreClosed (owned_desks : List AtLock) (operator_lists : List (List AtLock)) (closed : List History) : Type 0 where
  pub as_many : length closed ≡ length owned_desks
  pub each : (place : ℕ) (owned_desk : AtLock) (channel : History) → slice_get owned_desks place ≡ Some owned_desk → slice_get closed place ≡ Some channel → IsClosed owned_desk (column place operator_lists) channel

abbrev pub owners_of : List AtHand → List AtLock
owners_of list = map (λ (h : AtHand). h.owner) list

-- The desk belongs to its owner, and continues the moment that the owner had seen. Nothing was reported to the owner.
abbrev pub IsFresh : AtHand → Type 0
IsFresh h = (h.reported ≡ []) × IsBeginning h.owner.own.seen h.now × (h.owner.own.seen.head ≡ h.desk.head)

-- The guards are moments of the desks. Each moment continues the moment that the desk's owner has seen.
abbrev pub AreMoments : List AtLock → List AtHand → Type 0
AreMoments owned_desks guard = (owners_of guard ≡ owned_desks) × All IsFresh guard

-- at these moments the operators of each desk had made as many events as its journal had
abbrev pub AreBalanced : List AtHand → List (List AtLock) → Type 0
AreBalanced guard operator_lists = (place : ℕ) (h : AtHand) → slice_get guard place ≡ Some h → IsBalanced (accounts_of (column place operator_lists)) h.now.entries

-- the operators of each desk can close it
abbrev pub CanCloseEach : List AtHand → List (List AtLock) → Type 0
CanCloseEach guard operator_lists = (place : ℕ) (h : AtHand) → slice_get guard place ≡ Some h → CanClose h.owner.own.issued (accounts_of (column place operator_lists)) h.now.entries

-- there is a desk whose operators can't close it
abbrev pub CannotCloseOne : List AtHand → List (List AtLock) → Type 0
CannotCloseOne guard operator_lists = (place : ℕ) × (h : AtHand) × (slice_get guard place ≡ Some h) × ¬ CanClose h.owner.own.issued (accounts_of (column place operator_lists)) h.now.entries

-- one of these desks has a cause of an imbalance
abbrev pub HasCause : List AtLock → List (List AtLock) → Type 0
HasCause owned_desks operator_lists = (place : ℕ) × (owned_desk : AtLock) × (slice_get owned_desks place ≡ Some owned_desk) × IsCause owned_desk.own.issued (accounts_of (column place operator_lists))

-- This can be the reason why the desks weren't closed. If the counts are the reason, there are moments of the desks,
-- one of each desk, at which not all desks were balanced.
abbrev pub IsClosingRefusal : List AtLock → List (List AtLock) → Refusal → Type 0
IsClosingRefusal owned_desks operator_lists NoMemory = Unit {0}
IsClosingRefusal owned_desks operator_lists InUse = Unit {0}
IsClosingRefusal owned_desks operator_lists Unbalanced = (guard : List AtHand) × AreMoments owned_desks guard × ¬ AreBalanced guard operator_lists

-- the desk after one more operator was reported to its owner
abbrev pub reported_one : AtHand → AtLock → AtHand
reported_one h o = reported_at h (o.own ∷ [])

-- the desks after one list of operators was reported to their owners
abbrev pub reported_row : List AtHand → List AtLock → List AtHand
reported_row [] operator_list = []
reported_row (h ∷ hs) [] = h ∷ hs
reported_row (h ∷ hs) (o ∷ os) = reported_one h o ∷ reported_row hs os

-- the desks after these lists of operators were reported to their owners, one after the other
abbrev pub reported_rows : List AtHand → List (List AtLock) → List AtHand
reported_rows guard [] = guard
reported_rows guard (operator_list ∷ operator_lists) = reported_rows (reported_row guard operator_list) operator_lists

-- the channel was taken out of this desk
pub record IsOut (h : AtHand) (closed : History) : Type 0 where
  pub settings : closed.settings ≡ h.owner.own.seen.head.settings
  pub journal : closed.journal ≡ h.now.entries
  pub seen : AreBehind h.reported h.now
  pub merge : total_made h.reported ≡ length h.now.entries → IsMergeOf closed.journal h.reported
  pub whole : h.owner.own.issued ≤ length h.reported → total_made h.reported ≡ length h.now.entries

-- the channels were taken out of these desks
abbrev pub AreOut : List AtHand → List History → Type 0
AreOut guard closed = AllZip IsOut guard closed

-- the settings of the desks
abbrev pub settings_of_desks : List AtLock → List Settings
settings_of_desks owned_desks = map (λ (p : AtLock). p.own.seen.head.settings) owned_desks
