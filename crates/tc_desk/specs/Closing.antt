-- The conditions for taking a desk out of its lock, and the relation of its channel to the operators that worked at it.
use Rattle.std.specs.Prelude.{◌≡◌, ◌<◌, ◌≤◌, ◌⊎◌, ◌-◌, ◌^◌, ℕ, List, length}
use Rattle.tc_channel.specs.declared.event.Event.{Event}
use Rattle.tc_channel.specs.Journal.{History}
use Rattle.logged_lock.specs.Log.{total_made, IsMergeOf, AreBehind}
use Rattle.tc_desk.specs.Log.{Own, AtLock, accounts_of}

-- the operators have made as many events as the journal has, and the journal has fewer than 2^64 - 1 events
abbrev pub IsBalanced : List Own → List Event → Type 0
IsBalanced makers journal = (total_made makers ≡ length journal) × (length journal < 2 ^ 64 - 1)

-- The operators `makers` can close a desk whose owner has issued `issued` operators. They have made fewer than 2^64 - 1
-- events. Besides, either there are no fewer of them than were issued, or they have made as many events as the journal
-- has.
abbrev pub CanClose : ℕ → List Own → List Event → Type 0
CanClose issued makers journal = (total_made makers < 2 ^ 64 - 1) × ((issued ≤ length makers) ⊎ (total_made makers ≡ length journal))

-- There is a cause of an imbalance. Either there are fewer of these operators than were issued, or they have made at
-- least 2^64 - 1 events.
abbrev pub IsCause : ℕ → List Own → Type 0
IsCause issued makers = (length makers < issued) ⊎ (2 ^ 64 - 1 ≤ total_made makers)

-- The journal of the closed channel is a merge of the events that these operators made, and has as many events as they
-- have made, fewer than 2^64 - 1. The moment that each operator had seen is a beginning of this journal, and has the
-- settings and the board of the desk.
pub record IsClosed (owner : AtLock) (operators : List AtLock) (closed : History) : Type 0 where
  pub settings : closed.settings ≡ owner.own.seen.head.settings
  pub balanced : IsBalanced (accounts_of operators) closed.journal
  pub merge : IsMergeOf closed.journal (accounts_of operators)
  pub seen : AreBehind (accounts_of operators) (record { head = owner.own.seen.head; entries = closed.journal })
