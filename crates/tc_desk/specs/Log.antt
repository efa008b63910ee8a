-- The log of a desk behind its lock, and the accounts that operators have of it.
use Rattle.std.specs.Prelude.{◌≡◌, ℕ, suc, ◌-◌, ◌^◌, min, List, [], ◌∷◌, ◌++◌, length, map, true, false, Option, Some, None}
use Rattle.atomic_table.specs.Seated.{TableId}
use Rattle.tc_queues.specs.declared.settings.Settings.{Settings}
use Rattle.tc_channel.specs.declared.event.Event.{Event}
use Rattle.tc_channel.specs.Journal.{History}
use Rattle.tc_status.specs.Board.{no_history}
use Rattle.logged_lock.specs.declared.views.Log.{Log}
use Rattle.logged_lock.specs.declared.views.Account.{Account}
use Rattle.logged_lock.specs.declared.views.View.{View}
use Rattle.logged_lock.specs.Log.{start_of}
use Rattle.logged_lock.specs.Rule.{LockAt, gone}
use Rattle.tc_status.specs.Desk.{AtDesk}

-- the parts of a desk that never change: the settings of its channel, and the board on which the channel is published
pub record Identity : Type 0 where
  pub settings : Settings
  pub board : TableId

-- a desk at some moment: its parts that never change, and the journal of its channel
abbrev pub Moment : Type 0
Moment = Log Identity Event

-- the account of an operator or owner: the moment of the desk that it has seen, the events that it has made, each with
-- its place in the journal, and the number of operators that it has issued
abbrev pub Own : Type 0
Own = Account Identity Event

abbrev pub Sight : Type 0
Sight = View Identity Event

-- the settings and the journal of a moment
abbrev pub history_of : Moment → History
history_of m = record { settings = m.head.settings; journal = m.entries }

-- an identity that stands for no desk
abbrev pub nowhere : Identity
nowhere = record {
  settings = no_history.settings;
  board = record { words = 0; slots = 0; views_name = 0; atom = 0; block = 0; offset = 0; slot_names = [] };
}

abbrev pub identity_of : AtDesk → Identity
identity_of d = record { settings = d.channel.settings; board = d.board }

-- the moment of a desk at present: its identity, and its channel's journal
abbrev pub moment_of : AtDesk → Moment
moment_of d = record { head = identity_of d; entries = d.channel.journal }

-- the moment of the desk under the lock, or an empty one if the desk was taken out
abbrev pub desk_log : Option AtDesk → Moment
desk_log None = start_of nowhere
desk_log (Some d) = moment_of d

-- the lock of an operator or owner, and its account there
pub record AtLock : Type 0 where
  pub lock : TableId
  pub own : Own

-- an owner after it has issued one more operator
abbrev pub with_one_issued : AtLock → AtLock
with_one_issued k = record { lock = k.lock; own = record { seen = k.own.seen; made = k.own.made; issued = suc k.own.issued } }

abbrev pub view_in : List Sight → Sight
view_in [] = gone nowhere
view_in (v ∷ vs) = v

abbrev pub at_lock : TableId → List Sight → AtLock
at_lock lock views = record { lock = lock; own = (view_in views).own }

-- the seat has only one view, which is live, and it doesn't have the lock
pub record IsResting (views : List Sight) : Type 0 where
  pub one : views ≡ view_in views ∷ []
  pub live : (view_in views).live ≡ true
  pub locks : (view_in views).locks ≡ false

-- the number of events that were made, or 2^64 - 1 if there are more
abbrev pub count_of : Own → ℕ
count_of own = min (length own.made) (2 ^ 64 - 1)

-- the number of operators that were issued, or 2^128 - 1 if there are more
abbrev pub issued_count : Own → ℕ
issued_count own = min own.issued (2 ^ 128 - 1)

abbrev pub accounts_of : List AtLock → List Own
accounts_of operators = map (λ (o : AtLock). o.own) operators

-- a desk whose owner has its lock: the lock, the owner before it took the lock, the moment of the desk now, and the
-- accounts of operators that were reported to the owner
pub record AtHand : Type 0 where
  pub desk : LockAt Identity
  pub owner : AtLock
  pub now : Moment
  pub reported : List Own

-- the desk after these further accounts were reported to its owner
abbrev pub reported_at : AtHand → List Own → AtHand
reported_at h accounts = record { desk = h.desk; owner = h.owner; now = h.now; reported = h.reported ++ accounts }
