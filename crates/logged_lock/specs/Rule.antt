-- The rule of a lock: there is one log of the protected data, and each of its entries belongs to the seat that made it.
use Rattle.std.specs.Prelude.{◌≡◌, ℕ, suc, ◌+◌, ◌<◌, ◌≤◌, true, false, List, [], ◌∷◌, ◌++◌, length, ◌⊎◌, if◌then◌else◌}
use mathlib.Core.Option.{Option, some, none}
use lib.ListN.{get_elem?}
use Rattle.atomic_table.specs.Table.{Me}
use Rattle.atomic_table.specs.Seated.{TableId}
use Rattle.logged_lock.specs.declared.views.Log.{Log}
use Rattle.logged_lock.specs.declared.views.Account.{Account}
use Rattle.logged_lock.specs.declared.views.View.{View}
use Rattle.logged_lock.specs.Log.{with_entry, IsBeginning, owned, made_by, AreBehind}

-- the identity of a lock, and the head of the log of the protected data, which never changes
pub record LockAt (D : Type 0) : Type 0 where
  pub id : TableId
  pub head : D

-- The words of a lock, with `n` as its own word. The words around it are never used.
abbrev pub words_of : ℕ → List ℕ
words_of n = 0 ∷ 0 ∷ 0 ∷ 0 ∷ 0 ∷ 0 ∷ 0 ∷ 0 ∷ 0 ∷ 0 ∷ 0 ∷ 0 ∷ 0 ∷ 0 ∷ 0 ∷ 0 ∷ n ∷ 0 ∷ 0 ∷ 0 ∷ 0 ∷ 0 ∷ 0 ∷ 0 ∷ 0 ∷ 0 ∷ 0 ∷ 0 ∷ 0 ∷ 0 ∷ 0 ∷ 0 ∷ 0 ∷ []

-- The tags of owners. `seat_tag` is the tag of a seat, and `reported_tag` is the tag of the `k`-th seat that was joined
-- to the first one.
abbrev pub seat_tag : ℕ → ℕ
seat_tag id = id + id

abbrev pub reported_tag : ℕ → ℕ
reported_tag k = suc (k + k)

-- the view of a seat that has seen this log, and has made nothing
abbrev pub newcomer : {D E : Type 0} → Log D E → View D E
newcomer l = record { live = true; locks = false; maker = true; own = record { seen = l; made = []; issued = 0 }; reported = [] }

-- the view of a seat that has seen this log, and from which no entry can be made
abbrev pub guest : {D E : Type 0} → Log D E → View D E
guest l = record { live = true; locks = false; maker = false; own = record { seen = l; made = []; issued = 0 }; reported = [] }

-- the view of a seat after one more seat was issued from it
abbrev pub issued_one : {D E : Type 0} → View D E → View D E
issued_one v = record { live = v.live; locks = v.locks; maker = v.maker; own = record { seen = v.own.seen; made = v.own.made; issued = suc v.own.issued }; reported = v.reported }

-- the view that remains of a seat after it was joined to the first one
abbrev pub gone : {D E : Type 0} → D → View D E
gone d = record { live = false; locks = false; maker = false; own = record { seen = record { head = d; entries = [] }; made = []; issued = 0 }; reported = [] }

-- the view of the first seat after another seat has reported to it
abbrev pub reported_of : {D E : Type 0} → View D E → View D E → View D E
reported_of v w = record { live = v.live; locks = v.locks; maker = v.maker; own = v.own; reported = v.reported ++ w.own ∷ [] }

-- the view of a seat that has the lock, and has seen this log
abbrev pub locked : {D E : Type 0} → Log D E → View D E → View D E
locked l v = record { live = true; locks = true; maker = v.maker; own = record { seen = l; made = v.own.made; issued = v.own.issued }; reported = v.reported }

-- the view of a seat after it has released the lock without an entry
abbrev pub unlocked : {D E : Type 0} → View D E → View D E
unlocked v = record { live = true; locks = false; maker = v.maker; own = v.own; reported = v.reported }

-- The view of a seat after it has released the lock with an entry of its own. The entry follows all entries that the
-- seat had seen.
abbrev pub unlocked_with : {D E : Type 0} → E → View D E → View D E
unlocked_with e v = record {
  live = true;
  locks = false;
  maker = v.maker;
  own = record { seen = with_entry v.own.seen e; made = v.own.made ++ (length v.own.seen.entries, e) ∷ []; issued = v.own.issued };
  reported = v.reported;
}

-- The seat owns exactly the entries of the log that it has made. If the seat is live, the log begins with the log that
-- the seat has seen. A seat that has the lock has seen all of the log. Only makers have made anything.
pub record IsSeat {D E : Type 0} (now : Log D E) (owners : List ℕ) (holder : Option ℕ) (id : ℕ) (v : View D E) : Type 0 where
  pub mine : owned (seat_tag id) 0 owners now.entries ≡ v.own.made
  pub behind : v.live ≡ true → IsBeginning v.own.seen now
  pub locks : v.locks ≡ true → (holder ≡ some id) × (v.own.seen ≡ now)
  pub quiet : v.maker ≡ false → v.own.made ≡ []

-- each seat that was joined to the first one owns exactly its entries of the log, and has seen a beginning of the log
abbrev pub AreReported : {D E : Type 0} → Log D E → List ℕ → List (Account D E) → Type 0
AreReported now owners reported = ((k : ℕ) → owned (reported_tag k) 0 owners now.entries ≡ made_by reported k) × AreBehind reported now

-- the number of makers among these seats
abbrev pub makers_in : {D E : Type 0} → List (View D E) → ℕ
makers_in [] = 0
makers_in (v ∷ vs) = (if v.maker then 1 else 0) + makers_in vs

-- The first seat is a maker. There are as many other makers as seats that the first one issued and that haven't
-- reported to it.
pub record AreCounted {D E : Type 0} (views : List (View D E)) (first : View D E) : Type 0 where
  pub lead : first.maker ≡ true
  pub many : makers_in views + length first.reported ≡ suc first.own.issued

-- the lock is free: the protected data is in its slot, and the log of this data is `now`
pub record IsFree {S D E : Type 0} (log : S → Log D E) (fits : S → Type 0) (words : List ℕ) (homes : List (Option S)) (now : Log D E) (holder : Option ℕ) : Type 0 where
  pub kept : S
  pub mark : ℕ
  pub small : mark < 2
  pub word : words ≡ words_of mark
  pub home : homes ≡ some kept ∷ []
  pub fitting : fits kept
  pub same : log kept ≡ now
  pub nobody : holder ≡ none

-- the lock is taken, and the protected data is with the seat that has the lock
pub record IsTakenOut {S : Type 0} (words : List ℕ) (homes : List (Option S)) : Type 0 where
  pub mark : ℕ
  pub word : words ≡ words_of (suc (suc mark))
  pub away : homes ≡ none ∷ []

-- the facts that hold at every moment of a lock over a log with this head
pub record IsLock {S D E : Type 0} (log : S → Log D E) (fits : S → Type 0) (head : D) (words : List ℕ) (homes : List (Option S)) (views : List (View D E)) : Type 0 where
  pub now : Log D E
  pub headed : now.head ≡ head
  pub owners : List ℕ
  pub long : length owners ≡ length now.entries
  pub holder : Option ℕ
  pub seats : (id : ℕ) (v : View D E) → get_elem? views id ≡ some v → IsSeat now owners holder id v
  pub others : (id : ℕ) → length views ≤ id → owned (seat_tag id) 0 owners now.entries ≡ []
  pub first : View D E
  pub at_first : get_elem? views 0 ≡ some first
  pub reported : AreReported now owners first.reported
  pub counted : AreCounted views first
  pub lock : IsFree log fits words homes now holder ⊎ IsTakenOut words homes

-- the seat is live, and has neither the lock nor the protected data
pub record IsIdle {S D E : Type 0} (me : Me S (View D E)) : Type 0 where
  pub live : me.0.live ≡ true
  pub locks : me.0.locks ≡ false
  pub hands : me.1 ≡ []

-- the seat has the lock, and with it the protected data, and the log of this data is `l`
pub record HasLock {S D E : Type 0} (log : S → Log D E) (fits : S → Type 0) (me : Me S (View D E)) (l : Log D E) : Type 0 where
  pub kept : S
  pub live : me.0.live ≡ true
  pub locks : me.0.locks ≡ true
  pub hands : me.1 ≡ (0, kept) ∷ []
  pub fitting : fits kept
  pub same : log kept ≡ l

-- The seat took the lock, and with it the protected data. The log of this data continues the log that the seat had
-- seen.
pub record IsTaken {S D E : Type 0} (log : S → Log D E) (fits : S → Type 0) (before after : Me S (View D E)) : Type 0 where
  pub kept : S
  pub me : after ≡ (locked (log kept) before.0, (0, kept) ∷ [])
  pub fitting : fits kept
  pub later : IsBeginning before.0.own.seen (log kept)

-- no seat owns an entry of the log
abbrev pub NoSeatOwns : {D E : Type 0} → Log D E → List ℕ → Type 0
NoSeatOwns now owners = (id : ℕ) → owned (seat_tag id) 0 owners now.entries ≡ []

-- The log that was seen consists of the entries of the seats that were joined to the first one, and of the entries of
-- other seats. The other seats have made no entry if all seats that the first one issued were joined to it, and the
-- first one has made no entry.
abbrev pub IsAccountedFor : {D E : Type 0} → View D E → Type 0
IsAccountedFor v = (owners : List ℕ) × (length owners ≡ length v.own.seen.entries) × AreReported v.own.seen owners v.reported
    × (v.own.made ≡ [] → v.own.issued ≤ length v.reported → NoSeatOwns v.own.seen owners)
