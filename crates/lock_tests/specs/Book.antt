-- The log of a book of numbers, and the seats at its lock.
use Rattle.std.specs.Prelude.{◌≡◌, ⊤, ℕ, true}
use Rattle.atomic_table.specs.declared.shared.Seat.{Seat}
use Rattle.logged_lock.specs.declared.views.Log.{Log}
use Rattle.logged_lock.specs.declared.views.View.{View}
use Rattle.logged_lock.specs.Rule.{LockAt, IsIdle}
use Rattle.lock_tests.specs.declared.book.Title.{Title}
use Rattle.lock_tests.specs.declared.book.Book.{Book}

-- the title of a log that isn't the log of a book
abbrev pub untitled : Title
untitled = record { number = 0 }

-- the log of a book: its title, and the numbers so far
abbrev pub log_of : Book → Log Title ℕ
log_of b = record { head = record { number = b.title }; entries = b.numbers.items }

abbrev pub IsAny : Book → Type 0
IsAny b = ⊤

-- the seat is at this lock, and doesn't hold it
abbrev pub IsAtRest : LockAt Title → Seat Book (View Title ℕ) → Type 0
IsAtRest lock seat = (seat.table_id ≡ lock.id) × IsIdle seat.me

-- the seat is at this lock, doesn't hold it, and may write numbers
abbrev pub IsWriter : LockAt Title → Seat Book (View Title ℕ) → Type 0
IsWriter lock seat = IsAtRest lock seat × (seat.me.0.maker ≡ true)
