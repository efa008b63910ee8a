-- The session that is at a place or in a seat is lent.
use Rattle.std.specs.Prelude.{◌≡◌, Option, Some, OnSome}
use Rattle.std.specs.Borrow.{Lends, LendsSo, MutBor, Fml}
use Rattle.tc_session.specs.declared.session.Session.{Session as SessionValue}
use Rattle.tc_c_lines.specs.Place.{session_row}
use Rattle.tc_c_lines.specs.declared.place.Place.{Place}
use Rattle.tc_c_lines.specs.contracts.place.Place.{the_row as place_row}
use Rattle.tc_c_lines.specs.declared.seat.Seat.{Seat}
use Rattle.tc_c_lines.specs.contracts.seat.Seat.{the_row as seat_row}

abbrev pub with_session : Place → SessionValue → Place
with_session place session = record place { session = Some session }

-- once the borrow ends, the place has the session that the borrow left
abbrev pub LendsOfPlace : MutBor Place → MutBor SessionValue → Fml
LendsOfPlace place session = Lends place_row session_row place session (with_session place.now)

-- once the borrow ends, the seat holds the session that the borrow left, or, if none was lent, it is as it was
abbrev pub LendsOfSeat : MutBor Seat → Option (MutBor SessionValue) → Fml
LendsOfSeat seat lent =
    LendsSo seat_row session_row seat lent (λ left session. OnSome lent (left.place.session ≡ Some session))
    (λ left. left.place.session ≡ seat.now.place.session)
