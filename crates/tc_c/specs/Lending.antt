-- The channel that is at a place or in a seat is lent.
use Rattle.std.specs.Prelude.{◌≡◌, Option, Some, OnSome}
use Rattle.std.specs.Borrow.{Lends, LendsSo, MutBor, Fml}
use Rattle.tc_fixed.specs.History.{LimitedHistory}
use Rattle.tc_c.specs.Place.{channel_row}
use Rattle.tc_c.specs.declared.place.Place.{Place}
use Rattle.tc_c.specs.contracts.place.Place.{the_row as place_row}
use Rattle.tc_c.specs.declared.seat.Seat.{Seat}
use Rattle.tc_c.specs.contracts.seat.Seat.{the_row as seat_row}

abbrev pub with_channel : Place → LimitedHistory → Place
with_channel place channel = record place { channel = Some channel }

-- once the borrow ends, the place has the channel that the borrow left
abbrev pub LendsOfPlace : MutBor Place → MutBor LimitedHistory → Fml
LendsOfPlace place channel = Lends place_row channel_row place channel (with_channel place.now)

-- once the borrow ends, the seat holds the channel that the borrow left, or, if none was lent, it is as it was
abbrev pub LendsOfSeat : MutBor Seat → Option (MutBor LimitedHistory) → Fml
LendsOfSeat seat lent =
    LendsSo seat_row channel_row seat lent (λ left channel. OnSome lent (left.place.channel ≡ Some channel))
    (λ left. left.place.channel ≡ seat.now.place.channel)
