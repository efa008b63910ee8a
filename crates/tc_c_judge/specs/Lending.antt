-- The judge that is at a place or in a seat is lent.
use Rattle.std.specs.Prelude.{◌≡◌, Option, Some, OnSome}
use Rattle.std.specs.Borrow.{Lends, LendsSo, MutBor, Fml}
use Rattle.tc_c_judge.specs.declared.held.HeldJudge.{HeldJudge as HeldValue}
use Rattle.tc_c_judge.specs.declared.held.HeldJudge.TheVariants.{Receiver, Sender}
use Rattle.tc_c_judge.specs.declared.held.ReceiverJudge.{ReceiverJudge as ReceiverValue}
use Rattle.tc_c_judge.specs.contracts.held.ReceiverJudge.{the_row as receiver_row}
use Rattle.tc_sender.specs.Account.{SenderKnowledge}
use Rattle.tc_sender.specs.contracts.judge.SenderJudge.{the_row as sender_row}
use Rattle.tc_c_judge.specs.Place.{judge_row}
use Rattle.tc_c_judge.specs.declared.place.Place.{Place}
use Rattle.tc_c_judge.specs.contracts.place.Place.{the_row as place_row}
use Rattle.tc_c_judge.specs.declared.seat.Seat.{Seat}
use Rattle.tc_c_judge.specs.contracts.seat.Seat.{the_row as seat_row}

abbrev pub with_judge : Place → HeldValue → Place
with_judge place judge = record place { judge = Some judge }

-- once the borrow ends, the place has the judge that the borrow left
abbrev pub LendsPlace : MutBor Place → MutBor HeldValue → Fml
LendsPlace place judge = Lends place_row judge_row place judge (with_judge place.now)

-- Once the borrow ends, the seat holds the judge of a receiver that the borrow left. If none was lent, the seat is as it
-- was.
abbrev pub LendsReceiver : MutBor Seat → Option (MutBor ReceiverValue) → Fml
LendsReceiver seat lent =
    LendsSo seat_row receiver_row seat lent (λ left judge. OnSome lent (left.place.judge ≡ Some (Receiver judge)))
    (λ left. left.place.judge ≡ seat.now.place.judge)

-- Once the borrow ends, the seat holds the judge of a sender that the borrow left. If none was lent, the seat is as it
-- was.
abbrev pub LendsSender : MutBor Seat → Option (MutBor SenderKnowledge) → Fml
LendsSender seat lent =
    LendsSo seat_row sender_row seat lent (λ left judge. OnSome lent (left.place.judge ≡ Some (Sender judge)))
    (λ left. left.place.judge ≡ seat.now.place.judge)
