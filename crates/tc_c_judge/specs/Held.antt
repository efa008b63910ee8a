-- The judge that a seat holds, by its kind.
use Rattle.std.specs.Prelude.{Option, Some, None}
use Rattle.tc_c_judge.specs.declared.held.HeldJudge.{HeldJudge as HeldValue}
use Rattle.tc_c_judge.specs.declared.held.HeldJudge.TheVariants.{Receiver, Sender}
use Rattle.tc_c_judge.specs.declared.held.ReceiverJudge.{ReceiverJudge as ReceiverValue}
use Rattle.tc_sender.specs.Account.{SenderKnowledge}

-- the judge of a receiver, if one is held
abbrev pub receiver_in : Option HeldValue → Option ReceiverValue
receiver_in (Some (Receiver judge)) = Some judge
receiver_in (Some (Sender judge)) = None
receiver_in None = None

-- the judge of a sender, if one is held
abbrev pub sender_in : Option HeldValue → Option SenderKnowledge
sender_in (Some (Receiver judge)) = None
sender_in (Some (Sender judge)) = Some judge
sender_in None = None
