use Rattle.tc_sender.proofs.Examined.{last, beyond, after-read, back}
use Rattle.tc_sender.proofs.laws.senders_are_judged_so.Goals as goal

pub returns : goal.returns
returns c = record { last = last; beyond = beyond; read = after-read; back = back }
