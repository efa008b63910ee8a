use Rattle.std.proofs.lemmas.Result.{on_ok_weaker}
use Rattle.tc_rack.proofs.Delivered.{all-handed-on}
use Rattle.tc_rack.proofs.delivery.hand_on.Goals as goal

pub returns-clause-reported : goal.returns-clause-reported
returns-clause-reported g c =
    on_ok_weaker c.write_answer.result
    (λ written. all-handed-on _ _ _ _ _ _ _ _ c.empty_packet_queues.ensures.settings c.in_ok-empty_packet_queues.ensures.reported c.in_ok-empty_unit_queues.ensures.reported c.clcw-word.ensures written)
    c.write_answer.ensures
