use Rattle.std.proofs.Common.{length, ap, ◌∙◌}
use Rattle.tc_packet.proofs.runs.with_rooms.Goals as goal
use Rattle.tc_packet.proofs.runs.with_rooms.Goals.{then-segmented, else-segmented}

pub invariant_of-result : goal.invariant_of-result
invariant_of-result g c =
    elim c.if-segmented.branch [
      | then-segmented w ↦ record { streams = λ on. ap length c.into_boxed_slice-runs.ensures.items ∙ c.in_ok-empty_runs.ensures.count ∙ w.count-is; plain = λ off. absurd (let e = w.if-segmented.true in cc); plain_limit = c.requires.plain }
      | else-segmented w ↦ record { streams = λ on. absurd (let e = w.if-segmented.false in cc); plain = λ off. ap length c.into_boxed_slice-runs.ensures.items ∙ c.in_ok-empty_runs.ensures.count ∙ w.count-is; plain_limit = c.requires.plain }
    ]
