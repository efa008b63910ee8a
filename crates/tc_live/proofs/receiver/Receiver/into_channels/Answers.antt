use Rattle.tc_live.proofs.Names.{inr, refl, rules, IsNonDecreasingBy-from_sort_by_key}
use Rattle.tc_rack.specs.Report.{vcid_of}
use Rattle.tc_live.proofs.Ending.{is-number-unreported}
use Rattle.tc_live.proofs.receiver.Receiver.into_channels.Goals as goal

pub returns-then-are_reported-clause-ordered : goal.returns-then-are_reported-clause-ordered
returns-then-are_reported-clause-ordered c =
    IsNonDecreasingBy-from_sort_by_key vcid_of _ c.sort_unstable_by_key.ensures.sorted (λ a r q k. search rules)

pub returns-else-are_reported-clause-fault : goal.returns-else-are_reported-clause-fault
returns-else-are_reported-clause-fault c =
    inr (inr (refl, is-number-unreported c.args.self _ _ _ _ c.are_reported.ensures c.if-are_reported.false c.deref.ensures.value c.sort_unstable_by_key.ensures.permutation (search rules)))
