use Rattle.std.proofs.Common.{refl}
use Rattle.tc_fixed.specs.Storage.{storage_within}
use Rattle.tc_fixed.proofs.laws.storage_is_counted_so.Goals as goal

pub returns-clause-plain : goal.returns-clause-plain
unfolding storage_within
returns-clause-plain c = refl

pub returns-clause-headed : goal.returns-clause-headed
unfolding storage_within
returns-clause-headed c = refl

pub returns-clause-limited : goal.returns-clause-limited
unfolding storage_within
returns-clause-limited c = refl
