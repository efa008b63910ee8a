use Rattle.tc_fixed.proofs.ByMap.{below-largest, listed-limit, others-limit}
use Rattle.tc_fixed.proofs.laws.a_listed_map_has_its_own_limit.Goals as goal

pub returns-clause-listed : goal.returns-clause-listed
returns-clause-listed c = listed-limit

pub returns-clause-others : goal.returns-clause-others
returns-clause-others c = λ limits map_id none. others-limit limits.maps limits.others map_id none

pub returns-clause-largest : goal.returns-clause-largest
returns-clause-largest c = below-largest
