use Rattle.tc_edges.proofs.CltuLemmas.Decoding.{found-after, found-after-idle, state-kept, idle-ends, some-octets, filled-fits}
use Rattle.tc_edges.proofs.cltu.laws.the_next_cltu_is_found.Goals as goal

pub returns-clause-quiet : goal.returns-clause-quiet
returns-clause-quiet c = λ mode last before frame rest quietly each none. found-after mode 1029 last before frame rest quietly each (some-octets frame none) (filled-fits frame none)

pub returns-clause-kept : goal.returns-clause-kept
returns-clause-kept c = λ mode octets state short. state-kept mode 1029 octets state short

pub returns-clause-back : goal.returns-clause-back
returns-clause-back c = λ mode state short. idle-ends mode 1029 state short

pub returns-clause-found : goal.returns-clause-found
returns-clause-found c = λ mode state before frame rest short each none. found-after-idle mode 1029 state before frame rest short each (some-octets frame none) (filled-fits frame none)
