use Rattle.tc_edges.proofs.CltuLemmas.Decoding.{cltu-given, cltu-begun, filled-front, filled-fits, some-octets, frames-append}
use Rattle.tc_edges.proofs.cltu.laws.a_cltu_gives_its_frame.Goals as goal

pub returns-clause-given : goal.returns-clause-given
returns-clause-given c = λ mode last frame rest each none. cltu-given mode 1029 last frame rest each (some-octets frame none) (filled-fits frame none)

pub returns-clause-begun : goal.returns-clause-begun
returns-clause-begun c = λ last k frame rest less each none. cltu-begun 1029 last k frame rest less each (some-octets frame none) (filled-fits frame none)

pub returns-clause-fill : goal.returns-clause-fill
returns-clause-fill c = filled-front

pub returns-clause-pieces : goal.returns-clause-pieces
returns-clause-pieces c = λ mode one other state. frames-append mode 1029 one other state
