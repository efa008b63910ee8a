use Rattle.std.proofs.Common.{◌≡◌, ℕ, ◌++◌, List, length, map}
use Rattle.tc_edges.specs.Cltu.Reception.{IsTaken}
use Rattle.tc_edges.proofs.cltu.decoder.Decoder.feed.Given as goal

abbrev pub invariant-loop-fed : goal.invariant-loop-fed
invariant-loop-fed l = record {
  mode : l.self.mode ≡ l.fn.self.mode;
  taken : (given : List (List ℕ)) × IsTaken 1029 l.fn.self l.self l.piece l.rest given × (map (λ frame. frame.items) l.frames.items ≡ map (λ frame. frame.items) l.fn.frames.items ++ given);
}

abbrev pub decreases-loop-fed : goal.decreases-loop-fed
decreases-loop-fed l = length l.rest
