use Rattle.std.proofs.Common.{◌≡◌, ◌+◌, ◌≤◌, length}
use Rattle.tc_edges.specs.Cltu.Reception.{state_after, corrected_in, rejected_in, overlong_in}
use Rattle.tc_make.proofs.Fed.{IsSoFar}
use Rattle.tc_make.proofs.decoders.write_fed.Given as goal

abbrev pub invariant-loop-fed : goal.invariant-loop-fed
invariant-loop-fed g l = record {
  mode : l.decoder.mode ≡ l.initial.decoder.mode;
  state : state_after l.initial.decoder.mode 1029 l.decoder.state l.rest ≡ state_after l.initial.decoder.mode 1029 l.initial.decoder.state l.octets;
  text : IsSoFar l.initial.decoder.mode l.rest l.octets l.initial.decoder.state l.decoder.state (g.W.Write.contents l.initial.writer) (g.W.Write.contents l.writer);
  corrected : l.counts.corrected + corrected_in l.initial.decoder.mode 1029 l.decoder.state l.rest ≡ corrected_in l.initial.decoder.mode 1029 l.initial.decoder.state l.octets;
  corrected_within : l.counts.corrected + length l.rest ≤ length l.octets;
  rejected : l.counts.rejected + rejected_in l.initial.decoder.mode 1029 l.decoder.state l.rest ≡ rejected_in l.initial.decoder.mode 1029 l.initial.decoder.state l.octets;
  rejected_within : l.counts.rejected + length l.rest ≤ length l.octets;
  overlong : l.counts.overlong + overlong_in l.initial.decoder.mode 1029 l.decoder.state l.rest ≡ overlong_in l.initial.decoder.mode 1029 l.initial.decoder.state l.octets;
  overlong_within : l.counts.overlong + length l.rest ≤ length l.octets;
}

abbrev pub decreases-loop-fed : goal.decreases-loop-fed
decreases-loop-fed g l = length l.rest
