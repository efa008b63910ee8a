use Rattle.tc_c.proofs.Names.{◌≡◌, ◌-◌, ◌<◌, ◌≤◌, [], length, take, state_after, frames_of, corrected_in, rejected_in, overlong_in, reception_of}
use Rattle.tc_c.proofs.decoder.take_octets.Given as goal

abbrev pub invariant-loop-taken : goal.invariant-loop-taken
invariant-loop-taken l = record {
  correct : l.now.correct ≡ l.fn.decoder.correct;
  count : l.now.count < 8;
  carried : l.now.carried ≤ 1029;
  decoding : l.now.decoding < 2;
  room : length l.frame ≡ length l.fn.frame;
  within : l.taken ≤ length l.octets;
  state : reception_of l.now l.frame ≡ state_after l.fn.mode 1029 (reception_of l.fn.decoder l.fn.frame) (take l.taken l.octets);
  none : frames_of l.fn.mode 1029 (reception_of l.fn.decoder l.fn.frame) (take l.taken l.octets) ≡ [];
  corrected : l.counts.corrected ≡ corrected_in l.fn.mode 1029 (reception_of l.fn.decoder l.fn.frame) (take l.taken l.octets);
  corrected_within : l.counts.corrected ≤ l.taken;
  rejected : l.counts.rejected ≡ rejected_in l.fn.mode 1029 (reception_of l.fn.decoder l.fn.frame) (take l.taken l.octets);
  rejected_within : l.counts.rejected ≤ l.taken;
  overlong : l.counts.overlong ≡ overlong_in l.fn.mode 1029 (reception_of l.fn.decoder l.fn.frame) (take l.taken l.octets);
  overlong_within : l.counts.overlong ≤ l.taken;
}

abbrev pub decreases-loop-taken : goal.decreases-loop-taken
decreases-loop-taken l = length l.octets - l.taken
