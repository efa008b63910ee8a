use Rattle.tc_c.proofs.Names.{◌≡◌, ◌-◌, ◌≤◌, [], length, take, Decoding, state_after, frames_of, corrected_in, rejected_in, overlong_in}
use Rattle.tc_c.proofs.decoder.take_blocks.Given as goal

abbrev pub invariant-loop-corrections : goal.invariant-loop-corrections
invariant-loop-corrections l = record {
  carried : l.carried ≤ 1029;
  room : length l.frame ≡ length l.fn.frame;
  within : l.taken ≤ length l.octets;
  state : Decoding (take l.carried l.frame) [] ≡ state_after l.mode 1029 (Decoding (take l.before l.fn.frame) []) (take l.taken l.octets);
  none : frames_of l.mode 1029 (Decoding (take l.before l.fn.frame) []) (take l.taken l.octets) ≡ [];
  corrected : l.corrected ≡ corrected_in l.mode 1029 (Decoding (take l.before l.fn.frame) []) (take l.taken l.octets);
  few : l.corrected ≤ l.taken;
  rejected : rejected_in l.mode 1029 (Decoding (take l.before l.fn.frame) []) (take l.taken l.octets) ≡ 0;
  overlong : overlong_in l.mode 1029 (Decoding (take l.before l.fn.frame) []) (take l.taken l.octets) ≡ 0;
}

abbrev pub decreases-loop-corrections : goal.decreases-loop-corrections
decreases-loop-corrections l = length l.octets - l.taken
