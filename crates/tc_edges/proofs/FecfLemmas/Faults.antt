-- Octets have no fault exactly when they are one frame.
use Rattle.std.proofs.Common.{◌≡◌, ℕ, ◌↔◌, List, None, arith}
use Rattle.std.proofs.lemmas.Bool.Decides.{nat_tests}
use Rattle.tc_link.specs.Frame.{IsOctets, IsWhole}
use Rattle.tc_edges.specs.Fecf.FrameWithField.{frame_fault_of}

whole-of : (octets : List ℕ) → IsOctets octets → frame_fault_of octets ≡ None → IsWhole octets
whole-of octets each none = record {
  each = each;
  least = grind (arith, nat_tests);
  most = grind (arith, nat_tests);
  version = grind (arith, nat_tests);
  spare = grind (arith, nat_tests);
  named = grind (arith, nat_tests);
}

pub none-of : (octets : List ℕ) → IsWhole octets → frame_fault_of octets ≡ None
none-of octets w = let least = w.least in let most = w.most in let version = w.version in let spare = w.spare in let named = w.named in grind (arith, nat_tests)

pub frame-fault : (octets : List ℕ) → IsOctets octets → (frame_fault_of octets ≡ None) ↔ IsWhole octets
frame-fault octets each = (whole-of octets each, none-of octets)
