use Rattle.std.proofs.Common.{◌≡◌, drop, length}
use Rattle.tc_edges.specs.Fecf.Checksum.{remainder, bits_of, checksum_of}
use Rattle.tc_edges.proofs.fecf.sum.checksum.Given as goal

abbrev pub invariant-loop-rest : goal.invariant-loop-rest
invariant-loop-rest l = remainder l.sum (bits_of l.rest) ≡ checksum_of l.octets

abbrev pub decreases-loop-rest : goal.decreases-loop-rest
decreases-loop-rest l = length l.rest

abbrev pub invariant-loop-octet : goal.invariant-loop-octet
invariant-loop-octet l = remainder l.sum (bits_of (drop l.octet-index l.octet-items)) ≡ checksum_of l.octets
