-- The types, definitions and lemmas from elsewhere that most proofs use, collected in one module.
pub use Rattle.std.proofs.lemmas.Nat.{xor_comm, xor_lt, xor_shr}
pub use Rattle.tc_edges.specs.Fecf.Changes.{Passes, SameBits, SameOctets}
pub use Rattle.tc_edges.specs.Fecf.Checksum.{bits_of, checksum_of, remainder, with_bit}
unfoldable pub use Rattle.tc_edges.specs.Fecf.Checksum.{octet_bits, times_x}
pub use Rattle.tc_link.specs.Bits.{bits}
pub use Rattle.tc_link.specs.Frame.{IsOctets}
pub use lib.Bits.{xor_assoc, xor_self, xor_shifted, xor_zero_l, xor_zero_r}
