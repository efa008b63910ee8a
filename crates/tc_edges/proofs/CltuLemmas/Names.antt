-- The types, definitions and lemmas from elsewhere that most proofs use, collected in one module.
pub use Rattle.std.proofs.lemmas.Bool.{cases_eq, cases_lt, le-ltb, lt-ltb}
pub use Rattle.std.proofs.lemmas.Bool.Decides.{nat_tests}
pub use Rattle.std.proofs.lemmas.List.{drop_all, take_at}
pub use Rattle.std.proofs.lemmas.Nat.{xor_comm, xor_lt}
pub use Rattle.std.specs.Int.{bit_at}
pub use Rattle.tc_edges.specs.Cltu.Cltu.{code_blocks, filled, start_sequence}
pub use Rattle.tc_edges.specs.Cltu.CodeBlock.{IsInformation, block_remainder, block_with_bit, code_block, errors, flipped, most_errors, parity_of, word}
unfoldable pub use Rattle.tc_edges.specs.Cltu.CodeBlock.{block_times_x, decoded}
pub use Rattle.tc_edges.specs.Cltu.Randomiser.{randomised, randomised_from}
unfoldable pub use Rattle.tc_edges.specs.Cltu.Randomiser.{moved_on, next_bit, octet_on}
pub use Rattle.tc_edges.specs.declared.cltu.block.Mode.{Mode}
pub use Rattle.tc_edges.specs.declared.cltu.block.Mode.TheVariants.{Correct, Detect}
pub use Rattle.tc_edges.specs.declared.cltu.tables.TheConstants.{NEXT_OCTETS, REMAINDERS}
pub use Rattle.tc_edges.proofs.FecfLemmas.Below.{same_below}
pub use Rattle.tc_edges.proofs.FecfLemmas.Changes.{bits-same}
pub use Rattle.tc_edges.proofs.FecfLemmas.Polynomials.{again, exchange, same, scaled, twice}
pub use Rattle.tc_edges.specs.Fecf.Changes.{differences}
pub use Rattle.tc_edges.specs.Fecf.Checksum.{bits_of}
unfoldable pub use Rattle.tc_edges.specs.Fecf.Checksum.{octet_bits}
pub use Rattle.tc_link.specs.Frame.{IsOctets}
pub use lib.Bits.{xor_assoc, xor_self, xor_zero_r}
