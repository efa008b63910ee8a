-- The communications link control word (CCSDS 232.0-B, 4.2).
use Rattle.std.specs.Prelude.{◌≡◌, ℕ, ◌==◌, [], ◌∷◌}
use Rattle.tc_link.specs.Bits.{bit, bits, joined}
use Rattle.tc_link.specs.declared.farm.Report.{Report}
use Rattle.tc_link.specs.declared.clcw.Link.{Link}
use Rattle.tc_link.specs.declared.clcw.ClcwFields.{ClcwFields}

-- the CLCW: its type, version, status, COP in effect, virtual channel, spare, No RF Available, No Bit Lock, Lockout,
-- Wait, Retransmit, FARM-B counter, spare and report value, each with its number of bits
abbrev pub word_of : Report → ℕ → Link → ℕ
word_of r vcid link = joined (
    (1, 0) ∷ (2, 0) ∷ (3, 0) ∷ (2, 1) ∷ (6, vcid) ∷ (2, 0)
    ∷ (1, bit link.no_rf) ∷ (1, bit link.no_bit_lock) ∷ (1, bit r.lockout) ∷ (1, bit r.wait) ∷ (1, bit r.retransmit)
    ∷ (2, r.farm_b) ∷ (1, 0) ∷ (8, r.vr) ∷ [])

-- the word is a CLCW of COP-1
pub record IsClcw (word : ℕ) : Type 0 where
  pub kind : bits word 31 1 ≡ 0
  pub version : bits word 29 2 ≡ 0
  pub cop : bits word 24 2 ≡ 1
  pub spare : bits word 16 2 ≡ 0
  pub last_spare : bits word 8 1 ≡ 0

-- the fields that the bits of a word spell
abbrev pub fields_of : ℕ → ClcwFields
fields_of word = record {
  status = bits word 26 3;
  vcid = bits word 18 6;
  link = record { no_rf = bits word 15 1 == 1; no_bit_lock = bits word 14 1 == 1 };
  lockout = bits word 13 1 == 1;
  wait = bits word 12 1 == 1;
  retransmit = bits word 11 1 == 1;
  farm_b = bits word 9 2;
  vr = bits word 0 8;
}

-- the fields of the CLCW that reports FARM-1's components `r` and the link flags `link` for the virtual channel `vcid`,
-- with the status field 0
abbrev pub reported : Report → ℕ → Link → ClcwFields
reported r vcid link = record {
  status = 0;
  vcid = vcid;
  link = link;
  lockout = r.lockout;
  wait = r.wait;
  retransmit = r.retransmit;
  farm_b = r.farm_b;
  vr = r.vr;
}
