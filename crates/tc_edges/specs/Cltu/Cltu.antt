-- Communications link transmission units (CLTUs, CCSDS 231.0-B).
use Rattle.std.specs.Prelude.{ℕ, ◌==◌, List, [], ◌∷◌, ◌++◌, length, take, Option, Some, None, nat_lt, if◌then◌else◌}
use Rattle.tc_edges.specs.Cltu.CodeBlock.{code_block}
use Rattle.tc_edges.specs.declared.cltu.writer.CltuFault.{CltuFault}
use Rattle.tc_edges.specs.declared.cltu.writer.CltuFault.TheVariants.{Empty, TooLong}

abbrev pub start_sequence : List ℕ
start_sequence = 0xEB ∷ 0x90 ∷ []

-- a block that no mode accepts
abbrev pub tail_sequence : List ℕ
tail_sequence = 0xC5 ∷ 0xC5 ∷ 0xC5 ∷ 0xC5 ∷ 0xC5 ∷ 0xC5 ∷ 0xC5 ∷ 0x79 ∷ []

-- the largest fill that a code block can need
abbrev pub fill : List ℕ
fill = 0x55 ∷ 0x55 ∷ 0x55 ∷ 0x55 ∷ 0x55 ∷ 0x55 ∷ []

-- the octets, with fill up to a multiple of seven
abbrev pub filled : List ℕ → List ℕ
filled [] = []
filled (a ∷ b ∷ c ∷ d ∷ e ∷ f ∷ g ∷ rest) = a ∷ b ∷ c ∷ d ∷ e ∷ f ∷ g ∷ filled rest
filled octets = take 7 (octets ++ fill)

-- The code blocks for the octets, of which each block carries seven. Octets after the last whole seven are left out.
abbrev pub code_blocks : List ℕ → List ℕ
code_blocks (a ∷ b ∷ c ∷ d ∷ e ∷ f ∷ g ∷ rest) = code_block (a ∷ b ∷ c ∷ d ∷ e ∷ f ∷ g ∷ []) ++ code_blocks rest
code_blocks _ = []

abbrev pub cltu : List ℕ → List ℕ
cltu frame = start_sequence ++ code_blocks (filled frame) ++ tail_sequence

-- The largest number of octets that a CLTU of this crate carries. They fill 147 code blocks, as many as the longest
-- frame needs.
abbrev pub most_octets : ℕ
most_octets = 1029

-- the reason, apart from lack of memory, why octets can't become a CLTU, if there is one
abbrev pub cltu_fault_of : List ℕ → Option CltuFault
cltu_fault_of frame =
    if length frame == 0 then Some Empty
    else if nat_lt most_octets (length frame) then Some TooLong
    else None
