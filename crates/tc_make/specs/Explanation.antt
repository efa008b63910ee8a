-- The explanation of a frame.
use Rattle.std.specs.Prelude.{◌≡◌, ℕ, List, length, drop}
use Rattle.tc_link.specs.Frame.{header_of}
use Rattle.tc_link.specs.Command.{kind_of}
use Rattle.tc_make.specs.declared.explaining.Explanation.{Explanation}

-- the explanation describes this frame, and the octets after it
pub record Explains (frame behind : List ℕ) (e : Explanation) : Type 0 where
  pub header : e.header ≡ header_of frame
  pub kind : e.kind ≡ kind_of (header_of frame) (drop 5 frame)
  pub field : e.field.now ≡ drop 5 frame
  pub length : e.length ≡ length frame
  pub rest : e.rest.now ≡ behind
