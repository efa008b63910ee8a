-- The lower of two lines, either of which may be missing.
use Rattle.std.specs.Prelude.{ℕ, min, Option, Some, None}

abbrev pub lower : Option ℕ → Option ℕ → Option ℕ
lower None b = b
lower (Some a) None = Some a
lower (Some a) (Some b) = Some (min a b)
