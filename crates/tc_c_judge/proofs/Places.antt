-- A place with a judge owns the memory that a box owns, and so do the parts of a box.
use Rattle.tc_c_judge.proofs.Names.{◌≡◌, refl, [], Option, Some, None, IsSome, impl, tnil, dnil, Slot, plain, Bx, judge_row}
use Rattle.std.specs.contracts.alloc.Global as Heap
use Rattle.std.specs.contracts.impls.GlobalAllocator.TheImpl.{ghosts, dict}
use Rattle.std.proofs.alloc.Global.TheLaws as heap
use Rattle.tc_c_judge.proofs.held.HeldJudge.TheLaws as held
use Rattle.tc_c_base.specs.contracts.parts.Parts as Parts
use Rattle.tc_c_judge.specs.contracts.place.Place as Place

-- the box of a judge
abbrev pub E : Bx
E = record {
  row = judge_row;
  laws = held.the_row_laws;
  al = record { row = Heap.the_row; laws = heap.the_row_laws; g = ghosts; d = dict; drops = impl [] tnil dnil };
}

abbrev pub FromParts : Slot 0
FromParts = plain (λ _. Parts.the_row judge_row Heap.the_row ghosts)

abbrev pub FromPlace : Slot 0
FromPlace = plain (λ _. Place.the_row)

-- an option that isn't `None` has a value
pub found : {X : Type 0} (o : Option X) → IsSome o → (x : X) × (o ≡ Some x)
found (Some x) e = (x, refl)
found None e = absurd cc
