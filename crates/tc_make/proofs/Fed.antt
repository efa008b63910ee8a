-- The octets that a decoder is given, one after the other, and its answers.
use Rattle.std.proofs.Common.{◌≡◌, ℕ, List, [], ◌++◌, append_assoc, Option, refl, ap, sym, subst, ◌∙◌, Some, None, slice_index_or, slice_set}
use Rattle.tc_make.proofs.Names.{Appends, Appends-nil, Writes, flat_map-append, named_text}
use Rattle.std.proofs.lemmas.List.{append-nil}
use Rattle.std.proofs.lemmas.Option.{get_or_from_slice_get}
use Rattle.std.specs.Prelude.{codes, slice_get}
use Rattle.tc_edges.specs.Cltu.Reception.{Receiver, Reception, frames_of, corrected_in, rejected_in, overlong_in}
use Rattle.tc_edges.specs.declared.cltu.block.Mode.{Mode}
use Rattle.tc_make.specs.Decoders.{IsFed, IsPieceSaid, candidates_text, blocks_text}
use Rattle.tc_make.proofs.Written.{joined}

-- the candidate frames that were written so far, followed by those that end in the remaining octets, are all candidate
-- frames of the octets
abbrev pub IsSoFar : Mode → List ℕ → List ℕ → Reception → Reception → Option (List ℕ) → Option (List ℕ) → Type 0
IsSoFar mode rest os first state a b =
    (given : List (List ℕ)) × Appends a b (candidates_text given) × (given ++ frames_of mode 1029 state rest ≡ frames_of mode 1029 first os)

pub some-fed : (mode was : Mode) (rest now os : List ℕ) (first state next : Reception) (more : List (List ℕ)) (a b c : Option (List ℕ)) → mode ≡ was
    → more ++ frames_of mode 1029 next now ≡ frames_of mode 1029 state rest → IsSoFar was rest os first state a b → Appends b c (candidates_text more)
    → IsSoFar was now os first next a c
some-fed mode was rest now os first state next more a b c same is (given, before, h) text = (
  given ++ more,
  subst (Appends a c) (sym (flat_map-append (named_text (codes "frame")) given more)) (joined a b c (candidates_text given) (candidates_text more) before text),
  append_assoc given more (frames_of was 1029 next now)
      ∙ ap (λ (x : List (List ℕ)). given ++ x) (subst (λ (m : Mode). more ++ frames_of m 1029 next now ≡ frames_of m 1029 state rest) same is) ∙ h,
)

-- once all octets are taken, and the line with the counts is written, the whole answer is written
pub all-fed : (mode : Mode) (corrected rejected overlong : ℕ) (os : List ℕ) (first state : Reception) (a b c : Option (List ℕ)) → IsSoFar mode [] os first state a b
    → corrected ≡ corrected_in mode 1029 first os → rejected ≡ rejected_in mode 1029 first os → overlong ≡ overlong_in mode 1029 first os → Appends b c (blocks_text corrected rejected overlong)
    → Appends a c (candidates_text (frames_of mode 1029 first os) ++ blocks_text (corrected_in mode 1029 first os) (rejected_in mode 1029 first os) (overlong_in mode 1029 first os))
all-fed mode corrected rejected overlong os first state a b c (given, before, h) e f k now =
    let frames : given ≡ frames_of mode 1029 first os = sym (append-nil given) ∙ h in
    joined a b c (candidates_text (frames_of mode 1029 first os)) (blocks_text (corrected_in mode 1029 first os) (rejected_in mode 1029 first os) (overlong_in mode 1029 first os))
    (subst (λ (x : List (List ℕ)). Appends a b (candidates_text x)) frames before)
    (subst (λ (x : ℕ). Appends b c (blocks_text (corrected_in mode 1029 first os) (rejected_in mode 1029 first os) x)) k
    (subst (λ (x : ℕ). Appends b c (blocks_text (corrected_in mode 1029 first os) x overlong)) f (subst (λ (x : ℕ). Appends b c (blocks_text x rejected overlong)) e now)))

-- if `Is` holds for the decoder of a stream before and after, it holds for the entry of this stream in the table of
-- decoders
pub slot-done : (Is : Option Receiver → Option Receiver → List ℕ → Type 0) (old items : List (Option Receiver)) (id at : ℕ) (was slot : Option Receiver) (a b : Option (List ℕ))
    → items ≡ old → at ≡ id → slice_get items at ≡ Some was → Writes a b (Is was slot)
    → Writes a b (λ text. (s : Option Receiver) × (slice_set items at slot ≡ slice_set old id s) × Is (slice_index_or old id None) s text)
slot-done Is old items id at was slot a b e f h (text, is, w) =
    let there : was ≡ slice_index_or old id None =
    sym (get_or_from_slice_get items at was None h) ∙ ap (λ (xs : List (Option Receiver)). slice_index_or xs at None) e ∙ ap (λ (n : ℕ). slice_index_or old n None) f in (
      text,
      (
        slot,
        ap (λ (xs : List (Option Receiver)). slice_set xs at slot) e ∙ ap (λ (n : ℕ). slice_set old n slot) f,
        subst (λ (x : Option Receiver). Is x slot text) there is,
      ),
      w,
    )
