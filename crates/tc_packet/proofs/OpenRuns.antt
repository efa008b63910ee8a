-- The open run that a stream has after one more field.
use Rattle.std.proofs.Common.{◌≡◌, ℕ, Bool, true, false, cond, leb, ◌&&◌, List, [], ◌∷◌, ◌++◌, length, Option, Some, None, refl, ap, ◌∙◌, arith}
use Rattle.std.specs.Option.{option_and_then, option_map, option_or}
use Rattle.std.specs.List.{flat_map}
use Rattle.tc_packet.proofs.Names.{Continuing, First, Last, Part, Unsegmented, all_continue, body_of, bounded, extended, from_last_first, header_of, is_continuing, is_first, nat_tests, next_run, open_run, run_of}
use Rattle.std.proofs.lemmas.Grind.{common_steps, flat_map-append}
use Rattle.std.proofs.lemmas.List.{append-nil, length-append}
use Rattle.std.proofs.Math.Bool.{and-true}

abbrev Split : Type 0
Split = List ℕ × List (List ℕ)

abbrev snoc : List ℕ → Split → Split
snoc f p = (p.0, p.1 ++ f ∷ [])

option_or-snoc : (f g : List ℕ) (gs : List (List ℕ)) (t : Bool) (o : Option Split)
    → option_or (option_map (snoc f) o) (cond t (Some (g, gs ++ f ∷ [])) None) ≡ option_map (snoc f) (option_or o (cond t (Some (g, gs)) None))
option_or-snoc f g gs t (Some p) = refl
option_or-snoc f g gs true None = refl
option_or-snoc f g gs false None = refl

-- a field that isn't a first segment joins the fields after the last first segment, if there is one
later : (fs : List (List ℕ)) (f : List ℕ) → is_first (header_of f).part ≡ false → from_last_first (fs ++ f ∷ []) ≡ option_map (snoc f) (from_last_first fs)
later [] f h = rw h refl
later (g ∷ gs) f h = rw (later gs f h) (option_or-snoc f g gs (is_first (header_of g).part) (from_last_first gs))

anew : (fs : List (List ℕ)) (f : List ℕ) → is_first (header_of f).part ≡ true → from_last_first (fs ++ f ∷ []) ≡ Some (f, [])
anew [] f h = rw h refl
anew (g ∷ gs) f h = rw (anew gs f h) refl

all-snoc : (fs : List (List ℕ)) (f : List ℕ) → all_continue (fs ++ f ∷ []) ≡ (all_continue fs && is_continuing (header_of f).part)
all-snoc [] f = and-true (is_continuing (header_of f).part)
all-snoc (g ∷ gs) f = grind (arith, common_steps, all-snoc gs f)

both : (a b x y : Bool) → a ≡ x → b ≡ y → (a && b) ≡ (x && y)
both a b x y p q = ap (λ (t : Bool). t && b) p ∙ ap (λ (t : Bool). x && t) q

-- limiting octets before a body is added doesn't change the limited result, since octets that are too long stay too long
bounded-extended : (octets body : List ℕ) → bounded (octets ++ body) ≡ extended (bounded octets) body
bounded-extended octets body = by (leb (length octets) 65542) refl where
  by : (t : Bool) → leb (length octets) 65542 ≡ t → bounded (octets ++ body) ≡ extended (bounded octets) body
  by true h = rw h refl
  by false h =
      let long : leb (length (octets ++ body)) 65542 ≡ false = let l = length-append octets body in grind (arith, nat_tests) in
      rw (long, h) refl

flat-snoc : (f g : List ℕ) (gs : List (List ℕ)) → flat_map body_of (g ∷ (gs ++ f ∷ [])) ≡ flat_map body_of (g ∷ gs) ++ body_of f
flat-snoc f g gs = flat_map-append body_of (g ∷ gs) (f ∷ []) ∙ ap (λ (x : List ℕ). flat_map body_of (g ∷ gs) ++ x) (append-nil (body_of f))

continued : (f : List ℕ) (o : Option Split) → is_continuing (header_of f).part ≡ true → option_and_then run_of (option_map (snoc f) o) ≡ extended (option_and_then run_of o) (body_of f)
continued f None h = refl
continued f (Some p) h = by (all_continue p.1) refl where
  by : (t : Bool) → all_continue p.1 ≡ t → run_of (snoc f p) ≡ extended (run_of p) (body_of f)
  by true e =
      let all : all_continue (p.1 ++ f ∷ []) ≡ true = all-snoc p.1 f ∙ both _ _ true true e h in
      rw (all, e, flat-snoc f p.0 p.1) (bounded-extended (flat_map body_of (p.0 ∷ p.1)) (body_of f))
  by false e =
      let all : all_continue (p.1 ++ f ∷ []) ≡ false = all-snoc p.1 f ∙ both _ _ false true e h in
      rw (all, e) refl

closed : (f : List ℕ) (o : Option Split) → is_continuing (header_of f).part ≡ false → option_and_then run_of (option_map (snoc f) o) ≡ None
closed f None h = refl
closed f (Some p) h = by (all_continue p.1) refl where
  by : (t : Bool) → all_continue p.1 ≡ t → run_of (snoc f p) ≡ None
  by true e = let all : all_continue (p.1 ++ f ∷ []) ≡ false = all-snoc p.1 f ∙ both _ _ true false e h in rw all refl
  by false e = let all : all_continue (p.1 ++ f ∷ []) ≡ false = all-snoc p.1 f ∙ both _ _ false false e h in rw all refl

pub open_run-push : (fs : List (List ℕ)) (f : List ℕ) → open_run (fs ++ f ∷ []) ≡ next_run (header_of f).part (open_run fs) (body_of f)
open_run-push fs f = by (header_of f).part refl where
  by : (part : Part) → (header_of f).part ≡ part → open_run (fs ++ f ∷ []) ≡ next_run part (open_run fs) (body_of f)
  by First e = ap (option_and_then run_of) (anew fs f (ap is_first e)) ∙ ap bounded (append-nil (body_of f))
  by Continuing e = ap (option_and_then run_of) (later fs f (ap is_first e)) ∙ continued f (from_last_first fs) (ap is_continuing e)
  by Last e = ap (option_and_then run_of) (later fs f (ap is_first e)) ∙ closed f (from_last_first fs) (ap is_continuing e)
  by Unsegmented e = ap (option_and_then run_of) (later fs f (ap is_first e)) ∙ closed f (from_last_first fs) (ap is_continuing e)
