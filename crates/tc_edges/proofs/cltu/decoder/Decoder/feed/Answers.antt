use Rattle.std.proofs.Common.{◌≡◌, Bool, List, [], ◌∷◌, ◌++◌, Result, Ok, Err, OnErr, ℕ, map, if◌then◌else◌, subst, refl, ap, sym, ◌∙◌, append_assoc}
use Rattle.std.proofs.lemmas.List.{append-nil}
use Rattle.tc_edges.specs.Cltu.Reception.{IsTaken, Receiver, StopsShort}
use Rattle.tc_edges.proofs.CltuLemmas.Decoding.{taken-more, taken-none, taken-all, taken-short}
use Rattle.tc_edges.proofs.cltu.decoder.Decoder.feed.Goals as goal

pub loop-fed-init : goal.loop-fed-init
loop-fed-init c = record {
  mode = refl;
  taken = ([], taken-none 1029 c.args.self.now c.args.piece.now, sym (append-nil (map (λ frame. frame.items) c.args.frames.now.items)));
}

pub loop-fed-preserved : goal.loop-fed-preserved
loop-fed-preserved c =
    let l = c.loop-fed in let inv = l.invariant in let next = c.feed_front.new.self in
    let more = if c.in-Some.fed.ended then next.carried ∷ [] else [] in
    record {
      mode = c.feed_front.ensures.mode ∙ inv.mode;
      taken = (
        inv.taken.0 ++ more,
        taken-more 1029 c.args.self.now l.self next c.args.piece.now l.rest.now c.in-Some.others.now inv.taken.0 more inv.mode inv.taken.1 c.in-Some.ensures.front,
        c.in_ok-keep.ensures.frames ∙ ap (λ (x : List (List ℕ)). x ++ more) inv.taken.2 ∙ append_assoc (map (λ frame. frame.items) c.args.frames.now.items) inv.taken.0 more,
      );
    }

of-error : {A E : Type 0} {P : Type 0} (answer : Result A E) → P → OnErr answer P
of-error (Ok _) p = tt
of-error (Err _) p = p

pub returns-in_err-keep-clause-short : goal.returns-in_err-keep-clause-short
returns-in_err-keep-clause-short c =
    let l = c.loop-fed in let inv = l.invariant in let was = c.args.self.now in let os = c.args.piece.now in let next = c.feed_front.new.self in let rest = c.in-Some.others.now in
    let before = map (λ frame. frame.items) c.args.frames.now.items in
    let all = taken-more 1029 was l.self next os l.rest.now rest inv.taken.0 (if c.in-Some.fed.ended then next.carried ∷ [] else []) inv.mode inv.taken.1 c.in-Some.ensures.front in
    let carried : IsTaken 1029 was next os rest (inv.taken.0 ++ next.carried ∷ []) = subst (λ (b : Bool). IsTaken 1029 was next os rest (inv.taken.0 ++ (if b then next.carried ∷ [] else []))) c.in_err-keep.ensures.ended all in
    let short : (given : List (List ℕ)) × (map (λ frame. frame.items) c.keep.new.frames.items ≡ before ++ given) × StopsShort 1029 was next os given =
    (inv.taken.0, c.in_err-keep.ensures.unchanged ∙ inv.taken.2, taken-short 1029 was next os rest inv.taken.0 carried) in
    of-error c.from_residual.result short

pub returns-clause-state : goal.returns-clause-state
returns-clause-state c =
    let l = c.loop-fed in let none = c.in_default.ensures.none in
    ap (λ (r : Receiver). r.state) none.1 ∙ (taken-all 1029 c.args.self.now l.self c.args.piece.now l.rest.now l.invariant.taken.0 none.0 l.invariant.taken.1).0

pub returns-clause-frames : goal.returns-clause-frames
returns-clause-frames c =
    let l = c.loop-fed in let inv = l.invariant in
    inv.taken.2
    ∙ ap (λ (x : List (List ℕ)). map (λ frame. frame.items) c.args.frames.now.items ++ x) (sym (taken-all 1029 c.args.self.now l.self c.args.piece.now l.rest.now inv.taken.0 c.in_default.ensures.none.0 inv.taken.1).1)
