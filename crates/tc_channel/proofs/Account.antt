-- Each field of a stream has its share. The proof goes field by field, and follows the run that the earlier fields
-- left.
use Rattle.tc_channel.proofs.Names.{◌≡◌, ℕ, ◌≤◌, ◌⊎◌, Bool, true, false, eqb, ◌&&◌, List, [], ◌∷◌, ◌++◌, length, Option, Some, None, refl, sym, ap, subst, ◌∙◌, inl, inr, append_assoc, arith, nat_tests, append-nil, length-append, Part, Service, Bd, Passed, at_most, ended_by, is_of, open_run, same_service, stream, Settings, as_list, Ad}
use Rattle.tc_packet.specs.declared.segment.Part.TheVariants.{Last, Unsegmented, First, Continuing}
use Rattle.tc_packet.specs.Segment.{body_of, header_of}
use Rattle.tc_channel.specs.Through.{all_made, unit_made}
use Rattle.std.proofs.Common.{leb}
use Rattle.std.proofs.lemmas.Grind.{flat_map-append}
use Rattle.tc_packet.specs.Reassembly.{IsPart, bounded, extended, joined_bodies, unit_at}
use Rattle.tc_packet.specs.Runs.{next_run}
use Rattle.tc_packet.proofs.OpenRuns.{open_run-push}
use Rattle.tc_channel.specs.Account.{Share, AccountFor, AreAllSegments, AreShares, BeginUnit, IsRun, fields_in, open_in, unit_on, units_in}
use Rattle.tc_channel.specs.Account.Share.{Ended, Open, OverLimit, Broken, WithoutRun}
use Rattle.tc_queues.proofs.Lists.{all-append}
use Rattle.tc_channel.proofs.Streams.{same_map, stream-same, stream-other}

-- the fields of the run that is open so far, if there is one
abbrev Run : Type 0
Run = Option (List (List ℕ))

abbrev octets_so_far : Run → Option (List ℕ)
octets_so_far None = None
octets_so_far (Some fields) = bounded (joined_bodies fields)

abbrev IsSoFar : Run → Type 0
IsSoFar None = Unit {0}
IsSoFar (Some fields) = IsRun fields

abbrev fields_so_far : Run → List (List ℕ)
fields_so_far None = []
fields_so_far (Some fields) = fields

-- the units that fields of a stream make after the fields `before`
abbrev units_over : ℕ → List (List ℕ) → List (List ℕ) → List (List ℕ)
units_over limit before [] = []
units_over limit before (f ∷ fs) = as_list (at_most limit (unit_at before f)) ++ units_over limit (before ++ f ∷ []) fs

-- the shares of the run that is open so far and of the remaining fields of a stream
record Parted (limit : ℕ) (before left : List (List ℕ)) (so_far : Run) : Type 0 where
  shares : List Share
  are : AreShares limit shares
  fields : fields_in shares ≡ fields_so_far so_far ++ left
  units : units_in shares ≡ units_over limit before left
  open_is : open_in shares ≡ at_most limit (open_run (before ++ left))

-- the octets are within both limits, or over one of them
abbrev Fits : ℕ → List ℕ → Type 0
Fits limit octets =
    ((length octets ≤ limit) × (length octets ≤ 65542) × (at_most limit (bounded octets) ≡ Some octets))
    ⊎ (¬ ((length octets ≤ limit) × (length octets ≤ 65542)) × (at_most limit (bounded octets) ≡ None))

fits : (limit : ℕ) (octets : List ℕ) → Fits limit octets
fits limit octets = by (leb (length octets) 65542) refl (leb (length octets) limit) refl where
  by : (small : Bool) → leb (length octets) 65542 ≡ small → (within : Bool) → leb (length octets) limit ≡ within → Fits limit octets
  by true h true k = inl (grind (arith, nat_tests), grind (arith, nat_tests), rw (h, k) refl)
  by true h false k = inr (λ both. (let le = both.0 in grind (arith, nat_tests)), rw (h, k) refl)
  by false h within k = inr (λ both. (let le = both.1 in grind (arith, nat_tests)), rw h refl)

-- a run that is too long stays too long, so it makes no difference whether the bound is applied before one more body or
-- only after it
longer : (octets body : List ℕ) → extended (bounded octets) body ≡ bounded (octets ++ body)
longer octets body = by (leb (length octets) 65542) refl where
  by : (t : Bool) → leb (length octets) 65542 ≡ t → extended (bounded octets) body ≡ bounded (octets ++ body)
  by true h = rw h refl
  by false h =
      let long : leb (length (octets ++ body)) 65542 ≡ false = let l = length-append octets body in grind (arith, nat_tests) in
      rw (long, h) refl

joined-one : (f : List ℕ) → joined_bodies (f ∷ []) ≡ body_of f
joined-one f = append-nil (body_of f)

joined-push : (fs : List (List ℕ)) (f : List ℕ) → joined_bodies (fs ++ f ∷ []) ≡ joined_bodies fs ++ body_of f
joined-push fs f = flat_map-append body_of fs (f ∷ []) ∙ ap (λ (x : List ℕ). joined_bodies fs ++ x) (joined-one f)

-- with one more segment, a run still is a run
run-push : (fs : List (List ℕ)) (f : List ℕ) → IsRun fs → IsPart Continuing f → IsRun (fs ++ f ∷ [])
run-push [] f run part = absurd run
run-push (first ∷ after) f run part = (run.0, all-append (IsPart Continuing) after (f ∷ []) run.1 (part, tt))

-- if no fields remain, the run so far has its share
at-end : (limit : ℕ) (before : List (List ℕ)) (so_far : Run) → open_run before ≡ octets_so_far so_far → IsSoFar so_far → Parted limit before [] so_far
at-end limit before None is run = record { shares = []; are = tt; fields = refl; units = refl; open_is = rw (append-nil before, is) refl }
at-end limit before (Some fields) is run = by (fits limit (joined_bodies fields)) where
  by : Fits limit (joined_bodies fields) → Parted limit before [] (Some fields)
  by (inl w) = record { shares = Open fields ∷ []; are = (run, (w.0, w.1), refl); fields = refl; units = refl; open_is = rw (append-nil before, is) (sym w.2) }
  by (inr w) = record { shares = OverLimit fields ∷ []; are = (inr (run, refl), w.0, tt); fields = refl; units = refl; open_is = rw (append-nil before, is) (sym w.1) }

-- Let the fields after `f` have their shares. If `f` completes a unit, the fields of the unit have a share, too.
with-all : (limit : ℕ) (before fs : List (List ℕ)) (f : List ℕ) (fields : List (List ℕ)) (so_far : Run) → AreAllSegments fields → unit_at before f ≡ bounded (joined_bodies fields)
    → fields ≡ fields_so_far so_far ++ f ∷ [] → Parted limit (before ++ f ∷ []) fs None → Parted limit before (f ∷ fs) so_far
with-all limit before fs f fields so_far all unit are next = by (fits limit (joined_bodies fields)) where
  order : fields ++ fields_in next.shares ≡ fields_so_far so_far ++ f ∷ fs
  order = rw (next.fields, are) (append_assoc (fields_so_far so_far) (f ∷ []) fs)

  still : open_in next.shares ≡ at_most limit (open_run (before ++ f ∷ fs))
  still = next.open_is ∙ ap (λ (x : List (List ℕ)). at_most limit (open_run x)) (append_assoc before (f ∷ []) fs)

  by : Fits limit (joined_bodies fields) → Parted limit before (f ∷ fs) so_far
  by (inl w) = record { shares = Ended fields ∷ next.shares; are = (all, (w.0, w.1), next.are); fields = order; units = rw (unit, w.2, next.units) refl; open_is = still }
  by (inr w) = record { shares = OverLimit fields ∷ next.shares; are = (inl all, w.0, next.are); fields = order; units = rw (unit, w.1, next.units) refl; open_is = still }

-- Let the fields after `f`, and the run that `f` leaves, have their shares. If `f` ends no unit and only extends the
-- run so far, these are also the shares from that run on.
with-none : (limit : ℕ) (before fs : List (List ℕ)) (f : List ℕ) (so_far later : Run) → unit_at before f ≡ None → fields_so_far later ≡ fields_so_far so_far ++ f ∷ []
    → Parted limit (before ++ f ∷ []) fs later → Parted limit before (f ∷ fs) so_far
with-none limit before fs f so_far later unit are next = record {
  shares = next.shares;
  are = next.are;
  fields = rw (next.fields, are) (append_assoc (fields_so_far so_far) (f ∷ []) fs);
  units = rw (unit, next.units) refl;
  open_is = next.open_is ∙ ap (λ (x : List (List ℕ)). at_most limit (open_run x)) (append_assoc before (f ∷ []) fs);
}

-- Let the fields after `f` have their shares. If `f` is a segment for which no run is open, it has a share, too.
with-lone : (limit : ℕ) (before fs : List (List ℕ)) (f : List ℕ) → IsPart Continuing f ⊎ IsPart Last f → unit_at before f ≡ None → Parted limit (before ++ f ∷ []) fs None → Parted limit before (f ∷ fs) None
with-lone limit before fs f part unit next = record {
  shares = WithoutRun f ∷ next.shares;
  are = (part, next.are);
  fields = rw next.fields refl;
  units = rw (unit, next.units) refl;
  open_is = next.open_is ∙ ap (λ (x : List (List ℕ)). at_most limit (open_run x)) (append_assoc before (f ∷ []) fs);
}

-- a field that begins a unit breaks the run so far, if there is one
broken : (limit : ℕ) (before fs : List (List ℕ)) (f : List ℕ) (so_far : Run) → IsSoFar so_far → IsPart First f ⊎ IsPart Unsegmented f → Parted limit before (f ∷ fs) None → Parted limit before (f ∷ fs) so_far
broken limit before fs f None run part next = next
broken limit before fs f (Some fields) run part next = record {
  shares = Broken fields ∷ next.shares;
  are = (run, subst BeginUnit (sym next.fields) part, next.are);
  fields = ap (λ (x : List (List ℕ)). fields ++ x) next.fields;
  units = next.units;
  open_is = next.open_is;
}

abbrev Goes : ℕ → List (List ℕ) → List (List ℕ) → List ℕ → Type 0
Goes limit before fs f = (later : Run) → open_run (before ++ f ∷ []) ≡ octets_so_far later → IsSoFar later → Parted limit (before ++ f ∷ []) fs later

by-part : (limit : ℕ) (before fs : List (List ℕ)) (f : List ℕ) (part : Part) (so_far : Run) → (header_of f).part ≡ part → open_run before ≡ octets_so_far so_far → IsSoFar so_far
    → open_run (before ++ f ∷ []) ≡ next_run part (open_run before) (body_of f) → unit_at before f ≡ ended_by part (open_run before) (body_of f) → Goes limit before fs f → Parted limit before (f ∷ fs) so_far
by-part limit before fs f First so_far part is run next unit goes =
    broken limit before fs f so_far run (inl part) (with-none limit before fs f None (Some (f ∷ [])) unit refl (goes (Some (f ∷ [])) (next ∙ ap bounded (sym (joined-one f))) (part, tt)))
by-part limit before fs f Unsegmented so_far part is run next unit goes =
    broken limit before fs f so_far run (inr part) (with-all limit before fs f (f ∷ []) None (inl (f, refl, part)) (unit ∙ ap bounded (sym (joined-one f))) refl (goes None next tt))
by-part limit before fs f Continuing None part is run next unit goes = with-lone limit before fs f (inl part) unit (goes None (next ∙ ap (λ (o : Option (List ℕ)). extended o (body_of f)) is) tt)
by-part limit before fs f Continuing (Some fields) part is run next unit goes =
    with-none limit before fs f (Some fields) (Some (fields ++ f ∷ [])) unit refl
    (goes (Some (fields ++ f ∷ [])) (next ∙ ap (λ (o : Option (List ℕ)). extended o (body_of f)) is ∙ longer (joined_bodies fields) (body_of f) ∙ ap bounded (sym (joined-push fields f))) (run-push fields f run part))
by-part limit before fs f Last None part is run next unit goes = with-lone limit before fs f (inr part) (unit ∙ ap (λ (o : Option (List ℕ)). extended o (body_of f)) is) (goes None next tt)
by-part limit before fs f Last (Some fields) part is run next unit goes =
    with-all limit before fs f (fields ++ f ∷ []) (Some fields) (inr (fields, f, refl, run, part))
    (unit ∙ ap (λ (o : Option (List ℕ)). extended o (body_of f)) is ∙ longer (joined_bodies fields) (body_of f) ∙ ap bounded (sym (joined-push fields f))) refl (goes None next tt)

parted : (limit : ℕ) (left before : List (List ℕ)) (so_far : Run) → open_run before ≡ octets_so_far so_far → IsSoFar so_far → Parted limit before left so_far
parted limit [] before so_far is run = at-end limit before so_far is run
parted limit (f ∷ fs) before so_far is run = by-part limit before fs f (header_of f).part so_far refl is run (open_run-push before f) refl (λ later e r. parted limit fs (before ++ f ∷ []) later e r)

-- the units of a stream among all fields that were passed on

same-service : (one other : Service) (t : Bool) → (same_service one other && t) ≡ true → other ≡ one
same-service Ad Bd t h = absurd cc
same-service Bd Ad t h = absurd cc
same-service _ _ t h = refl

units-along : (limits : ℕ → ℕ) (s : Settings) (service : Service) (map_id : ℕ) (ps before : List Passed) → s.segmented ≡ true
    → all_made (unit_on limits s service map_id) before ps ≡ units_over (limits map_id) (stream service map_id before) (stream service map_id ps)
units-along limits s service map_id [] before headed = refl
units-along limits s service map_id (p ∷ ps) before headed = by (is_of service map_id p) refl (units-along limits s service map_id ps (before ++ p ∷ []) headed) where
  by : (t : Bool) → is_of service map_id p ≡ t → all_made (unit_on limits s service map_id) (before ++ p ∷ []) ps ≡ units_over (limits map_id) (stream service map_id (before ++ p ∷ [])) (stream service map_id ps)
      → all_made (unit_on limits s service map_id) before (p ∷ ps) ≡ units_over (limits map_id) (stream service map_id before) (stream service map_id (p ∷ ps))
  by true own ih =
      let its : p.service ≡ service = same-service service p.service (eqb (header_of p.field).map map_id) own in
      let map_is : (header_of p.field).map ≡ map_id = same_map service p.service (header_of p.field).map map_id own in
      let unit : unit_made limits s before p ≡ at_most (limits map_id) (unit_at (stream service map_id before) p.field) = rw (headed, its, map_is) refl in
      rw (own, unit, ih, stream-same service map_id before p own) refl
  by false other ih = rw (other, ih, stream-other service map_id before p other) refl

pub accounted : (limits : ℕ → ℕ) (s : Settings) (service : Service) (map_id : ℕ) (passed : List Passed) → s.segmented ≡ true → (shares : List Share) × AccountFor limits s service map_id passed shares
accounted limits s service map_id passed headed =
    let all = parted (limits map_id) (stream service map_id passed) [] None refl tt in
    (all.shares, record { are = all.are; fields = all.fields; units = all.units ∙ sym (units-along limits s service map_id passed [] headed); left = all.open_is })
