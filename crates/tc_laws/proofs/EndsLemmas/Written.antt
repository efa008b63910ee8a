-- The data fields of the frames that a sender writes carry the segments.
use Rattle.tc_laws.proofs.EndsLemmas.Names.{AreSegments, AreWritten, Carries, Header, List, Some, [], field_of, get_or, get_or-map, length, length-map, map, piece_at, segment_at, subst, sym, ℕ, ◌<◌, ◌∙◌, ◌≡◌}

field-at : (frames : List (List ℕ)) (k : ℕ) → k < length frames → field_of (get_or frames k []) ≡ get_or (map field_of frames) k []
field-at frames k less = sym (get_or-map field_of frames k [] [] less)

pub written-segments : (header : Header) (map_id size : ℕ) (unit : List ℕ) (frames : List (List ℕ)) → AreWritten header map_id size unit frames → AreSegments map_id size unit (map field_of frames)
written-segments header map_id size unit frames w = record {
  count = length-map frames field_of ∙ w.count;
  each = λ k less. let less_there : k < length frames = subst (λ (n : ℕ). k < n) (length-map frames field_of) less in
      subst (λ (f : List ℕ). Carries (Some (segment_at map_id size k unit)) f (piece_at size unit k)) (field-at frames k less_there) (w.each k less_there).1;
}
