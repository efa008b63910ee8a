-- Without segment headers each data field is a unit.
use Rattle.tc_laws.proofs.EndsLemmas.Names.{AllByRecursion, AreAllPackets, IsSendable, List, Passed, Settings, Some, [], all_joined, all_made, ap, false, fields_in_order, is_chosen_by, packets_ended, packets_for, packets_made, packets_to, refl, sym, unit_made, ℕ, ◌++◌, ◌∙◌, ◌∷◌, ◌≡◌}
use Rattle.tc_laws.proofs.EndsLemmas.Streams.{plain-unit}
use Rattle.tc_laws.proofs.EndsLemmas.Made.{made-append, for-append, of-one, cut-all}

plain-made : (limits : ℕ → ℕ) (s : Settings) (apid : ℕ) → s.segmented ≡ false → s.maps ≡ [] → (ps before : List Passed) → AllByRecursion (IsSendable limits false 0) (fields_in_order ps)
    → all_made (packets_ended limits s apid) before ps ≡ packets_for apid (fields_in_order ps)
plain-made limits s apid plain free [] before can = refl
plain-made limits s apid plain free (p ∷ ps) before can =
    let unit : unit_made limits s before p ≡ Some p.field = plain-unit limits s before p plain can.0 in
    let not_chosen : is_chosen_by s p.field ≡ false = rw free refl in
    let one : packets_ended limits s apid before p ≡ packets_for apid (p.field ∷ []) = rw (unit, not_chosen) (of-one apid (Some p.field)) in
    ap (λ (x : List (List ℕ)). x ++ all_made (packets_ended limits s apid) (before ++ p ∷ []) ps) one
    ∙ ap (λ (x : List (List ℕ)). packets_for apid (p.field ∷ []) ++ x) (plain-made limits s apid plain free ps (before ++ p ∷ []) can.1)
    ∙ sym (for-append apid (p.field ∷ []) (fields_in_order ps))

pub plain-arrive : (limits : ℕ → ℕ) (s : Settings) (apid : ℕ) (units : List (List (List ℕ))) (before passed : List Passed) → s.segmented ≡ false → s.maps ≡ []
    → AreAllPackets units → fields_in_order passed ≡ all_joined units → AllByRecursion (IsSendable limits false 0) (fields_in_order passed)
    → packets_made limits s apid (before ++ passed) ≡ packets_made limits s apid before ++ packets_to apid units
plain-arrive limits s apid units before passed plain free packets fields can =
    made-append (packets_ended limits s apid) [] before passed
    ∙ ap (λ (x : List (List ℕ)). packets_made limits s apid before ++ x)
    (plain-made limits s apid plain free passed before can ∙ ap (packets_for apid) fields ∙ cut-all apid units packets)
