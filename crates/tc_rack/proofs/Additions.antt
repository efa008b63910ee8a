-- A queue or a chosen MAP is added to allowed settings. Each lemma states that the resulting settings are allowed, or
-- which fault is their first.
use Rattle.tc_rack.proofs.Names.{◌≡◌, ◌≢◌, ℕ, ◌≤◌, true, false, List, [], ◌∷◌, ◌++◌, length, get_or, inl, inr, refl, sym, ◌∙◌, ap, subst, arith, get_or_default, All-push, all_pairs_push, All, AllPairs, Any, QueueSetting, Settings, with_addition}
use Rattle.std.proofs.lemmas.Grind.{common_steps}
use Rattle.tc_queues.specs.declared.settings.MapSetting.{MapSetting}
use Rattle.tc_queues.specs.declared.settings.SettingsFault.TheVariants.{BadApid, DoubleApid, BadCapacity, BadMap, DoubleMap, BadUnits, PlainMap}
use Rattle.tc_queues.specs.Settings.{IsAllowed, IsFault}
use Rattle.tc_rack.specs.declared.instruction.Addition.TheVariants.{Queue, Map}

last-of-all : {X : Type 0} (P : X → Type 0) (xs : List X) (y : X) → All P (xs ++ y ∷ []) → P y
last-of-all P xs y all =
    let is : get_or (xs ++ y ∷ []) (length xs) y ≡ y = grind (arith, common_steps) in
    subst P is (all (length xs) y (grind (arith, common_steps)))

apart-more : {X : Type 0} (key : X → ℕ) (xs : List X) (y : X) → ¬ Any (λ x. key x ≡ key y) xs → AllPairs (λ p q. key p ≢ key q) xs → AllPairs (λ p q. key p ≢ key q) (xs ++ y ∷ [])
apart-more key xs y new apart =
    all_pairs_push (λ p q. key p ≢ key q) xs y apart (λ k d l. λ same. new (k, get_or xs k d, l, get_or_default xs k (get_or xs k d) d l, same))

not-apart : {X : Type 0} (key : X → ℕ) (xs : List X) (y : X) → Any (λ x. key x ≡ key y) xs → AllPairs (λ p q. key p ≢ key q) (xs ++ y ∷ []) → ⊥
not-apart key xs y (i, x, lt, is, same) apart =
    let low : get_or (xs ++ y ∷ []) i x ≡ get_or xs i x = grind (arith, common_steps) in
    let high : get_or (xs ++ y ∷ []) (length xs) x ≡ y = grind (arith, common_steps) in
    apart i (length xs) x lt (grind (arith, common_steps)) (ap key (low ∙ is) ∙ (same ∙ sym (ap key high)))

not-empty : {X : Type 0} (xs : List X) (y : X) → xs ++ y ∷ [] ≡ [] → ⊥
not-empty [] y e = absurd cc
not-empty (x ∷ xs) y e = absurd cc

module _ (s : Settings) (a : IsAllowed s) (q : QueueSetting) where
  pub bad-apid : ¬ (q.apid ≤ 2046) → IsFault (with_addition s (Queue q)) BadApid
  unfolding IsFault
  bad-apid bad = inr (a.vcid, inr (a.width, inr (a.buffer, inl (refl, λ all. bad (last-of-all (λ (q : QueueSetting). q.apid ≤ 2046) s.queues q all)))))

  pub double-apid : q.apid ≤ 2046 → Any (λ (x : QueueSetting). x.apid ≡ q.apid) s.queues → IsFault (with_addition s (Queue q)) DoubleApid
  unfolding IsFault
  double-apid fits there =
      inr (
        a.vcid,
        inr (
          a.width,
          inr (
            a.buffer,
            inr (
              All-push (λ (q : QueueSetting). q.apid ≤ 2046) s.queues q a.apids fits,
              inl (refl, not-apart (λ (q : QueueSetting). q.apid) s.queues q there),
            ),
          ),
        ),
      )

  pub bad-capacity : q.apid ≤ 2046 → ¬ Any (λ (x : QueueSetting). x.apid ≡ q.apid) s.queues → ¬ ((1 ≤ q.capacity) × (q.capacity ≤ 256))
      → IsFault (with_addition s (Queue q)) BadCapacity
  unfolding IsFault
  bad-capacity fits new bad =
      inr (
        a.vcid,
        inr (
          a.width,
          inr (
            a.buffer,
            inr (
              All-push (λ (q : QueueSetting). q.apid ≤ 2046) s.queues q a.apids fits,
              inr (
                apart-more (λ (q : QueueSetting). q.apid) s.queues q new a.apart,
                inl (refl, λ all. bad (last-of-all (λ (q : QueueSetting). (1 ≤ q.capacity) × (q.capacity ≤ 256)) s.queues q all)),
              ),
            ),
          ),
        ),
      )

  pub queue-allowed : q.apid ≤ 2046 → ¬ Any (λ (x : QueueSetting). x.apid ≡ q.apid) s.queues → (1 ≤ q.capacity) × (q.capacity ≤ 256)
      → IsAllowed (with_addition s (Queue q))
  queue-allowed fits new capacity = record {
    vcid = a.vcid;
    width = a.width;
    buffer = a.buffer;
    first = a.first;
    apids = All-push (λ (q : QueueSetting). q.apid ≤ 2046) s.queues q a.apids fits;
    apart = apart-more (λ (q : QueueSetting). q.apid) s.queues q new a.apart;
    capacities = All-push (λ (q : QueueSetting). (1 ≤ q.capacity) × (q.capacity ≤ 256)) s.queues q a.capacities capacity;
    maps = a.maps;
    maps_apart = a.maps_apart;
    unit_capacities = a.unit_capacities;
    by_headers = a.by_headers;
  }

module _ (s : Settings) (a : IsAllowed s) (m : MapSetting) where
  pub bad-map : ¬ (m.map ≤ 63) → IsFault (with_addition s (Map m)) BadMap
  unfolding IsFault
  bad-map bad =
      inr (
        a.vcid,
        inr (
          a.width,
          inr (
            a.buffer,
            inr (
              a.apids,
              inr (
                a.apart,
                inr (
                  a.capacities,
                  inl (refl, λ all. bad (last-of-all (λ (m : MapSetting). m.map ≤ 63) s.maps m all)),
                ),
              ),
            ),
          ),
        ),
      )

  pub double-map : m.map ≤ 63 → Any (λ (x : MapSetting). x.map ≡ m.map) s.maps → IsFault (with_addition s (Map m)) DoubleMap
  unfolding IsFault
  double-map fits there =
      inr (
        a.vcid,
        inr (
          a.width,
          inr (
            a.buffer,
            inr (
              a.apids,
              inr (
                a.apart,
                inr (
                  a.capacities,
                  inr (
                    All-push (λ (m : MapSetting). m.map ≤ 63) s.maps m a.maps fits,
                    inl (refl, not-apart (λ (m : MapSetting). m.map) s.maps m there),
                  ),
                ),
              ),
            ),
          ),
        ),
      )

  pub bad-units : m.map ≤ 63 → ¬ Any (λ (x : MapSetting). x.map ≡ m.map) s.maps → ¬ ((1 ≤ m.capacity) × (m.capacity ≤ 256))
      → IsFault (with_addition s (Map m)) BadUnits
  unfolding IsFault
  bad-units fits new bad =
      inr (
        a.vcid,
        inr (
          a.width,
          inr (
            a.buffer,
            inr (
              a.apids,
              inr (
                a.apart,
                inr (
                  a.capacities,
                  inr (
                    All-push (λ (m : MapSetting). m.map ≤ 63) s.maps m a.maps fits,
                    inr (
                      apart-more (λ (m : MapSetting). m.map) s.maps m new a.maps_apart,
                      inl (refl, λ all. bad (last-of-all (λ (m : MapSetting). (1 ≤ m.capacity) × (m.capacity ≤ 256)) s.maps m all)),
                    ),
                  ),
                ),
              ),
            ),
          ),
        ),
      )

  pub plain-map : m.map ≤ 63 → ¬ Any (λ (x : MapSetting). x.map ≡ m.map) s.maps → (1 ≤ m.capacity) × (m.capacity ≤ 256) → s.segmented ≡ false
      → IsFault (with_addition s (Map m)) PlainMap
  unfolding IsFault
  plain-map fits new capacity plain =
      inr (
        a.vcid,
        inr (
          a.width,
          inr (
            a.buffer,
            inr (
              a.apids,
              inr (
                a.apart,
                inr (
                  a.capacities,
                  inr (
                    All-push (λ (m : MapSetting). m.map ≤ 63) s.maps m a.maps fits,
                    inr (
                      apart-more (λ (m : MapSetting). m.map) s.maps m new a.maps_apart,
                      inr (
                        All-push (λ (m : MapSetting). (1 ≤ m.capacity) × (m.capacity ≤ 256)) s.maps m a.unit_capacities capacity,
                        inl (refl, λ none. not-empty s.maps m (none plain)),
                      ),
                    ),
                  ),
                ),
              ),
            ),
          ),
        ),
      )

  pub map-allowed : m.map ≤ 63 → ¬ Any (λ (x : MapSetting). x.map ≡ m.map) s.maps → (1 ≤ m.capacity) × (m.capacity ≤ 256) → s.segmented ≡ true
      → IsAllowed (with_addition s (Map m))
  map-allowed fits new capacity segmented = record {
    vcid = a.vcid;
    width = a.width;
    buffer = a.buffer;
    first = a.first;
    apids = a.apids;
    apart = a.apart;
    capacities = a.capacities;
    maps = All-push (λ (m : MapSetting). m.map ≤ 63) s.maps m a.maps fits;
    maps_apart = apart-more (λ (m : MapSetting). m.map) s.maps m new a.maps_apart;
    unit_capacities = All-push (λ (m : MapSetting). (1 ≤ m.capacity) × (m.capacity ≤ 256)) s.maps m a.unit_capacities capacity;
    by_headers = λ plain. absurd (let both = sym segmented ∙ plain in cc);
  }
