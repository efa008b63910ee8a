-- A report is written element by element.
use Rattle.tc_rack.proofs.Names.{◌≡◌, ◌<◌, ℕ, ◌+◌, List, [], ◌++◌, Option, All, length, take, get_or, sym, ap, ◌∙◌, subst, flat_map_more, take_more, Appends-trans, flat_map, Appends, MapSetting, QueueSetting, IsLawfulHistory, channel_text, final_line, map_line, queue_line}
use Rattle.std.proofs.lemmas.List.Elements.{All-more}
use Rattle.tc_channel.specs.Journal.{History}

-- if the first i elements and then the next one are written, the first i + 1 are written
pub one-more-written : {X : Type 0} (f : X → List ℕ) (xs : List X) (i : ℕ) (d : X) (a b c : Option (List ℕ)) → i < length xs
    → Appends a b (flat_map f (take i xs)) → Appends b c (f (get_or xs i d)) → Appends a c (flat_map f (take (i + 1) xs))
one-more-written f xs i d a b c lt before more =
    let joined : flat_map f (take i xs) ++ f (get_or xs i d) ≡ flat_map f (take (i + 1) xs) =
    flat_map_more f [] (take i xs) (get_or xs i d) ∙ ap (flat_map f) (sym (take_more xs i d lt)) in
    subst (Appends a c) joined (Appends-trans a b c _ _ before more)

-- `one-more-written` also holds for an element `x` that is known to be at place `i`
pub item-written : {X : Type 0} (f : X → List ℕ) (xs : List X) (i : ℕ) (x : X) (a b c : Option (List ℕ)) → i < length xs → x ≡ get_or xs i x
    → Appends a b (flat_map f (take i xs)) → Appends b c (f x) → Appends a c (flat_map f (take (i + 1) xs))
item-written f xs i x a b c lt is before more = one-more-written f xs i x a b c lt before (subst (λ y. Appends b c (f y)) is more)

pub lawful-more : (xs : List History) (i : ℕ) (x : History) → i < length xs → x ≡ get_or xs i x → All IsLawfulHistory (take i xs) → IsLawfulHistory x → All IsLawfulHistory (take (i + 1) xs)
lawful-more xs i x lt is before more = All-more IsLawfulHistory xs i x lt before (subst IsLawfulHistory is more)

-- if the lines of a channel's parts are written, the text of the channel is written
pub channel-written : (channel : History) (queues : List QueueSetting) (maps : List MapSetting) (a b c d : Option (List ℕ)) → queues ≡ channel.settings.queues → maps ≡ channel.settings.maps
    → Appends a b (final_line channel) → Appends b c (flat_map (queue_line channel) queues) → Appends c d (flat_map (map_line channel) maps)
    → Appends a d (channel_text channel)
channel-written channel queues maps a b c d is-queues is-maps final of-queues of-maps =
    let two = subst (λ qs. Appends b c (flat_map (queue_line channel) qs)) is-queues of-queues in
    let three = subst (λ ms. Appends c d (flat_map (map_line channel) ms)) is-maps of-maps in
    Appends-trans a c d _ _ (Appends-trans a b c _ _ final two) three
