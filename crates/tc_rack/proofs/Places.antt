-- A channel that was found is at its place, and new channels have distinct ids if their settings have.
use Rattle.tc_rack.proofs.Names.{◌≡◌, ◌≢◌, ℕ, ◌<◌, List, [], ◌∷◌, length, map, get_or, sym, ap, ◌∙◌, subst, arith, get_or-map, length-map, AllPairs, Settings, Linked, vcid_of, new_linked, IsChannelAt, AreChannelsApart}
use Rattle.std.proofs.lemmas.Option.{get_or_from_slice_get}

pub found : (list : List Linked) (vcid place : ℕ) (x : Linked) → (s : Linked) × IsChannelAt list vcid place s → x ≡ get_or list place x → IsChannelAt list vcid place x
found list vcid place x (s, (at, v)) is = subst (IsChannelAt list vcid place) (sym (is ∙ get_or_from_slice_get list place s x at)) (at, v)

pub made-apart : (list : List Settings) → AllPairs (λ (p q : Settings). p.vcid ≢ q.vcid) list → AreChannelsApart (map new_linked list)
made-apart [] apart = λ i j d ij jl. λ same. omega arith
made-apart (none ∷ rest) apart = λ i j d ij jl. λ same.
    let list : List Settings = none ∷ rest in
    let jm : j < length list = omega (arith, length-map list new_linked) in
    let im : i < length list = omega arith in
    apart i j none ij jm (ap vcid_of (sym (get_or-map new_linked list i none d im)) ∙ (same ∙ ap vcid_of (get_or-map new_linked list j none d jm)))
