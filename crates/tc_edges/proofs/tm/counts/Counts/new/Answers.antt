use Rattle.std.proofs.Common.{◌≡◌, ℕ, List, replicate, ap, ◌∙◌}
use Rattle.tc_edges.specs.Tm.Counting.{Counted, none_yet}
use Rattle.tc_edges.proofs.tm.counts.Counts.new.Goals as goal

pub returns : goal.returns
unfolding none_yet
returns c =
    let made : List ℕ → List ℕ → Counted = λ m s. record { masters = m; channels = s } in
    let masters : c.in_ok-masters.masters.items ≡ replicate {A = ℕ} 1024 0 = c.in_ok-masters.ensures.items_if_clones_equal (λ y e. e) in
    let channels : c.in_ok-channels.channels.items ≡ replicate {A = ℕ} 8192 0 = c.in_ok-channels.ensures.items_if_clones_equal (λ y e. e) in
    ap (λ (x : List ℕ). made x c.in_ok-channels.channels.items) masters ∙ ap (made (replicate {A = ℕ} 1024 0)) channels
