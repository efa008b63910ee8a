-- Packets that are joined are cut into exactly these packets.
use Rattle.tc_laws.proofs.EndsLemmas.Names.{AllByRecursion, IsPacket, List, [], append-nil, arith, joined, length, length-take, only-cut, packets_of, rest_of, sym, ℕ, ◌≡◌}

pub cut-of-joined : (packets : List (List ℕ)) → AllByRecursion IsPacket packets → (packets_of (joined packets) ≡ packets) × (rest_of (joined packets) ≡ [])
cut-of-joined packets each =
    let only = only-cut (length (joined packets)) (joined packets) packets [] (omega arith)
    (record { parts = sym (append-nil (joined packets)); each = each; ends = λ n p. absurd (let l = p.least in omega (arith, length-take {A = ℕ} n [])) }) in
    (sym only.0, sym only.1)
