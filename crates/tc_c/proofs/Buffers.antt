-- If two runs of octets at the front of a buffer are overwritten by two of the same lengths, the octets behind them
-- stay as they were.
use Rattle.tc_c.proofs.Names.{◌≡◌, ◌+◌, ℕ, List, ◌++◌, length, drop, sym, drop-append-add, drop-append_seam}

after-two : (xs ys rest : List ℕ) → drop (length xs + length ys) (xs ++ (ys ++ rest)) ≡ rest
after-two xs ys rest = rw (drop-append-add xs (ys ++ rest) (length ys)) (drop-append_seam ys rest)

pub kept : (first second one other rest : List ℕ) → length one ≡ length first → length other ≡ length second
    → drop (length first + length second) (first ++ (second ++ rest)) ≡ drop (length first + length second) (one ++ (other ++ rest))
kept first second one other rest e f =
    let at : drop (length first + length second) (one ++ (other ++ rest)) ≡ rest = rw (sym e) (rw (sym f) (after-two one other rest)) in
    rw at (after-two first second rest)
