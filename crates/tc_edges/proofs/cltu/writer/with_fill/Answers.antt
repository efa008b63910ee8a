use Rattle.std.proofs.Common.{ℕ, List, [], ◌∷◌, ◌++◌, length, drop, ap, ◌∙◌}
use Rattle.tc_edges.proofs.CltuLemmas.Fill.{filled-few}
use Rattle.tc_edges.proofs.cltu.writer.with_fill.Goals as goal

pub returns-clause-octets : goal.returns-clause-octets
returns-clause-octets c =
    let os = c.args.octets.now in
    ap (λ (x : List ℕ). x ++ drop (length os) (0x55 ∷ 0x55 ∷ 0x55 ∷ 0x55 ∷ 0x55 ∷ 0x55 ∷ 0x55 ∷ [])) c.copy_from_slice.ensures.after ∙ filled-few os c.requires.some c.requires.few
