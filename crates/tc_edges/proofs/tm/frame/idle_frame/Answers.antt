use Rattle.std.proofs.Common.{◌≡◌, ℕ, ◌-◌, List, ◌++◌, replicate, ap, ◌∙◌, arith}
use Rattle.tc_edges.specs.Tm.TmFrame.{primary_header}
use Rattle.tc_edges.proofs.tm.frame.idle_frame.Goals as goal

pub returns-clause-octets : goal.returns-clause-octets
returns-clause-octets c =
    let least = c.requires.least in
    let all : c.extend_from_slice-2.new.self.items ≡ c.loop-idle.frame.items ++ c.args.control = grind arith in
    let count : c.loop-idle.idle ≡ c.args.end - 10 = omega arith in
    all ∙ ap (λ (x : List ℕ). x ++ c.args.control) (c.loop-idle.invariant.items ∙ ap (λ (k : ℕ). primary_header c.args.header.now ++ replicate k 85) count)
