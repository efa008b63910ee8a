use Rattle.std.proofs.Common.{set, refl, ap, sym, ◌∙◌}
use Rattle.tc_edges.specs.Cltu.CodeBlock.{decoded}
use Rattle.tc_edges.specs.Cltu.Reception.{Step, fate_after}
use Rattle.tc_edges.proofs.CltuLemmas.Decoding.{last-step, last-fate}
use Rattle.tc_edges.proofs.cltu.decoder.Decoder.feed_octet.Goals as goal

pub returns-clause-state : goal.returns-clause-state
returns-clause-state c =
    let d = c.self.inside in let inv = c.self.invariant in
    let st = last-step d.mode 1029 c.args.octet d.last d.count d.frame.items d.block d.decoding c.args.self.now (decoded d.mode (set d.block d.count c.args.octet)) c.if-not-self.false c.if-self-lt7.false inv.0 inv.2 c.self.view_is refl in
    c.end_block.ensures.state ∙ sym (ap (λ (s : Step). s.0) st)

pub returns-clause-given : goal.returns-clause-given
returns-clause-given c =
    let d = c.self.inside in let inv = c.self.invariant in
    let st = last-step d.mode 1029 c.args.octet d.last d.count d.frame.items d.block d.decoding c.args.self.now (decoded d.mode (set d.block d.count c.args.octet)) c.if-not-self.false c.if-self-lt7.false inv.0 inv.2 c.self.view_is refl in
    c.end_block.ensures.given ∙ sym (ap (λ (s : Step). s.1) st)

pub returns-clause-fate : goal.returns-clause-fate
returns-clause-fate c =
    let d = c.self.inside in let inv = c.self.invariant in
    c.end_block.ensures.fate
    ∙ last-fate d.mode 1029 c.args.octet d.last d.count d.frame.items d.block d.decoding c.args.self.now (fate_after d.mode 1029 d.frame.items (set d.block d.count c.args.octet)) c.if-not-self.false c.if-self-lt7.false inv.0 inv.2 c.self.view_is refl
