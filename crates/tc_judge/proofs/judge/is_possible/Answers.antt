use Rattle.std.specs.Prelude.{◌≡◌, ◌<◌, ◌≤◌, ◌↔◌, [], false, length, drop}
use Rattle.std.proofs.Common.{subst, sym, arith, ap, ◌∙◌, ◌+◌}
use Rattle.tc_judge.specs.Account.{Explains, ended}
use Rattle.tc_judge.specs.Judge.{Allows}
use Rattle.tc_judge.specs.declared.account.Item.TheVariants.{Sent, Heard}
use Rattle.tc_judge.proofs.Judged.{explained-sent, on, none-on}
use Rattle.tc_judge.proofs.judge.is_possible.Goals.{in-Sent, in-Heard+in-Possible}
use Rattle.tc_judge.proofs.judge.is_possible.Goals as goal

pub loop-item-init : goal.loop-item-init
loop-item-init c =
    let none : length c.in_ok-judge.judge.way ≡ 0 = ap length c.in_ok-judge.ensures.room.0 in
    ((c.in_ok-judge.ensures.allows []).1 ended, c.in_ok-judge.ensures.allows c.args.account.now, c.in_ok-judge.ensures.room.2, omega (arith, none), c.in_ok-judge.ensures.room.1)

pub returns-in-Impossible : goal.returns-in-Impossible
returns-in-Impossible c =
    let h : c.loop-item.item-index < length c.args.account.now = omega arith in (
      λ t. absurd (cc t),
      λ e. absurd (none-on c.loop-item.judge c.args.account.now c.loop-item.item-index _ (Heard c.in-Heard.shown) h (sym c.item-item.is ∙ c.in-Heard.is)
          (c.heard.ensures.impossible c.in-Impossible.is) c.loop-item.invariant.1 e),
    )

pub loop-item-preserved : goal.loop-item-preserved
loop-item-preserved c =
    let h : c.loop-item.item-index < length c.args.account.now = omega arith in
    elim c.match-item.branch [
      | in-Sent w ↦
          let room : length c.loop-item.judge.way < c.loop-item.judge.most = omega (arith, h, c.loop-item.invariant.3, c.loop-item.invariant.4) in
          let noted = w.sent.ensures.noted room in
          subst (λ j. Allows j [] × (Allows j (drop (c.loop-item.item-index + 1) c.args.account.now) ↔ Explains c.args.rules [] c.args.first c.args.account.now)
          × (j.overrun ≡ false) × (length j.way ≤ c.loop-item.item-index + 1) × (j.most ≡ length c.args.account.now)) (sym w.judge-is) (
            (w.sent.ensures.allows room []).1 (explained-sent c.loop-item.judge.rules c.loop-item.judge.now w.in-Sent.frame c.loop-item.judge.way c.loop-item.judge.marks c.loop-item.invariant.0),
            on c.loop-item.judge w.sent.new.self c.args.account.now c.loop-item.item-index _ (Sent w.in-Sent.frame) h (sym c.item-item.is ∙ w.in-Sent.is) (w.sent.ensures.allows room) c.loop-item.invariant.1,
            noted.1 ∙ c.loop-item.invariant.2,
            omega (arith, noted.0, c.loop-item.invariant.3),
            w.sent.ensures.kept.1 ∙ c.loop-item.invariant.4,
          )
      | in-Heard+in-Possible w ↦
          subst (λ j. Allows j [] × (Allows j (drop (c.loop-item.item-index + 1) c.args.account.now) ↔ Explains c.args.rules [] c.args.first c.args.account.now)
          × (j.overrun ≡ false) × (length j.way ≤ c.loop-item.item-index + 1) × (j.most ≡ length c.args.account.now)) (sym w.judge-is) (
            w.heard.ensures.explained w.in-Possible.is,
            on c.loop-item.judge w.heard.new.self c.args.account.now c.loop-item.item-index _ (Heard w.in-Heard.shown) h (sym c.item-item.is ∙ w.in-Heard.is) (w.heard.ensures.possible w.in-Possible.is) c.loop-item.invariant.1,
            w.heard.ensures.kept.2 ∙ c.loop-item.invariant.2,
            omega (arith, w.heard.ensures.shorter, c.loop-item.invariant.3),
            w.heard.ensures.kept.1 ∙ c.loop-item.invariant.4,
          )
    ]
