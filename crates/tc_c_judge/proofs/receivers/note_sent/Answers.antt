use Rattle.std.proofs.Common.{subst}
use Rattle.std.specs.Prelude.{ℕ}
use Rattle.tc_judge.specs.Reading.{IsFor}
use Rattle.tc_judge.specs.declared.account.SentFrame.{SentFrame}
use Rattle.tc_c_judge.specs.Receivers.{IsAdded}
use Rattle.tc_c_judge.proofs.receivers.note_sent.Goals as goal

pub returns-in-Some-clause-sent : goal.returns-in-Some-clause-sent
returns-in-Some-clause-sent c =
    let there = c.in-Some.ensures.sent in (
      there.0,
      subst (λ (vcid : ℕ). IsFor c.args.octets.now there.0 c.args.held.now.scid vcid) c.number.ensures.number there.1,
      subst (λ (frame : SentFrame). IsAdded c.args.held.now.judge frame c.sent.new.self) there.2
          (record {
            allows = c.sent.ensures.allows;
            noted = c.sent.ensures.noted;
            overrun = c.sent.ensures.overrun;
            kept = c.sent.ensures.kept;
          }),
    )
