use Rattle.std.proofs.Common.{◌≡◌, ◌∙◌, sym, ap, subst, rules}
use Rattle.tc_channel.specs.Journal.{History}
use Rattle.tc_channel.specs.Run.{IsLawful}
use Rattle.tc_status.specs.Board.{IsEarlier, status_word}
use Rattle.tc_status.proofs.Steps.{publishes}
use Rattle.tc_status.proofs.publisher.store.Goals as goal

pub store-requires : goal.store-requires
store-requires g c =
    let q = c.requires in
    let published = sym q.publication in
    let word : c.from-word.result ≡ status_word c.args.channel.now = search rules in (
      search rules,
      search rules,
      publishes _ _ _ _ c.from-word.result q.first
          (word ∙ ap status_word published)
          (subst (λ (h : History). IsLawful h.settings h.journal) published c.clcw.ensures.lawful)
          (subst (λ (h : History). IsEarlier c.args.seat.now.me.0.seen h) published q.later),
    )
