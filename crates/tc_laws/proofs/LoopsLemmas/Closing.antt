-- Lemmas with which the tactic `auto` closes the laws that have no Answers.antt.
use Rattle.tc_laws.proofs.LoopsLemmas.Counted.{in-order, passed-on}
use Rattle.tc_laws.proofs.LoopsLemmas.Open.{place-inside, stays-open}
use Rattle.tc_laws.proofs.LoopsLemmas.Onward.{by-rounds, goes-on}
use Rattle.tc_laws.proofs.LoopsLemmas.Started.{is-loop, journal-whole, known-in-era}
use Rattle.tc_laws.proofs.LoopsLemmas.Watched.{hears-so, knows-so, sends-so}

pub ruleset laws = (in-order, passed-on, place-inside, stays-open, by-rounds, goes-on, is-loop, journal-whole, known-in-era, hears-so, knows-so, sends-so)
