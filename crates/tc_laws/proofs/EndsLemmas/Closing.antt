-- Lemmas with which the tactic `auto` closes the laws that have no Answers.antt.
use Rattle.tc_laws.proofs.EndsLemmas.Arrived.{carried-unaltered, carried-whole}
use Rattle.tc_laws.proofs.EndsLemmas.Cut.{cut-of-joined}
use Rattle.tc_laws.proofs.EndsLemmas.Numbered.{numbered-on, numbered-sends}
use Rattle.tc_laws.proofs.EndsLemmas.Plain.{plain-arrive}
use Rattle.tc_laws.proofs.EndsLemmas.Written.{written-segments}

pub ruleset laws = (carried-unaltered, carried-whole, cut-of-joined, numbered-on, numbered-sends, plain-arrive, written-segments)
