-- Sets of lemmas that close goals without a proof by hand: sets for calls, and a set for the laws of each file of src/.
use Rattle.tc_channel.proofs.Runs.{run-append, lawful-before, lawful-after}
use Rattle.tc_channel.proofs.Chosen.{whole-only, packets-only, one-kept, others-stay, chosen-by-settings}
use Rattle.tc_channel.proofs.Faults.{no-fault}
use Rattle.tc_channel.proofs.BufferSize.{buffer-fits}
use Rattle.tc_channel.proofs.Small.{clcw-fits}
use Rattle.tc_channel.proofs.Eras.{each-era}
use Rattle.tc_channel.proofs.Delivered.{all-reported}
use Rattle.tc_channel.proofs.Growth.{queues-are, units-are}
use Rattle.tc_channel.proofs.StateQueues.{queues-kept, units-kept}
use Rattle.tc_channel.proofs.Sound.{state-sound}
use Rattle.tc_channel.proofs.Plain.{run-limit, run-segmented}
use Rattle.tc_queues.proofs.Counts.{few-packets, steps-by-octets, steps-of-largest}
use Rattle.tc_channel.proofs.Given.{fields-in-order, packets-in-order, units-in-order}
use Rattle.tc_channel.proofs.Through.{packets-are-made, units-are-made, part-whole}
use Rattle.tc_channel.proofs.Octets.{fields-fit, packets-fit, units-fit, waits-within, packets-within, units-within}
use Rattle.tc_channel.proofs.AtWork.{none-touched, packet-is, unit-is}

pub ruleset at_work = (none-touched, packet-is, unit-is)

pub ruleset laws = (run-append, lawful-before, lawful-after, whole-only, packets-only, one-kept, others-stay, no-fault, buffer-fits, chosen-by-settings, clcw-fits, each-era, all-reported, queues-are, units-are, queues-kept, units-kept, state-sound, run-limit, run-segmented, few-packets, steps-by-octets, steps-of-largest)

pub ruleset flow = (fields-in-order, packets-in-order, units-in-order, packets-are-made, units-are-made, part-whole)

pub ruleset memory = (fields-fit, packets-fit, units-fit, packets-within, units-within, waits-within)
