-- Sets of lemmas that close the goals of calls without a proof by hand.
use Rattle.tc_queues.proofs.Names.{map-set_same}
use Rattle.std.proofs.lemmas.List.{set-get_or}
use Rattle.tc_queues.proofs.InRooms.{fit-at, key-in, staged-of-none-at, put-in, same-rings, same-sizes, committed-at, committed-set, full-at}
use Rattle.tc_queues.proofs.Found.{copied-first, empty-in, first-here, found-in, keys-set, none-more, none-waits, not-found, oldest-in, one-waits, popped-in}
use Rattle.tc_queues.proofs.Contents.{staged-at, passed-none, committed-one}
use Rattle.tc_queues.proofs.Passes.{not-telecommand}
use Rattle.tc_queues.proofs.Tables.{first-key, keys-length, reported-first, reported-none}

pub ruleset at_place = (fit-at, staged-of-none-at, put-in, same-rings, same-sizes, committed-at, committed-set, full-at, copied-first, empty-in, keys-set, none-waits, oldest-in, one-waits, popped-in, staged-at, map-set_same, set-get_or)

pub ruleset by_key = (found-in, not-found)

pub ruleset searched = (none-more, first-here, key-in)

pub ruleset reported = (keys-length, reported-first, reported-none, first-key)

pub ruleset passing = (passed-none, committed-one, keys-set, not-telecommand)
