use Rattle.tc_queues.proofs.Names.{◌≡◌, ◌<◌, ◌≤◌, length, get_or, arith, common_steps, keys_of, rings_in}
use Rattle.tc_queues.proofs.Tables.{keys-length, reported-none}
use Rattle.tc_queues.proofs.places.place_of.Goals as goal

pub returns-clause-none : goal.returns-clause-none
returns-clause-none g c =
    let keys = keys_of (rings_in c.args.queues.now) in
    let count : length keys ≡ length c.args.queues.now = keys-length c.args.queues.now in
    let inside : c.args.key < length c.args.table.now = grind (arith, common_steps) in
    let le : length c.args.queues.now ≤ get_or c.args.table.now c.args.key 0 = grind (arith, common_steps) in
    reported-none keys c.args.table.now (length keys) c.args.key (c.requires (omega arith)) inside (omega arith)
