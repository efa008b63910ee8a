use Rattle.std.proofs.Common.{rules}
use Rattle.tc_status.proofs.Steps.{splits}
use Rattle.tc_status.proofs.publisher.Publisher.watcher.Goals as goal

pub split_seat-seat-requires : goal.split_seat-seat-requires
split_seat-seat-requires c = (search rules, search rules, splits _ _)
