-- The refusals of a station's calls, and the values that a failed close returns.
use Rattle.std.specs.Prelude.{◌≡◌, ℕ, ◌<◌, ◌≤◌, List, [], length, Contains, Some, None}
use Rattle.tc_channel.specs.Reply.{buffered_fields, waiting_packets, waiting_units}
use Rattle.tc_queues.specs.declared.reply.ReleaseFault.{ReleaseFault}
use Rattle.tc_queues.specs.declared.reply.ReleaseFault.TheVariants as release
use Rattle.tc_queues.specs.declared.reply.TakeFault.{TakeFault}
use Rattle.tc_queues.specs.declared.reply.TakeFault.TheVariants as take
use Rattle.tc_queues.specs.declared.reply.TakeUnitFault.{TakeUnitFault}
use Rattle.tc_queues.specs.declared.reply.TakeUnitFault.TheVariants as take_unit
use Rattle.tc_station.specs.Roster.{Roster}
use Rattle.tc_station.specs.Tally.{AtStation}
use Rattle.tc_station.specs.Balance.{AreInBalance, AreInReportedBalance}
use Rattle.tc_station.specs.Moments.{AtSomeMomentOf}
use Rattle.tc_station.specs.declared.faults.ReleaseRefused.{ReleaseRefused}
use Rattle.tc_station.specs.declared.faults.ReleaseRefused.TheVariants as release_refusals
use Rattle.tc_station.specs.declared.faults.TakeRefused.{TakeRefused}
use Rattle.tc_station.specs.declared.faults.TakeRefused.TheVariants as take_refusals
use Rattle.tc_station.specs.declared.faults.TakeUnitRefused.{TakeUnitRefused}
use Rattle.tc_station.specs.declared.faults.TakeUnitRefused.TheVariants as take_unit_refusals
use Rattle.tc_station.specs.declared.faults.WatcherFault.{WatcherFault}
use Rattle.tc_station.specs.declared.faults.WatcherFault.TheVariants as watcher_faults
use Rattle.tc_station.specs.declared.faults.CloseFault.{CloseFault}
use Rattle.tc_station.specs.declared.faults.CloseFault.TheVariants.{Missing, NoMemory, Unbalanced}
use Rattle.tc_station.specs.declared.faults.CountingCloseFault.{CountingCloseFault}
use Rattle.tc_station.specs.declared.faults.CountingCloseFault.TheVariants as counting

-- the station's refusal for a fault of one of its channels
abbrev pub release_refused : ReleaseFault → ReleaseRefused
release_refused release.Empty = release_refusals.Empty
release_refused release.NoMemory = release_refusals.NoMemory

abbrev pub take_refused : TakeFault → TakeRefused
take_refused take.NoQueue = take_refusals.NoQueue
take_refused take.Empty = take_refusals.Empty
take_refused take.NoMemory = take_refusals.NoMemory

abbrev pub take_unit_refused : TakeUnitFault → TakeUnitRefused
take_unit_refused take_unit.NoMap = take_unit_refusals.NoMap
take_unit_refused take_unit.Empty = take_unit_refusals.Empty
take_unit_refused take_unit.NoMemory = take_unit_refusals.NoMemory

abbrev pub IsReleaseRefused : Roster → ℕ → ReleaseRefused → Type 0
IsReleaseRefused station vcid release_refusals.UnknownChannel = ¬ Contains station.vcids vcid
IsReleaseRefused station vcid release_refusals.Empty = Contains station.vcids vcid × AtSomeMomentOf vcid (λ s journal. buffered_fields s journal ≡ [])
IsReleaseRefused station vcid release_refusals.NoMemory = Contains station.vcids vcid

abbrev pub IsTakeRefused : Roster → ℕ → ℕ → TakeRefused → Type 0
IsTakeRefused station vcid apid take_refusals.UnknownChannel = ¬ Contains station.vcids vcid
IsTakeRefused station vcid apid take_refusals.NoQueue = Contains station.vcids vcid × AtSomeMomentOf vcid (λ s journal. waiting_packets s journal apid ≡ None)
IsTakeRefused station vcid apid take_refusals.Empty = Contains station.vcids vcid × AtSomeMomentOf vcid (λ s journal. waiting_packets s journal apid ≡ Some [])
IsTakeRefused station vcid apid take_refusals.NoMemory = Contains station.vcids vcid

abbrev pub IsTakeUnitRefused : Roster → ℕ → ℕ → TakeUnitRefused → Type 0
IsTakeUnitRefused station vcid map_id take_unit_refusals.UnknownChannel = ¬ Contains station.vcids vcid
IsTakeUnitRefused station vcid map_id take_unit_refusals.NoMap = Contains station.vcids vcid × AtSomeMomentOf vcid (λ s journal. waiting_units s journal map_id ≡ None)
IsTakeUnitRefused station vcid map_id take_unit_refusals.Empty = Contains station.vcids vcid × AtSomeMomentOf vcid (λ s journal. waiting_units s journal map_id ≡ Some [])
IsTakeUnitRefused station vcid map_id take_unit_refusals.NoMemory = Contains station.vcids vcid

abbrev pub IsWatcherFault : Roster → ℕ → WatcherFault → Type 0
IsWatcherFault station vcid watcher_faults.UnknownChannel = ¬ Contains station.vcids vcid
IsWatcherFault station vcid watcher_faults.NoMemory = Contains station.vcids vcid

-- This is the reason why a station wasn't closed: the first of the faults below that applies. The channels are returned
-- only if the counts don't fit their journals.
abbrev pub IsCloseFault : Roster → List AtStation → CloseFault → Type 0
IsCloseFault station operators (Missing s os) = (length operators < station.issued) × (s ≡ station) × (os.items ≡ operators)
IsCloseFault station operators (NoMemory s os) = (station.issued ≤ length operators) × (s ≡ station) × (os.items ≡ operators)
IsCloseFault station operators (Unbalanced channels os) =
    (station.issued ≤ length operators) × (os.items ≡ operators) × (length channels.items ≡ length station.vcids) × ¬ AreInBalance station.vcids operators channels.items

-- this is the reason why a counting station wasn't closed: the first of the faults below that applies
abbrev pub IsCountingCloseFault : Roster → List AtStation → CountingCloseFault → Type 0
IsCountingCloseFault station operators (counting.Missing s os) = (length operators < station.issued) × (s ≡ station) × (os.items ≡ operators)
IsCountingCloseFault station operators (counting.NoMemory s os) = (station.issued ≤ length operators) × (s ≡ station) × (os.items ≡ operators)
IsCountingCloseFault station operators (counting.Unbalanced channels os) =
    (station.issued ≤ length operators) × (os.items ≡ operators) × (length channels.items ≡ length station.vcids) × ¬ AreInReportedBalance station.vcids operators channels.items
