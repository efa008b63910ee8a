use Rattle.tc_station.proofs.Names.{◌≡◌, ◌≢◌, [], Some, Moment, IsReleased, IsReleaseFault, IsTakeFault, IsTakeUnitFault, IsOldestPacket, IsOldestUnit, IsNotReleased, IsNotTaken, IsUnitNotTaken, Vec, Frame, Release, Take, TakeUnit, buffered_fields, frame_reply, release_reply, take_reply, unit_reply}
use Rattle.std.specs.Prelude.{ℕ}
use Rattle.tc_desk.specs.Call.{IsFramed, IsFrameFault}
use Rattle.tc_station.specs.declared.faults.ReleaseRefused.TheVariants as releases
use Rattle.tc_station.specs.declared.faults.TakeRefused.TheVariants as takes
use Rattle.tc_station.specs.declared.faults.TakeUnitRefused.TheVariants as units
use Rattle.tc_station.proofs.Used.{bring-among, call-among, merge-among, met-among, watched-among, word-among}
use Rattle.tc_station.proofs.through.what_calls_answered_stands_in_the_closed_journals.Goals as goal

pub returns-clause-merge : goal.returns-clause-merge
returns-clause-merge c = merge-among

pub returns-clause-frames : goal.returns-clause-frames
returns-clause-frames c = bring-among c.each_event_stands_at_its_place.ensures

pub returns-clause-watched : goal.returns-clause-watched
returns-clause-watched c = watched-among c.each_event_stands_at_its_place.ensures

pub returns-clause-releases : goal.returns-clause-releases
returns-clause-releases c = λ station vcid before after last delivery operators closed number.
    call-among c.each_event_stands_at_its_place.ensures station vcid Release IsReleased IsNotReleased releases.UnknownChannel before after last delivery operators closed number
    (λ s journal. (buffered_fields s journal ≢ []) × (delivery ≡ release_reply s journal)) (λ m p. p)

pub returns-clause-takes : goal.returns-clause-takes
returns-clause-takes c = λ station vcid apid grows before after last packet operators closed number.
    call-among c.each_event_stands_at_its_place.ensures station vcid (Take apid) (λ (m : Moment) (p : Vec ℕ). IsOldestPacket apid m p.items) (IsNotTaken grows apid) takes.UnknownChannel before after last packet operators closed number
    (λ s journal. take_reply s journal apid ≡ Some packet.items) (λ m p. p)

pub returns-clause-units : goal.returns-clause-units
returns-clause-units c = λ station vcid map_id grows before after last unit operators closed number.
    call-among c.each_event_stands_at_its_place.ensures station vcid (TakeUnit map_id) (λ (m : Moment) (u : Vec ℕ). IsOldestUnit map_id m u.items) (IsUnitNotTaken grows map_id) units.UnknownChannel before after last unit operators closed number
    (λ s journal. unit_reply s journal map_id ≡ Some unit.items) (λ m p. p)

pub returns-clause-met_frames : goal.returns-clause-met_frames
returns-clause-met_frames c = λ frame grows.
    met-among c.each_event_stands_at_its_place.ensures (Frame frame) (IsFramed frame) (IsFrameFault grows frame) (λ reply s journal. reply ≡ frame_reply s journal frame) (λ m r p. p)

pub returns-clause-met_releases : goal.returns-clause-met_releases
returns-clause-met_releases c =
    met-among c.each_event_stands_at_its_place.ensures Release IsReleased IsReleaseFault (λ delivery s journal. (buffered_fields s journal ≢ []) × (delivery ≡ release_reply s journal)) (λ m r p. p)

pub returns-clause-met_takes : goal.returns-clause-met_takes
returns-clause-met_takes c = λ apid grows.
    met-among c.each_event_stands_at_its_place.ensures (Take apid) (λ (m : Moment) (p : Vec ℕ). IsOldestPacket apid m p.items) (IsTakeFault grows apid)
    (λ (p : Vec ℕ) s journal. take_reply s journal apid ≡ Some p.items) (λ m r p. p)

pub returns-clause-met_units : goal.returns-clause-met_units
returns-clause-met_units c = λ map_id grows.
    met-among c.each_event_stands_at_its_place.ensures (TakeUnit map_id) (λ (m : Moment) (u : Vec ℕ). IsOldestUnit map_id m u.items) (IsTakeUnitFault grows map_id)
    (λ (u : Vec ℕ) s journal. unit_reply s journal map_id ≡ Some u.items) (λ m r p. p)

pub returns-clause-words : goal.returns-clause-words
returns-clause-words c = word-among
