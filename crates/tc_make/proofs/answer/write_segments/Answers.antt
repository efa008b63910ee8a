use Rattle.tc_make.proofs.Names.{Parting, on_ok_weaker, refl}
use Rattle.tc_make.proofs.Written.{unit-parted, unit-refused}
use Rattle.tc_make.proofs.answer.write_segments.Goals as goal

pub returns-in-Ok : goal.returns-in-Ok
returns-in-Ok g c =
    let p : Parting = record {
      scid = c.args.stream.scid;
      vcid = c.args.stream.vcid;
      ns = c.args.stream.ns;
      map = c.args.sizing.map;
      size = c.args.sizing.size;
      unit = c.args.unit;
    } in
    on_ok_weaker c.write_parts.result
    (unit-parted c.args.ending c.args.stream c.args.sizing c.args.unit.now p _ _
    (record { scid = refl; vcid = refl; ns = refl; map = refl; size = refl; octets = refl }) c.in-Ok.ensures.parted)
    c.write_parts.ensures

pub returns-in-Err : goal.returns-in-Err
returns-in-Err g c =
    let p : Parting = record {
      scid = c.args.stream.scid;
      vcid = c.args.stream.vcid;
      ns = c.args.stream.ns;
      map = c.args.sizing.map;
      size = c.args.sizing.size;
      unit = c.args.unit;
    } in
    on_ok_weaker c.write_bad.result
    (unit-refused c.args.ending c.args.stream c.args.sizing c.args.unit.now p c.in-Err.reason _ _
    (record { scid = refl; vcid = refl; ns = refl; map = refl; size = refl; octets = refl }) c.in-Err.ensures.refused)
    c.write_bad.ensures
