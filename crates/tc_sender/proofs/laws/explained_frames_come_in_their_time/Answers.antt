use Rattle.std.specs.Prelude.{◌≡◌, ◌+◌, ◌%◌, []}
use Rattle.std.proofs.Common.{refl, arith}
use Rattle.tc_sender.proofs.Timely.{in-time}
use Rattle.tc_sender.proofs.laws.explained_frames_come_in_their_time.Goals as goal

pub returns : goal.returns
returns c = λ window vr items small fits e.
    let at : vr ≡ (vr + 0) % 256 = omega (arith, fits) in
    in-time window vr 0 0 vr vr [] [] items small at at refl (omega arith) (omega arith) e
