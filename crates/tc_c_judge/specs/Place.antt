-- A place owns nothing if no judge is there. Otherwise it owns the same memory as a box.
use base.Fml.{Fml, ftrue}
use base.Stored.{Coded}
use denote.RattleType.{RattleType}
use denote.RawPtr.{Ptr}
use Rattle.std.specs.Prelude.{Option, Some, None}
use Rattle.std.specs.Coded.{coded_option}
use Rattle.std.specs.Box.Ownership.{box_owns}
use Rattle.std.specs.Global.{Global}
use Rattle.std.specs.contracts.impls.GlobalAllocator.TheImpl.{ghosts}
use Rattle.tc_c_judge.specs.declared.held.HeldJudge.{HeldJudge as HeldValue}
use Rattle.tc_c_judge.specs.contracts.held.HeldJudge as Held

abbrev pub judge_row : RattleType
judge_row = Held.the_row

abbrev pub judge_coded : Coded (Option HeldValue)
judge_coded = coded_option judge_row.coded

abbrev pub judge_owned : Global → Ptr → Option HeldValue → Fml
judge_owned alloc at None = ftrue
judge_owned alloc at (Some judge) = box_owns (ghosts.dealloc_token alloc) judge_row at judge
