-- Notations for proofs by hand that walk through a function's body.
pub use Rattle.std.proofs.Common.{[], refl, ◌++◌, ◌∷◌}
pub use Rattle.std.proofs.raw_atomic.Walks.{proved}
pub use base.Fml.{flft, ftrue}
pub use denote.Builtin.{RefOf}
pub use denote.Exit.{yes}
pub use denote.RattleType.{owns}
pub use denote.Ref.{mut_Tells, mut_vals, shr_Tells, shr_vals}
pub use denote.Shadow.{pure_i}
pub use denote.Signature.{named_lft, plain, types_at}
pub use denote.Steps.{closes, nothing, opens}
pub use denote.Triple.Entry.{alive}
pub use denote.Triple.Walked.{Goes-dropped, Goes-ref, Stays, ends_at, says, stay_dropped, stay_ref, walk_of}
pub use mir.Syntax.{named}
pub use mir.Val.{vnil, vstruct, vunit}
pub use types.ByLocal.{alloc_all, free_all, look_at, pass_all, sets}
pub use types.Kit.{ !, done, feq_i, fjoin, frame, fsplit, fsplit3, group, join, keep, move, qed, raw, split, suffices, use1, ‵, ◌$◌, ◌∵◌, ◌⊛◌}
pub use types.Part.{agg}
pub use types.Run.{enter, no_more, of_opd, returns, unit_lit}
