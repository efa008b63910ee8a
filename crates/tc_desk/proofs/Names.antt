-- The types and definitions that most proofs use, imported from one file.
pub use Rattle.atomic_table.proofs.Fields.{pin_told, token_val}
pub use Rattle.atomic_table.proofs.Names.{ !, Goes-dropped, Is, SProp, Stays, Val, Valss, a_type, agg, alive, alloc_all, and_then, by, emp, enter, fact, fact_i, feq_i, fjoin, fld, fpack, fpick, free_all, fsep, fsplit, fsplit3, get, get_in, inst_fn, keep, layouts, look_at, move, no, no_more, nothing, of_list, of_opd, owns, param, pass_all, peeks, plain, qed, raw, returns, rewrite, sets, shows, split, stay_dropped, stop, sub, tables, types_at, use0, vstruct, walk_of, whole, ‵, ◌$◌, ◌∵◌, ◌⊛◌}
pub use Rattle.atomic_table.proofs.Walks.{leaves, proved}
pub use Rattle.logged_lock.specs.Log.{AreBehind, IsBeginning, IsMergeOf, made_by, owned, total_made}
pub use Rattle.std.proofs.Common.{All, Bool, List, MatchBool, Some, Vec, [], ap, append_assoc, arith, below_more, drop, false, get_or, inl, inr, length, lt_of_not-le, map, min, refl, reverse, rules, set, slice_get, subst, suc, sym, take, true, true≢false, vec_capacity, vec_len, zero, ℕ, ⊎_elim, ◌++◌, ◌+◌, ◌-◌, ◌<◌, ◌^◌, ◌∙◌, ◌∷◌, ◌≡◌, ◌≢◌, ◌≤◌}
pub use Rattle.std.proofs.lemmas.Grind.{common_steps}
pub use Rattle.std.proofs.lemmas.List.{append-nil, get_or-reverse, length-append, length-map, length-reverse, map-append, map_push, nil_from_length, reverse-append, reverse-reverse, same_from_push, take_all, with_items_is}
pub use Rattle.std.proofs.lemmas.List.Elements.{All-head, All-pop, All-push, All-tail}
pub use Rattle.std.proofs.lemmas.Option.{get_or_from_slice_get, none-some, same_Some, slice_get-map, slice_get_read, slice_get_within}
pub use Rattle.std.specs.List.{AllZip, sum_by}
pub use Rattle.tc_channel.specs.declared.event.Event.{Event}
pub use Rattle.tc_desk.specs.Call.{looked, made}
pub use Rattle.tc_desk.specs.Closing.{CanClose, IsBalanced, IsCause, IsClosed}
pub use Rattle.tc_desk.specs.Log.{AtHand, AtLock, Moment, Own, accounts_of, reported_at}
pub use Rattle.tc_desk.specs.Together.{AreClosed, AreMoments, AreOurs, AreOut, AreSame, CanCloseEach, CannotCloseOne, HasCause, IsClosingRefusal, IsFresh, IsOut, column, heads_of, issued_of, owners_of, locks_of, nobody, settings_of_desks, reported_one, reported_row, reported_rows}
pub use Rattle.tc_desk.specs.contracts.resident.ResidentBadge.{the_row}
pub use denote.Param.Send.{IsSend, IsSync, part_keyless}
pub use denote.RattleType.{RattleType}
