-- Types, definitions and lemmas that most proofs use, imported from one file.
pub use Rattle.std.proofs.Common.{All, Bool, List, None, Option, Some, [], ap, append-nil, append_assoc, arith, cond, drop, eq-eqb, eqb, false, get_or, inl, inr, length, map, refl, replicate, set, subst, suc, sym, take, true, true≢false, vec_capacity, vec_len, zero, ℕ, ◌&&◌, ◌++◌, ◌+◌, ◌<◌, ◌||◌, ◌∙◌, ◌∷◌, ◌≡◌, ◌≢◌, ◌≤◌}
pub use Rattle.std.proofs.KnownBytes.{Appends-nil, Appends-trans}
pub use Rattle.std.proofs.lemmas.Bool.{eqb-true}
pub use Rattle.std.proofs.lemmas.List.{drop-drop, flat_map_more, get_or-map, get_or-set_other, get_or-set_same, get_or_default, length-drop, length-map, length-replicate, length-set, take_more}
pub use Rattle.std.proofs.lemmas.List.Elements.{All-push, All-set}
pub use Rattle.std.proofs.lemmas.List.Folds.{Any-from_list_any, list_any-from_Any}
pub use Rattle.std.proofs.lemmas.List.Quantifiers.{all_pairs_push}
pub use Rattle.std.proofs.lemmas.Result.{on_ok_weaker}
pub use Rattle.std.specs.Io.KnownBytes.{Appends}
pub use Rattle.std.specs.List.{AllZip, flat_map, list_any}
pub use Rattle.std.specs.Prelude.{AllPairs, Any, MatchOption, is_some, nat_lt, option_map, slice_get}
pub use Rattle.tc_queues.specs.Settings.{IsAllowed}
pub use Rattle.tc_queues.specs.declared.settings.MapSetting.{MapSetting}
pub use Rattle.tc_queues.specs.declared.settings.QueueSetting.{QueueSetting}
pub use Rattle.tc_queues.specs.declared.settings.Settings.{Settings}
pub use Rattle.tc_rack.specs.Configuration.{AreApidsOf, AreApidsOfEach, HasSettings, IsAt, IsConfiguration, vcids_of, with_addition}
pub use Rattle.tc_rack.specs.Delivery.{AreAnswersWritten, AreEmptied, AreEmpty, AreTakenFrom, IsHandedOn, IsTakenFrom, none_or, packet_queues, queues_of, reported_line, reported_lines, unit_queues, waiting_in}
pub use Rattle.tc_rack.specs.Linked.{IsPacketTaken, IsTakeAnswered, IsUnitAnswered, IsUnitTaken, Linked, new_linked, reported_word, vcid_of}
pub use Rattle.tc_rack.specs.Rack.{AreChannelsApart, IsChannelAt, Racked}
pub use Rattle.tc_rack.specs.Report.{IsLawfulHistory, channel_text, final_line, map_line, queue_line, report_text}
pub use Rattle.tc_rack.specs.declared.answer.Answer.{Answer}
pub use Rattle.tc_rack.specs.declared.queue.QueueId.{QueueId}
pub use Rattle.tc_rack.specs.declared.queue.QueueId.TheVariants.{Packets, Units}
