-- The names that most proofs of this crate cite, passed on from one place. Declares nothing.
pub use Rattle.std.proofs.Common.{◌≡◌, ◌≢◌, ℕ, ◌<◌, List, length, map, Bool, true, not, refl, ap, sym, ◌∙◌, arith, inl, inr, subst, Some, eq-eqb, zero, suc}
pub use Rattle.std.proofs.Common.{◌+◌, ◌≤◌, [], ◌∷◌, ◌++◌, take, drop, false, ◌⊎◌, get_or, add-one, append_assoc, append-nil, drop-cons, length-append}
pub use Rattle.std.proofs.Common.{replicate, Option, length-set, get_or-set_other, get_or-set_same, eqb}
pub use Rattle.std.proofs.lemmas.Bool.{eqb-true, or_cases, and_from, and_parts, cases_Bool, or_parts, or_left, or_right, not-false, not_from_true}
pub use Rattle.std.proofs.lemmas.Bool.Decides.{nat_tests, eqb_tells}
pub use Rattle.std.proofs.Math.Bool.{or-true, or-false, and-true, and-false, beq, or_assoc, or-not_self}
pub use Rattle.std.specs.Prelude.{◌==◌, ◌&&◌, ◌||◌, slice_get, slice_index, nat_lt, if◌then◌else◌, slice_set, filter, unwrap_or, vec_len}
pub use Rattle.std.specs.List.{zip, list_any, flat_map, IsDistinct}
pub use Rattle.std.specs.Cmp.{both_ways}
pub use Rattle.std.proofs.lemmas.List.{length-map, map_more, drop_all, length-replicate}
pub use Rattle.std.proofs.lemmas.Option.{slice_get_within, get_or_from_slice_get, slice_get-get_or}
pub use Rattle.std.proofs.lemmas.List.Folds.{list_any-append}
pub use Rattle.board_model.specs.Pairs.{ArePairs}
pub use Rattle.sim_base.specs.declared.signal.Drive.{Drive}
pub use Rattle.sim_base.specs.declared.signal.Level.{Level}
pub use Rattle.board_model.specs.Walks.{Walk, here, further, below, leads}
pub use Rattle.board_model.specs.Nets.{joins, joined_by}
pub use Rattle.board_model.specs.Resolve.{contact_joins, is_driven, passes, reaches, has_strong, strong_values, collected, level_of, level_of_drives, is_value}
pub use Rattle.board_model.specs.Resolve.{level_of_values, level_of_all, resolve}
pub use Rattle.board_model.proofs.WalkLemmas.{walk_join, walk_back, walk_sound, walk_complete}
pub use Rattle.board_model.proofs.Lists.{some_same, some_map, get_map_some, get_within, get_set_same, get_set_other, lent_whole, take_whole, same_lists}
pub use Rattle.board_model.proofs.Lists.{Filled, lt_or_eq, get-below, length-below, take_set_more, all_taken, filled_more}
pub use Rattle.net_union_find.specs.Forest.{AreLabels, IsForest, root_of, same_or, Joins}
pub use Rattle.net_union_find.proofs.PairLemmas.{joins_cases, contact_of, contact_is, contact_bounds, joined_bounds, same_or_swap, walks_start, all_joined}
pub use Rattle.net_union_find.proofs.PairLemmas.{joins_is, joins_swap, joined_is, get_replicate}
pub use mathlib.Core.List.{map-map}
pub use Rattle.board_model.specs.Board.{level_at}
pub use Rattle.sim_base.specs.Signal.{value_of, strong_of, is_weak, is_upper}
pub use Rattle.board_model.specs.Rows.{same_list, same_drive}
pub use Rattle.board_model.proofs.SameLemmas.{drive_same, drive_means, drives_mean}
pub use Rattle.net_resolve.specs.Groups.{AreGroups}
pub use Rattle.net_resolve.specs.Sums.{is_loose, sum_at, added, strong_level, is_z, weak_level, resistors_add, over_adds, together, level_here, own_level}
pub use Rattle.net_resolve.specs.WholeView.{WholeView, whole_with, levels_of}
pub use Rattle.net_resolve.specs.Subcircuits.{SubcircuitView, IsCut, IsSubcircuit, AreSubcircuits, AreOwn, own_pair, picked, labels_of, AreRight, whole_of}
pub use Rattle.net_resolve.specs.Subcircuits.{Lacks, AreOnce, HasAllPins, FitsIn, AreApart, own_whole, level_now, AreNumbers}
pub use Rattle.net_resolve.specs.Sorted.{ArePicked}
pub use Rattle.net_resolve.specs.NetsView.{NetsView, AreChanged, levels_by}
pub use Rattle.net_resolve.specs.Marked.{has, MarksView, with_mark, Taken}
pub use Rattle.net_resolve.specs.Shown.{AreShown, Moves}
pub use Rattle.net_resolve.specs.Watched.{IsWatch, flagged, differing, unlike}
pub use Rattle.net_resolve.specs.declared.watch.Watch.{Watch}
pub use Rattle.net_resolve.specs.declared.nets.Nets.TheInside.{Inside}
pub use Rattle.net_resolve.specs.Resolutions.{IsResolution, AreResolutions, last_of}
pub use Rattle.net_resolve.specs.declared.resolution.Resolution.{Resolution}
