-- The names that most proofs of this crate cite, passed on from one place. Declares nothing.
pub use Rattle.std.proofs.Common.{◌≡◌, ◌≢◌, ℕ, zero, suc, ◌+◌, ◌-◌, ◌<◌, ◌≤◌, List, [], length, map, Bool, true, false, Option, None, Some, refl, ap, sym, ◌∙◌}
pub use Rattle.std.proofs.Common.{arith, inl, inr, length-set, slice_get, slice_set, if◌then◌else◌, ◌++◌, subst, slice_index, ◌∷◌, take, drop, replicate}
pub use Rattle.std.proofs.Common.{length-append, append_assoc, get_or, append-nil, take-append-drop, not, ◌⊎◌, ◌==◌, ◌&&◌, ◌*◌, ◌/◌, ◌%◌, ◌^◌, max, ◌||◌, eqb}
pub use Rattle.std.proofs.Common.{bit_or, add-one, min, rules, eq-eqb}
pub use Rattle.std.specs.List.{flat_map, list_any}
pub use Rattle.std.proofs.lemmas.Option.{slice_get_within, slice_get-get_or, get_or_from_slice_get, slice_get_past, slice_get-map}
pub use Rattle.std.proofs.lemmas.Bool.Decides.{eqb_tells}
pub use Rattle.std.specs.Prelude.{unwrap_or}
pub use Rattle.std.proofs.lemmas.List.{take-map, take_all, drop-map, length-take-le, length-drop, take_more, length-map, drop_more, map-set, take-set}
pub use Rattle.std.proofs.lemmas.List.{length-replicate, drop_all}
pub use Rattle.std.specs.Option.{option_to_list, option_map, is_some}
pub use Rattle.std.specs.Int.{bit_at, w64}
pub use Rattle.std.proofs.lemmas.List.Folds.{list_any_more}
pub use Rattle.std.proofs.lemmas.Nat.Bits.{bit_at_or, bit_at-zero, bit_at-lt, bit_at_set_same, bit_at_set_other, shr_and_one, bit_at-trailing_zeros}
pub use Rattle.std.proofs.lemmas.Bool.{and_parts, or_cases, or_parts, or_left, or_right, not-false, false_from_ne_true, ltb-true}
pub use Rattle.sim_base.specs.declared.signal.Drive.{Drive}
pub use Rattle.sim_base.specs.declared.wiring.Wiring.{Wiring}
pub use Rattle.sim_base.specs.declared.wiring.Input.{Input}
pub use Rattle.sim_base.specs.declared.limits.TheConstants.{MOST_CYCLES}
pub use Rattle.part_law.specs.Machine.{Machine, Laws, glide, dues, sent, IsQuiet, IsSame, IsFirstDue, idle, MayWake}
pub use Rattle.part_law.proofs.MachineLemmas.{glide_valid, glide_drives, glide_contacts, glide_pins, glide_ports, glide_holds, not_due_now, due_now}
pub use Rattle.board_model.specs.Board.{level_at, own_nets, input_at, states, bytes, drives_of, options, input_from, contacts_of, part_step, steps_from}
pub use Rattle.board_model.specs.Board.{levels_of}
pub use Rattle.board_model.specs.Fits.{Fits}
pub use Rattle.net_resolve.specs.NetsView.{NetsView, AreChanged}
pub use Rattle.board_model.specs.Rows.{Shown, shown_of, rows, chip_drives_of, same_list, same_level, shown_before, same_drive}
pub use Rattle.board_model.proofs.Lists.{some_same, get_map_some, some_map, flat_map_same, same_lists, get_set_same, get_set_other, get_within, take_whole}
pub use Rattle.board_model.proofs.Lists.{lt_or_eq, flat_map_room, done_none, done_more, done_all, Done, lent_whole}
pub use Rattle.law_board.specs.Alike.{Alike, SameShow}
pub use Rattle.law_board.specs.Stands.{Stands}
pub use Rattle.law_board.specs.Steady.{IsSteady}
pub use Rattle.law_board.proofs.StandsLaw.{stands_here, stands_shows, stands_holds, stands_valid, stands_sleeps, stands_silent}
pub use Rattle.law_board.proofs.SteadyLaw.{steady_states, steady_before, steady_rows, steady_cycles, steady_bytes, steady_pairs, quiet_dues}
pub use Rattle.sim_base.specs.Rows.{Row, StopsWithin, Handed, Appends, AreFronts, IsBehind}
pub use Rattle.sim_base.specs.declared.signal.Level.{Level}
pub use Rattle.net_resolve.specs.Watched.{flagged}
pub use Rattle.law_board.specs.Active.{sum_below, active_in, active_cycles, active_pairs, is_active}
pub use Rattle.board_model.proofs.Steps.{length-steps_from, get-steps_from, get_step}
pub use Rattle.board_model.proofs.SameLemmas.{level_same, list_same, levels_mean, drive_same}
pub use Rattle.law_board.specs.Stretch.{IsStretch}
pub use Rattle.net_resolve.specs.Marked.{has}
pub use Rattle.net_resolve.proofs.ReachLemmas.{any_at, any_some}
pub use Rattle.event_queue.proofs.TreeLemmas.{set_same}
pub use Rattle.board_run.specs.Changes.{LastTells, Tells, HasEvent, StaysSame}
pub use Rattle.board_run.specs.ReadingView.{ReadingView, IsTold, retold, reread, shown_at, Suits, levels_on, pin_flags, IsOf, AreDiffering, shown, HasAt, Put}
pub use Rattle.board_run.specs.ReadingView.{Gathered, AreStill}
pub use Rattle.board_run.specs.Lagging.{glided, Replaced, Shifted, to_wake, MayTurn, Awaits, Turns, AreDue, AreLate, is_at, MayTurnAt, turned, HadTurn}
pub use Rattle.board_run.specs.Lagging.{TookTurn}
pub use Rattle.board_run.specs.Legs.{Kept, Lags, Leg, WentBy, IsAlone, AreAt}
pub use Rattle.board_run.specs.Upcoming.{AreBehind, IsInOrder}
pub use Rattle.board_run.specs.declared.part_set.PartSet.{PartSet}
pub use Rattle.board_run.specs.Parts.{has_part, end_of, AreNone, part_nets, AreOn}
pub use Rattle.board_run.specs.Engine.{wiring_of, kept_of, given, states_of, rows_to, bytes_to, IsNext, Watches, MayRun, MayTurnPart, TurnedAt, MayTell, WentOn, Rests}
pub use Rattle.board_run.specs.Engine.{Settled, FailedIn, Showed, MayStretch, MayTurnOn, TurnedOn, TurnedPart}
pub use Rattle.board_run.specs.declared.engine.Engine.{Engine}
pub use Rattle.board_run.specs.BoardView.{BoardView}
