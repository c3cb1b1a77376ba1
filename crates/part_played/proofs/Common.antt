-- The names that most proofs of this crate cite, passed on from one place. Declares nothing.
pub use Rattle.std.proofs.Common.{◌≡◌, ◌<◌, ◌≤◌, ◌+◌, ℕ, zero, suc, List, [], ◌∷◌, length, take, drop, get_or, Bool, true, false, Option, Some, inl, inr, refl}
pub use Rattle.std.proofs.Common.{ap, sym, ◌∙◌, subst, arith, zero-add, if◌then◌else◌, slice_get, slice_index, ◌⊎◌, ◌++◌, map}
pub use Rattle.std.specs.Prelude.{unwrap_or}
pub use Rattle.std.specs.List.{sum_by, All}
pub use Rattle.std.proofs.lemmas.List.{length-map, length-drop, length-take-le, get_or-map, get_or-drop, length-append, take_all, take_more, map-append}
pub use Rattle.std.proofs.lemmas.Option.{slice_get_read, slice_get-map, slice_get_cases, slice_get_within, get_or_from_slice_get, slice_get-get_or}
pub use Rattle.part_law.specs.Spans.{no_pins}
pub use Rattle.board_model.specs.Fits.{Fits}
pub use Rattle.board_model.proofs.Lists.{some_same}
pub use Rattle.law_board.specs.Player.{DriveRows, new_player, PlayerState}
pub use Rattle.law_board.specs.Play.{or_player, played, played_from}
pub use Rattle.board_build.specs.declared.plan.PlanKind.{PlanKind}
pub use Rattle.board_build.specs.declared.plan.PlanPart.{PlanPart}
pub use Rattle.board_build.specs.Parts.{is_chip, is_uno}
pub use Rattle.board_build.specs.Pins.{count_of}
pub use Rattle.chip_module.specs.declared.source.ChipSource.{ChipSource}
pub use Rattle.chip_module.specs.Sources.{pins_of}
pub use Rattle.any_part.specs.AnyPart.{AnyState, any, AnyPart}
pub use Rattle.any_part.specs.Start.{Contents, start_in, start_of, starts}
pub use Rattle.any_part.proofs.StartLemmas.{AreReady, all_ready, begins_valid, first_begun, start_at, starts_fit, starts_many}
pub use Rattle.any_part.proofs.LoadLemmas.{unos_counted, uno_there, uno_next, each_ready, uno_left, if_ok}
pub use Rattle.part_played.specs.Played.{PlayedState, PlayedPart, state_of, cycle_of, wakes_of}
pub use Rattle.part_played.specs.Start.{Begins, rows_from, rows_of_part, play_start}
