-- The names that most proofs of this crate cite, passed on from one place. Declares nothing.
pub use Rattle.std.proofs.Common.{◌≡◌, ◌∙◌, ◌+◌, ◌-◌, ◌*◌, ◌≤◌, ◌∷◌, ℕ, List, [], length, Option, None, Some, Result, Ok, Err, IfSome, refl, ap, sym, subst}
pub use Rattle.std.proofs.Common.{arith, ◌<◌, ◌++◌, map, take, get_or, Bool, true, false, slice_get, suc, replicate, set, if◌then◌else◌, nat_lt, drop, ◌&&◌}
pub use Rattle.std.proofs.Common.{zero, inl, inr, ◌⊎◌, ◌==◌, slice_index, codes, zero-add, string_bytes}
pub use Rattle.std.specs.List.{concat, All, position_from, flat_map}
pub use Rattle.std.proofs.lemmas.List.{append-nil, length-map, map-append, take_more, length-replicate, length-set, drop_all, drop_more, same_lists}
pub use Rattle.std.specs.Prelude.{unwrap_or}
pub use Rattle.std.specs.Option.{option_map, option_to_list, option_or}
pub use Rattle.std.proofs.lemmas.Option.{slice_get_within, slice_get-map, same_Some, slice_get-get_or, slice_get_cases}
pub use Rattle.std.specs.Str.{bytes_eq}
pub use Rattle.sim_base.specs.Outside.{Outside, SamePorts, SameOthers, Files}
pub use Rattle.sim_outcome_model.specs.Stop.{Stop, Texts, printed, report_alone, file_within, read_from, refused_in}
pub use Rattle.sim_outcome_model.specs.Work.{Is, ReadStops, RanOn, SaidNothing, IsOneReading, Then, Reading, IsFile}
pub use Rattle.sim_outcome_model.proofs.ReadLemmas.{if_some, one_both, one_function, first_stops, got_both}
pub use Rattle.project_model.specs.Work.{WorkIn, Work, BehindProject, BehindFirmware, BehindDiagram, BehindChips, BehindScript, ChipsAfter, PlanIn, ScriptIn}
pub use Rattle.project_model.specs.Work.{WaveIn, by_rule, diagram_name, drawn, in_folder, with_bytes}
pub use Rattle.cli_project.proofs.ProjectLemmas.{one_work, steady_work}
pub use Rattle.board_model.specs.Fits.{Fits}
pub use Rattle.law_board.specs.Alike.{Alike}
pub use Rattle.law_board.specs.FirstDiff.{SamePins}
pub use Rattle.law_board.specs.Twin.{chips_before, with_chips}
pub use Rattle.law_board.specs.Worlds.{is_chip, SameRest}
pub use Rattle.board_build.specs.declared.plan.PlanKind.{PlanKind}
pub use Rattle.board_build.specs.declared.plan.PlanPart.{PlanPart}
pub use Rattle.board_build.specs.declared.plan.Plan.{Plan}
pub use Rattle.board_build.specs.IsPlan.{IsPlan, kinds_in}
pub use Rattle.board_build.proofs.PlanLemmas.{from_all, is_plan}
pub use Rattle.chip_module.specs.declared.source.ChipSource.{ChipSource}
pub use Rattle.chip_module.specs.Sources.{pins_of}
pub use Rattle.any_part.specs.AnyPart.{AnyPart, AnyState, any, state_of, cycle_of, wakes_of}
pub use Rattle.any_part.specs.Start.{Contents, start_in, start_of, starts}
pub use Rattle.law_isolation.specs.Worlds.{DifferInChips, IsSamePart, run_states}
pub use Rattle.board_twin.specs.Twins.{AreTwins, HaveNoContacts, IsTwin, TwinView, other_states}
pub use Rattle.sim_base.specs.declared.wiring.Input.{Input}
pub use Rattle.document_model.specs.declared.project.ChipFile.{ChipFile}
pub use Rattle.board_model.specs.Rows.{same_list}
pub use Rattle.sim_base.specs.declared.wiring.Wiring.{Wiring}
pub use Rattle.cli_project.specs.Works.{work_of}
pub use Rattle.sim_io.specs.Outcomes.{outcome_of}
pub use Rattle.cli_twin.specs.Shared.{Pair, PairIn, other_path, paired, names_of, other_pins, same_below, same_pin}
pub use Rattle.cli_twin.specs.Found.{Found, IsLoaded, twin_view, beside, diff_of}
pub use Rattle.cli_twin.specs.Line.{line}
pub use Rattle.cli_twin.specs.Chips.{chip_start, chip_starts, Started}
pub use Rattle.cli_twin.specs.Pairs.{pair_of}
