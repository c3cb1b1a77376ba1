-- The names that most proofs of this crate cite, passed on from one place. Declares nothing.
pub use Rattle.std.proofs.Common.{◌≡◌, ◌+◌, ◌<◌, ℕ, List, [], ◌∷◌, ◌++◌, length, map, take, get_or, Bool, true, false, Option, None, Some, refl, ap, sym, ◌∙◌}
pub use Rattle.std.proofs.Common.{subst, arith, inl, inr, if◌then◌else◌, ◌==◌, slice_get, Result, Ok, Err, IfOk, zero, suc, zero-add, slice_index, ◌≤◌}
pub use Rattle.std.specs.List.{count_by, list_all, sum_by, All}
pub use Rattle.std.specs.Option.{option_map, option_to_list}
pub use Rattle.std.proofs.lemmas.Bool.{cases_Bool, eqb-true, and_parts, ltb-true}
pub use Rattle.std.proofs.lemmas.List.{take_more, map-append, length-map, take_all}
pub use Rattle.std.proofs.lemmas.List.Sums.{sum_by-cons, sum_by-take-le, count_by_more_yes, count_by_more_no}
pub use Rattle.std.specs.Prelude.{unwrap_or}
pub use Rattle.std.proofs.lemmas.Option.{slice_get-map, slice_get_cases, slice_get_read}
pub use Rattle.avr_mcu.specs.Mcu.{McuAt, start}
pub use Rattle.part_catalog.specs.declared.settings.Settings.{Settings}
pub use Rattle.part_catalog.specs.declared.kind.Kind.{Kind}
pub use Rattle.board_build.specs.declared.plan.PlanKind.{PlanKind}
pub use Rattle.board_build.specs.declared.plan.PlanPart.{PlanPart}
pub use Rattle.board_build.specs.Parts.{is_uno, is_chip}
pub use Rattle.board_build.specs.IsPlan.{can_run, kinds_in, IsPlan, contact_count}
pub use Rattle.chip_module.specs.declared.source.ChipSource.{ChipSource}
pub use Rattle.any_part.specs.AnyPart.{AnyPart, AnyState, state_of, any, cycle_of, wakes_of}
pub use Rattle.any_part.specs.Start.{Contents, chip_at_start, own_at_start, start_in, start_of, starts, new_uno, Begins, given_of, reacting}
pub use Rattle.any_part.specs.AnyBehaviour.{AnyOwn, any_reaction, a_led, a_passive, a_gate, a_shift595, a_seven, an_lcd, an_oled, own_of}
