-- The names that most proofs of this crate cite, passed on from one place. Declares nothing.
pub use Rattle.std.proofs.Common.{◌≡◌, ◌∙◌, ◌≤◌, ◌<◌, ◌||◌, ℕ, zero, suc, List, [], ◌∷◌, map, Bool, true, false, Option, Some, None, Result, Ok, Err, IfOk}
pub use Rattle.std.proofs.Common.{slice_get, nat_lt, nat_le, if◌then◌else◌, refl, ap, sym, subst, arith, ◌⊎◌, ◌++◌, ◌-◌, ◌+◌, length, length-append, take}
pub use Rattle.std.proofs.Common.{drop, slice_index_or, inl, inr, IfSome, codes, Bor}
pub use Rattle.std.specs.Option.{option_map}
pub use Rattle.std.proofs.lemmas.Result.{err_from_is_err_and}
pub use Rattle.std.proofs.lemmas.List.Elements.{All-push, All-map}
pub use Rattle.sim_base.specs.declared.fault.Refusal.{Refusal}
pub use Rattle.input_texts.specs.declared.script.ScriptRow.{ScriptRow}
pub use Rattle.sim_base.specs.Outside.{Outside, SamePorts, Files}
pub use Rattle.text_model.specs.Hex.{hex_image}
pub use Rattle.document_model.specs.Project.{project_text}
pub use Rattle.document_model.specs.declared.project.ChipFile.{ChipFile}
pub use Rattle.chip_json.specs.Display.{pins_and_display}
pub use Rattle.chip_module.specs.Binary.{Binary, Judges}
pub use Rattle.chip_module.specs.declared.source.ChipSource.{ChipSource}
pub use Rattle.sim_outcome_model.specs.Stop.{Stop, Texts, accepted, printed}
pub use Rattle.sim_outcome_model.specs.Work.{Reading, Is, ReadStops, Got, IsSteady, IsOneReading, IsFile, JudgedFile, Then, IsFileWithin}
pub use Rattle.sim_outcome_model.proofs.ReadLemmas.{if_always, first_stops, got_both, steady_file, steady_within, steady_both, steady_rule, one_file, one_within}
pub use Rattle.sim_outcome_model.proofs.ReadLemmas.{one_function, one_both, named_stop}
pub use Rattle.sim_outcome_model.proofs.JudgeLemmas.{steady_judged, one_judged}
pub use Rattle.sim_outcome_model.proofs.EndLemmas.{answered, answer_stops, only_texts, one_answer, alone_ran}
pub use Rattle.sim_io.specs.Outcomes.{outcome_of, stop_of}
pub use Rattle.project_model.specs.Work.{in_folder, PinsIn, ChipsAfter, BehindChips, diagram_name, drawn, BehindDiagram, BehindFirmware, ScriptIn, WaveIn}
pub use Rattle.project_model.specs.Work.{PlanIn, BehindScript, BehindProject}
pub use Rattle.document_model.proofs.LimitLemmas.{few_parts, few_chips}
pub use Rattle.cli_project.specs.Works.{IsRising, cycles_of, work_of, script_path, wave_path, planned}
