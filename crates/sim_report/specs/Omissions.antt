-- The lines of what firmware asked for that is left out: one for each thing, in the order of their registers' addresses.
use Rattle.std.specs.Prelude.{ℕ, List, [], map, Option, None, Some}
use Rattle.std.specs.List.{concat}
use Rattle.avr_omit.specs.declared.omission.Omission.{Omission}
use Rattle.avr_omit.specs.declared.kept.Asked.{Asked}
use Rattle.avr_omit.specs.Kept.{asked_for}
use Rattle.avr_omit.specs.Names.{all}
use Rattle.sim_report.specs.declared.row.ReportRow.TheVariants as rows
use Rattle.sim_report.specs.Lines.{line_of}

-- the line of a thing, where it was asked for
abbrev pub asked_text : List ℕ → Omission → Option Asked → List ℕ
asked_text id omission None = []
asked_text id omission (Some asked) = line_of (rows.Omits id omission asked)

abbrev pub omission_text : List ℕ → List (Option Asked) → Omission → List ℕ
omission_text id kept omission = asked_text id omission (asked_for omission kept)

abbrev pub omissions_text : List ℕ → List (Option Asked) → List ℕ
omissions_text id kept = concat (map (omission_text id kept) all)
