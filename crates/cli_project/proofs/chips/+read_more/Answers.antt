use Rattle.cli_project.proofs.Common.{List, refl, subst, sym, err_from_is_err_and, All-push, ChipSource, outcome_of}
use Rattle.std.specs.List.{All}
use Rattle.chip_module.specs.Sources.{HasFewPins}
use Rattle.cli_project.proofs.ProjectLemmas.{first_chip_stops, more_chips_got, more_counted, no_chips, same_both}
use Rattle.cli_project.proofs.chips.+read_more.Goals as goal

pub returns-in_err-source-in-len1-up-clause-got : goal.returns-in_err-source-in-len1-up-clause-got
returns-in_err-source-in-len1-up-clause-got g t c =
    let q = err_from_is_err_and c.from_residual.result c.from_residual.ensures.1 in
    let e = c.in_err-source-in-len1-up.field-0.0 in
    rw (q.1, q.2) (first_chip_stops c.args.folder.now c.args.read _ c.chip-item.result c.args.chips.now c.in-len1-up.len_at_least c.chip-item.is (outcome_of e) _ _ c.in_err-source-in-len1-up.ensures.got)

pub returns-in-empty-clause-got : goal.returns-in-empty-clause-got
returns-in-empty-clause-got g t c = (no_chips c.args.folder.now c.args.read c.args.chips.now c.in-empty.len_below (g.B.Bench.outside c.args.bench.now).files, refl)

pub returns-in-Ok-clause-got : goal.returns-in-Ok-clause-got
returns-in-Ok-clause-got g t c =
    more_chips_got c.args.folder.now c.args.read outcome_of _ c.chip-item.result c.args.chips.now c.in-len1-up.len_at_least c.chip-item.is c.in_ok-source-in-len1-up.source c.push.new.self c.in-Ok.ensures.ok c.read_more.result _ _ _
    c.in_ok-source-in-len1-up.ensures.ports c.in_ok-source-in-len1-up.ensures.got c.read_more.ensures.got

pub returns-in-Ok-clause-few : goal.returns-in-Ok-clause-few
returns-in-Ok-clause-few g t c = λ all. c.read_more.ensures.few (subst (λ (l : List ChipSource). All HasFewPins l) (sym c.in-Ok.ensures.ok) (All-push HasFewPins c.args.read c.in_ok-source-in-len1-up.source all c.in_ok-source-in-len1-up.ensures.few))

pub returns-in-Ok-clause-ports : goal.returns-in-Ok-clause-ports
returns-in-Ok-clause-ports g t c =
    same_both (g.B.Bench.outside c.args.bench.now) (g.B.Bench.outside c.read_chip.new.bench) (g.B.Bench.outside c.read_more.new.bench) c.in_ok-source-in-len1-up.ensures.ports c.read_more.ensures.ports

pub returns-in-Ok-clause-count : goal.returns-in-Ok-clause-count
returns-in-Ok-clause-count g t c =
    more_counted c.args.folder.now c.args.read _ c.chip-item.result c.args.chips.now c.in-len1-up.len_at_least c.chip-item.is c.in_ok-source-in-len1-up.source c.push.new.self c.in-Ok.ensures.ok c.read_more.result c.read_more.ensures.count
