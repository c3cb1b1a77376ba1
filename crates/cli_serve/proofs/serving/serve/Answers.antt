use Rattle.std.proofs.Common.{◌∙◌, ℕ, List, Bool, Bor, Option, subst}
use Rattle.std.specs.Prelude.{is_some}
use Rattle.std.specs.Option.{option_map}
use Rattle.sim_base.specs.Outside.{Outside}
use Rattle.sim_outcome_model.specs.Outcome.{Outcome}
use Rattle.sim_io.specs.Outcomes.{outcome_of}
use Rattle.any_part.specs.Start.{Contents}
use Rattle.board_outputs.proofs.StageLemmas.{is_named}
use Rattle.chip_module.specs.declared.source.ChipSource.{ChipSource}
use Rattle.project_model.specs.Work.{Work}
use Rattle.cli_project.specs.Works.{script_path, work_of}
use Rattle.law_isolation.specs.Isolated.{Isolated}
use Rattle.live_model.specs.Standing.{Standing, opened}
use Rattle.live_project.specs.Start.{setup_of}
use Rattle.cli_serve.specs.Answer.{Whatever, contents}
use Rattle.cli_serve.specs.Conversed.{Held}
use Rattle.cli_serve.proofs.ServeLemmas.{serve_stops}
use Rattle.cli_serve.proofs.HeldLemmas.{held_ends, held_counts, some_talk, talk_isolated, unopened_ends}
use Rattle.cli_serve.proofs.serving.serve.Goals as goal

pub returns-in-Err-clause-ends : goal.returns-in-Err-clause-ends
returns-in-Err-clause-ends g c =
    serve_stops Whatever (g.B.Bench.outside c.args.bench.now).requests c.args.scripted.folder.now c.args.budget (script_path c.args.scripted) (option_map (λ (f : Bor (List ℕ)). f.now) c.args.wave) (outcome_of c.in-Err.outcome) _ _ c.in-Err.ensures.got c.in-Err.ensures.ports

pub returns-in-Err-clause-isolated : goal.returns-in-Err-clause-isolated
returns-in-Err-clause-isolated g c =
    serve_stops Isolated (g.B.Bench.outside c.args.bench.now).requests c.args.scripted.folder.now c.args.budget (script_path c.args.scripted) (option_map (λ (f : Bor (List ℕ)). f.now) c.args.wave) (outcome_of c.in-Err.outcome) _ _ c.in-Err.ensures.got c.in-Err.ensures.ports

pub returns-in-Ok-open_wave : goal.returns-in-Ok-open_wave
returns-in-Ok-open_wave g c =
    let a : Outside = g.B.Bench.outside c.args.bench.now in
    let m : Outside = g.B.Bench.outside c.read_work.new.bench in
    let o : Outside = g.B.Bench.outside c.open_wave.new.bench in
    let e : Outside = g.B.Bench.outside c.hold_talk.new.bench in
    let folder : List ℕ = c.args.scripted.folder.now in
    let budget : ℕ = c.args.budget in
    let script : Option (List ℕ) = script_path c.args.scripted in
    let wave : Option (List ℕ) = option_map (λ (f : Bor (List ℕ)). f.now) c.args.wave in
    let work : Work = work_of c.in-Ok.work in
    let outcome : Outcome = outcome_of c.hold_talk.result in
    let has : List ChipSource → Contents = λ (chips : List ChipSource). record { flash = work.flash; chips = chips; budget = budget } in
    let made = c.hold_talk.ensures.held (has c.as_slice.result.now) work.plan c.in-Ok-load.ensures in
    let named = c.is_some.ensures ∙ is_named (λ (f : Bor (List ℕ)). f.now) c.args.wave in
    let wanted : Held (setup_of (has c.as_slice.result.now) work.plan (is_some wave)) o (opened work.plan.inputs) outcome o e c.args.steps.now c.hold_talk.new.steps =
    subst (λ (w : Bool). Held (setup_of (has c.as_slice.result.now) work.plan w) o (opened work.plan.inputs) outcome o e c.args.steps.now c.hold_talk.new.steps) named made in
    let held : Held (setup_of (contents work budget) work.plan (is_some wave)) o (opened work.plan.inputs) outcome o e c.args.steps.now c.hold_talk.new.steps =
    subst (λ (chips : List ChipSource). Held (setup_of (has chips) work.plan (is_some wave)) o (opened work.plan.inputs) outcome o e c.args.steps.now c.hold_talk.new.steps) c.as_slice.ensures wanted in
    let got = c.in-Ok.ensures.got in
    let same = c.in-Ok.ensures.ports in
    let sound = c.in-Ok.ensures.sound in
    let plain = held_ends Whatever folder budget script wave work a m got.1 same got.0 (λ s said requests talked. tt) o e c.args.steps.now c.hold_talk.new.steps c.in-Ok-open_wave.ensures outcome held in
    let alone = talk_isolated (contents work budget) work.plan (is_some wave) sound.plan sound.inputs in
    let apart = held_ends Isolated folder budget script wave work a m got.1 same got.0 (λ s said requests talked. alone requests s said talked) o e c.args.steps.now c.hold_talk.new.steps c.in-Ok-open_wave.ensures outcome held in
    record {
      ends = plain.0;
      isolated = apart.0;
      counts = held_counts Whatever folder budget script wave work a m got.1 same got.0 (λ s said requests talked. tt) o e c.args.steps.now c.hold_talk.new.steps c.in-Ok-open_wave.ensures outcome held;
      silent = plain.1;
    }

pub returns-clause-ends : goal.returns-clause-ends
returns-clause-ends g c =
    let work : Work = work_of c.in-Ok.work in
    let wave : Option (List ℕ) = option_map (λ (f : Bor (List ℕ)). f.now) c.args.wave in
    let m : Outside = g.B.Bench.outside c.read_work.new.bench in
    let x = some_talk (setup_of (contents work c.args.budget) work.plan (is_some wave)) (opened work.plan.inputs) m.requests in
    (unopened_ends Whatever c.args.scripted.folder.now c.args.budget (script_path c.args.scripted) wave work (g.B.Bench.outside c.args.bench.now) m c.in-Ok.ensures.got.1 c.in-Ok.ensures.ports c.in-Ok.ensures.got.0
    (g.B.Bench.outside c.open_wave.new.bench) x.0 x.1 x.2 tt c.in-Failed.ensures).0

pub returns-clause-isolated : goal.returns-clause-isolated
returns-clause-isolated g c =
    let work : Work = work_of c.in-Ok.work in
    let wave : Option (List ℕ) = option_map (λ (f : Bor (List ℕ)). f.now) c.args.wave in
    let m : Outside = g.B.Bench.outside c.read_work.new.bench in
    let sound = c.in-Ok.ensures.sound in
    let x = some_talk (setup_of (contents work c.args.budget) work.plan (is_some wave)) (opened work.plan.inputs) m.requests in
    let alone = talk_isolated (contents work c.args.budget) work.plan (is_some wave) sound.plan sound.inputs in
    (unopened_ends Isolated c.args.scripted.folder.now c.args.budget (script_path c.args.scripted) wave work (g.B.Bench.outside c.args.bench.now) m c.in-Ok.ensures.got.1 c.in-Ok.ensures.ports c.in-Ok.ensures.got.0
    (g.B.Bench.outside c.open_wave.new.bench) x.0 x.1 x.2 (alone m.requests x.0 x.1 x.2) c.in-Failed.ensures).0
