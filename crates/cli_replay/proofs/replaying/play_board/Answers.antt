use Rattle.std.proofs.Common.{◌∙◌, ℕ, ap, map, false, refl, subst, sym, arith}
use Rattle.std.specs.List.{All}
use Rattle.std.proofs.lemmas.List.Elements.{All-map}
use Rattle.board_model.specs.Fits.{AreInputs}
use Rattle.board_run.specs.BoardView.{BoardView}
use Rattle.law_board.specs.Play.{or_player}
use Rattle.board_build.specs.Pins.{IsShort}
use Rattle.chip_module.specs.declared.source.ChipSource.{ChipSource}
use Rattle.chip_module.specs.Sources.{pins_of}
use Rattle.any_part.specs.AnyPart.{any}
use Rattle.board_report.specs.Report.{play_part_text}
use Rattle.part_played.specs.Played.{PlayedPart, state_of}
use Rattle.board_outputs.specs.Outputs.{outputs_of}
use Rattle.board_outputs.specs.Start.{IsAtStart}
use Rattle.sim_io.specs.Outcomes.{outcome_of}
use Rattle.project_run.proofs.PlayLemmas.{same_texts}
use Rattle.board_outputs.proofs.VariableLemmas.{pins_few}
use Rattle.cli_replay.proofs.ReplayLemmas.{same_wakes}
use Rattle.cli_replay.proofs.replaying.play_board.Goals as goal

pub load_played-requires-clause-rows : goal.load_played-requires-clause-rows
load_played-requires-clause-rows g c =
    let short : All IsShort (pins_of c.args.play.work.chips) = All-map IsShort (λ (chip : ChipSource). chip.pins) c.args.play.work.chips c.requires.ready.sound.few_pins in
    record {
      pins = c.requires.ready.pins;
      few = omega (arith, c.requires.ready.pins, pins_few (pins_of c.args.play.work.chips) c.args.play.work.plan short c.requires.ready.sound.plan);
      order = c.requires.ready.order;
    }

pub new-requires : goal.new-requires
new-requires g c =
    let sound = c.requires.ready.sound in
    let loaded = c.in-Ok.ensures in
    record {
      few = omega (arith, loaded.all, sound.plan.few);
      wiring = sound.plan.wiring;
      fits = loaded.fits;
      inputs = subst (λ (k : ℕ). AreInputs k c.args.play.work.plan.inputs) (sym loaded.all) sound.inputs;
      fresh = loaded.fresh;
    }

pub write_run-requires-clause-start : goal.write_run-requires-clause-start
write_run-requires-clause-start g c = subst IsAtStart (sym c.in-Ok-new.ensures) (record { cycle = refl; alive = refl; before = refl })

pub returns-clause-ran : goal.returns-clause-ran
returns-clause-ran g c =
    let is = c.in-Ok-new.ensures in
    same_texts (or_player any) play_part_text false (outcome_of c.write_run.result) (outputs_of c.args.outputs) c.args.n (g.B.Bench.outside c.args.bench.now) (g.B.Bench.outside c.write_run.new.bench) _ _ _ _ _ _ _ _ _ _
    c.requires.ready.head (ap (λ (x : BoardView PlayedPart). x.wiring) is) (ap (λ (x : BoardView PlayedPart). x.inputs) is)
    (ap (λ (x : BoardView PlayedPart). map state_of x.parts) is ∙ rw c.as_slice.ensures at c.in-Ok.ensures.states) refl (c.write_run.ensures.ran _ (λ parts same. same))

pub returns-clause-steps : goal.returns-clause-steps
returns-clause-steps g c accepted =
    let is = c.in-Ok-new.ensures in
    same_wakes (or_player any) c.args.n c.args.steps.now c.write_run.new.steps _ _ _ _ _ _
    (ap (λ (x : BoardView PlayedPart). x.wiring) is) (ap (λ (x : BoardView PlayedPart). x.inputs) is)
    (ap (λ (x : BoardView PlayedPart). map state_of x.parts) is ∙ rw c.as_slice.ensures at c.in-Ok.ensures.states)
    (c.write_run.ensures.steps accepted)
