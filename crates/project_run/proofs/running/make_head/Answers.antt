use Rattle.std.proofs.lemmas.List.Elements.{All-map}
use Rattle.board_build.specs.Pins.{IsShort}
use Rattle.chip_module.specs.declared.source.ChipSource.{ChipSource}
use Rattle.project_run.proofs.running.make_head.Goals as goal

pub wave_head-requires-clause-plan : goal.wave_head-requires-clause-plan
wave_head-requires-clause-plan c = rw (c.as_slice.ensures, c.in_ok-pins.ensures) c.requires.plan

pub wave_head-requires-clause-few_pins : goal.wave_head-requires-clause-few_pins
wave_head-requires-clause-few_pins c = rw (c.as_slice.ensures, c.in_ok-pins.ensures) (All-map IsShort (λ (s : ChipSource). s.pins) c.args.chips.now c.requires.few_pins)
