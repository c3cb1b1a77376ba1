use Rattle.std.proofs.Common.{ap, ◌∙◌}
use Rattle.chip_host.specs.Inventory.{HostState}
use Rattle.chip_host.specs.Chip.{ChipAt, chip_from, chip_drive}
use Rattle.chip_host.proofs.turns.Turns.take_turns.Goals as goal

pub returns-clause-drives : goal.returns-clause-drives
returns-clause-drives c = λ i l out.
    let own = c.self.inside in
    let none = c.all_if.ensures i l out in
    ap (λ (h : HostState). chip_drive (chip_from own.instance h own.budget own.dead) i) c.pass_to.ensures
    ∙ ap (λ (a : ChipAt). chip_drive a.chip i) c.self.view_is
    ∙ c.engine_turns-moved.ensures.drives i l none.2
    ∙ ap (λ (a : ChipAt). chip_drive a.chip i) (c.watch_turns-called.ensures.rests none.1 ∙ c.timer_turns-fired.ensures.rests none.0)
