use Rattle.std.proofs.Common.{ap}
use Rattle.avr_mcu.specs.Devices.{Devices}
use Rattle.avr_mcu.specs.McuOf.{McuAt}
use Rattle.rows_wakes.proofs.LoneLemmas.{fits, fresh}
use Rattle.rows_wakes.proofs.lone.lone_board.Goals as goal

pub new-requires-3-clause-fits : goal.new-requires-3-clause-fits
new-requires-3-clause-fits c =
    let w = c.in-Ok-lone_wiring.ensures in
    fits c.in-Ok-lone_wiring.wiring c.in-Ok.mcu w.pins w.contacts w.first w.chip c.in-Ok-alone.parts c.in-Ok-alone.ensures

pub new-requires-3-clause-fresh : goal.new-requires-3-clause-fresh
new-requires-3-clause-fresh c =
    let is = c.in-Ok.ensures in
    fresh c.in-Ok.mcu c.in-Ok-alone.parts (ap (λ (m : McuAt Devices). m.cycle) is) (ap (λ (m : McuAt Devices). m.wakes) is) c.in-Ok-alone.ensures
