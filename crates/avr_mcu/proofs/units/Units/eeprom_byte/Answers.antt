use Rattle.std.proofs.Common.{◌∙◌, ap, sym}
use Rattle.std.specs.Prelude.{slice_index}
use Rattle.avr_keep.specs.Keep.{Keep}
use Rattle.avr_keep.proofs.KeepLemmas.{stays_behind}
use Rattle.avr_unit.specs.Late.{Behind}
use Rattle.avr_mcu.specs.Devices.{Devices, eeprom_cells}
use Rattle.avr_mcu.specs.Touched.{Touched}
use Rattle.avr_mcu.specs.Units.{pins}
use Rattle.avr_mcu.specs.contracts.units.Units.{the_view}
use Rattle.avr_mcu.proofs.units.Units.eeprom_byte.Goals as goal

pub returns : goal.returns
returns c =
    let i = c.self.inside in
    let v = the_view i in
    let behind = c.unit.ensures (pins i.held) i.cycle c.self.invariant.ready.asked.awake.1 in
    c.cell.ensures
    ∙ ap (λ (k : Keep). slice_index k.eeprom.cells c.args.address) (sym (stays_behind _ i.cycle v.units.devices.0.1 behind))
    ∙ ap (λ (x : Touched Devices). slice_index (eeprom_cells x.units.devices) c.args.address) c.self.view_is
