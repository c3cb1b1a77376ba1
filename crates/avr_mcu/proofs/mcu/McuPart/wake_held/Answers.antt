use Rattle.std.proofs.Common.{◌∙◌, ℕ, ap, sym, subst}
use Rattle.avr_mcu.specs.Devices.{Devices, devices, devices_laws}
use Rattle.avr_mcu.specs.McuOf.{Mcu, McuAt, units_acted}
use Rattle.avr_mcu.proofs.McuLemmas.{held_woken, wake_drives, wake_drive}
use Rattle.avr_mcu.specs.contracts.mcu.Mcu.{the_view}
use Rattle.part_law.specs.Spans.{IsIn}
use Rattle.part_law.proofs.SpanLemmas.{not_in_span}
use Rattle.avr_mcu.proofs.mcu.McuPart.wake_held.Goals as goal

pub returns-clause-state : goal.returns-clause-state
returns-clause-state c =
    let i = c.self.inside in
    let s = c.args.self.now in
    let a = (the_view i).mcu in
    c.tick-turned.ensures.state i.flash
    ∙ ap (λ (t : ℕ). units_acted devices a t a.held) (ap (λ (x : McuAt Devices). x.cycle) c.self.view_is ∙ c.act.ensures.cycle)
    ∙ held_woken devices devices_laws s.mcu a s.cycle (ap (λ (x : McuAt Devices). x.mcu) c.self.view_is ∙ c.act.ensures.acted)

pub returns-clause-byte : goal.returns-clause-byte
returns-clause-byte c =
    let i = c.self.inside in
    let s = c.args.self.now in
    let a = (the_view i).mcu in
    c.tick-turned.ensures.byte ∙ ap (devices.sends a.units.devices) (ap (λ (x : McuAt Devices). x.cycle) c.self.view_is ∙ c.act.ensures.cycle)
    ∙ ap (λ (x : Mcu Devices). devices.sends x.units.devices s.cycle) (ap (λ (x : McuAt Devices). x.mcu) c.self.view_is ∙ c.act.ensures.acted)

pub returns-clause-drives : goal.returns-clause-drives
returns-clause-drives c =
    let i = c.self.inside in
    wake_drives devices devices_laws c.args.self.now.mcu.units.devices i.units.units.devices c.tick-turned.new.units.units.devices i.moved c.tick-turned.ensures.pads.0
    (λ p l out. ap (λ (x : McuAt Devices). devices.pad x.mcu.units.devices p) c.self.view_is ∙ c.act.ensures.pads p l (λ h. out (subst (λ (x : McuAt Devices). IsIn x.moved p) (sym c.self.view_is) h)))
    c.tick-turned.ensures.pads.2 _ c.tick-turned.ensures.pads.1

pub returns-clause-others : goal.returns-clause-others
returns-clause-others c = λ pin out.
    let i = c.self.inside in
    wake_drive devices devices_laws c.args.self.now.mcu.units.devices i.units.units.devices c.tick-turned.new.units.units.devices i.moved c.tick-turned.ensures.pads.0
    (λ p l out. ap (λ (x : McuAt Devices). devices.pad x.mcu.units.devices p) c.self.view_is ∙ c.act.ensures.pads p l (λ h. out (subst (λ (x : McuAt Devices). IsIn x.moved p) (sym c.self.view_is) h)))
    c.tick-turned.ensures.pads.2 _ c.tick-turned.ensures.pads.1 pin (not_in_span _ pin out)
