use Rattle.std.proofs.Common.{◌∙◌, ℕ, ap}
use Rattle.avr_core.specs.AvrStep.{Did, did, entered}
use Rattle.avr_mcu.specs.Devices.{Devices, devices, devices_laws, devices_touch, devices_touches}
use Rattle.avr_mcu.specs.Touched.{Touched, bare}
use Rattle.avr_mcu.specs.Units.{UnitsAt, unit_bus}
use Rattle.avr_mcu.proofs.TouchedLemmas.{entry_is, entry_leads, leads_on, leads_by}
use Rattle.avr_mcu.proofs.mcu.enter.Goals as goal

pub returns-clause-did : goal.returns-clause-did
returns-clause-did c =
    let a = c.args in
    let after : ℕ → Did (UnitsAt Devices) → Did (UnitsAt Devices) = λ v d. record d { bus = record (d.bus) { units = record (d.bus.units) { devices = devices.taken d.bus.units.devices v } } } in
    ap (λ (x : Touched Devices). did c.enter-cycles.new.self (bare x) c.enter-cycles.result) c.taken.ensures
    ∙ ap (after c.request-vector.result) (entry_is devices devices_laws devices_touch devices_touches c.request-vector.result a.core.now a.units.now _ c.enter-cycles.ensures)
    ∙ ap (λ (v : ℕ). after v (entered (unit_bus devices) v a.core.now (bare a.units.now))) c.request-vector.ensures

pub returns-clause-leads : goal.returns-clause-leads
returns-clause-leads c =
    let a = c.args in
    let s = c.enter-cycles.new.bus in
    let v = c.request-vector.result in
    leads_on devices _ _ _ (entry_leads devices devices_laws devices_touch devices_touches c.request-vector.result a.core.now a.units.now _ c.enter-cycles.ensures) (leads_by devices s _ (devices.taken s.units.devices v) c.taken.ensures (λ p. devices_laws.taken_pad s.units.devices v p))
