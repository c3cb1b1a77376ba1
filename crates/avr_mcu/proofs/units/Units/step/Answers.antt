use Rattle.std.proofs.Common.{◌≡◌, ◌∙◌, ◌+◌, length, ap, sym, arith}
use Rattle.avr_mcu.specs.Devices.{devices}
use Rattle.avr_mcu.specs.Units.{pins}
use Rattle.avr_mcu.specs.Touched.{Touched}
use Rattle.avr_mcu.specs.Devices.{Devices}
use Rattle.avr_mcu.specs.contracts.units.Units.{the_view}
use Rattle.avr_mcu.proofs.UnitsLemmas.{units_held}
use Rattle.avr_mcu.proofs.CallLemmas.{units_still}
use Rattle.avr_mcu.proofs.CalmLemmas.{calm_none}
use Rattle.avr_mcu.proofs.units.Units.step.Goals as goal

pub ask-told-requires-clause-ready : goal.ask-told-requires-clause-ready
ask-told-requires-clause-ready c = c.self.invariant.ready

pub returns-clause-byte : goal.returns-clause-byte
returns-clause-byte c = c.ask-told.ensures.told.byte_is ∙ ap (λ (y : Touched Devices). devices.sends y.units.devices y.cycle) c.self.view_is

pub returns-clause-state : goal.returns-clause-state
returns-clause-state c =
    let v = the_view c.self.inside in
    units_held devices c.args.self.now v c.self.view_is (λ (y : Touched Devices). devices.step y.units.devices y.cycle (pins y.held) (pins c.args.levels.now)) _ c.args.levels.now _ (λ (y : Touched Devices). y.cycle + 1)
    (c.ask-told.ensures.state ∙ ap (devices.step v.units.devices v.cycle (pins v.held)) c.seen.ensures.value) c.copy_from_slice.ensures.after

pub returns-clause-pads : goal.returns-clause-pads
returns-clause-pads c = λ p l out.
    units_still devices c.args.self.now (the_view c.self.inside) c.self.view_is c.args.levels.now c.seen.result.now p c.seen.ensures.value (c.ask-told.ensures.told.pads p l out)

pub invariant_of-self : goal.invariant_of-self
invariant_of-self c =
    let e : pins c.copy_from_slice.new.self ≡ c.seen.result.now = ap pins c.copy_from_slice.ensures.after ∙ sym c.seen.ensures.value in
    record {
      sram = c.self.invariant.sram;
      ignored = c.self.invariant.ignored;
      held = ap length c.copy_from_slice.ensures.after ∙ c.requires.levels;
      ready = rw e c.ask-told.ensures.ready;
      end = omega (arith, c.requires.end);
      calm = calm_none _ _ _;
    }

pub returns-clause-resets : goal.returns-clause-resets
returns-clause-resets c = c.ask-told.ensures.told.resets_is ∙ ap (λ (y : Touched Devices). devices.power.resets y.units.devices y.cycle) c.self.view_is
