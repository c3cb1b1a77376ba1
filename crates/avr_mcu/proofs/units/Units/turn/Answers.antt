use Rattle.std.proofs.Common.{◌≡◌, ◌∙◌, ◌+◌, ap, subst, arith}
use Rattle.avr_mcu.specs.Devices.{Devices, devices}
use Rattle.avr_mcu.specs.Units.{pins}
use Rattle.avr_mcu.specs.Touched.{Touched}
use Rattle.avr_mcu.specs.contracts.units.Units.{the_view}
use Rattle.avr_mcu.proofs.UnitsLemmas.{units_at}
use Rattle.avr_mcu.proofs.CalmLemmas.{calm_none}
use Rattle.avr_mcu.proofs.units.Units.turn.Goals as goal

pub ask-told-requires-clause-ready : goal.ask-told-requires-clause-ready
ask-told-requires-clause-ready c = c.self.invariant.ready

pub returns-clause-byte : goal.returns-clause-byte
returns-clause-byte c = c.ask-told.ensures.told.byte_is ∙ ap (λ (y : Touched Devices). devices.sends y.units.devices y.cycle) c.self.view_is

pub returns-clause-state : goal.returns-clause-state
returns-clause-state c =
    units_at devices c.args.self.now (the_view c.self.inside) c.self.view_is (λ (y : Touched Devices). devices.step y.units.devices y.cycle (pins y.held) (pins y.held)) _ (λ (y : Touched Devices). y.cycle + 1) c.ask-told.ensures.state

pub returns-clause-pads : goal.returns-clause-pads
returns-clause-pads c = λ p l out.
    subst (λ (y : Touched Devices). devices.pad (devices.step y.units.devices y.cycle (pins y.held) (pins y.held)) p ≡ devices.pad y.units.devices p) c.self.view_is (c.ask-told.ensures.told.pads p l out)

pub invariant_of-self : goal.invariant_of-self
invariant_of-self c = record {
  sram = c.self.invariant.sram;
  ignored = c.self.invariant.ignored;
  held = c.self.invariant.held;
  ready = c.ask-told.ensures.ready;
  end = omega (arith, c.requires);
  calm = calm_none _ _ _;
}

pub returns-clause-resets : goal.returns-clause-resets
returns-clause-resets c = c.ask-told.ensures.told.resets_is ∙ ap (λ (y : Touched Devices). devices.power.resets y.units.devices y.cycle) c.self.view_is
