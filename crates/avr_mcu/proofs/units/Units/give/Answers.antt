use Rattle.avr_mcu.proofs.CalmLemmas.{calm_none}
use Rattle.avr_mcu.proofs.units.Units.give.Goals as goal

pub invariant_of-self : goal.invariant_of-self
invariant_of-self c = record {
  sram = c.self.invariant.sram;
  ignored = c.self.invariant.ignored;
  held = c.self.invariant.held;
  ready = c.ask.ensures.ready;
  end = c.self.invariant.end;
  calm = calm_none _ _ _;
}
