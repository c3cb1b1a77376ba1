use Rattle.std.proofs.Common.{ap, nat_lt}
use Rattle.part_law.specs.declared.span.Span.{Span}
use Rattle.avr_mcu.proofs.units.Units.begin.Goals as goal

pub invariant_of-self : goal.invariant_of-self
invariant_of-self c = record {
  sram = c.self.invariant.sram;
  ignored = c.self.invariant.ignored;
  held = c.self.invariant.held;
  ready = c.self.invariant.ready;
  end = c.self.invariant.end;
  calm = record {
    before = c.self.invariant.calm.before;
    passes = c.self.invariant.calm.passes;
    still = λ h. ap (λ (s : Span). nat_lt s.from s.to) c.none-self-inside.ensures;
  };
}
