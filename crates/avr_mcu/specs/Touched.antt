-- The units as the code has them on the bus: with the pins of which writes since an instruction began may have changed what they
-- are asked for. No public clause cites this.
use Rattle.std.specs.Prelude.{◌≡◌, ◌<◌, ℕ, ◌&&◌, nat_lt, List}
use Rattle.sim_base.specs.declared.signal.Level.{Level}
use Rattle.part_law.specs.declared.span.Span.{Span}
use Rattle.part_law.specs.Spans.{IsIn}
use Rattle.avr_unit.specs.Reach.{Touch, touched_if}
use Rattle.avr_unit.specs.UnitMachine.{UnitMachine}
use Rattle.avr_unit.specs.declared.pins.TheConstants.{PORT_PINS}
use Rattle.avr_core.specs.AvrStep.{Did}
use Rattle.avr_core.specs.Bus.{Bus}
use Rattle.avr_mcu.specs.Units.{Units, UnitsAt, after_read, data_at, with_data, with_data_bit}

pub record Touched (D : Type 0) : Type 0 where
  pub units : Units D
  pub held : List Level
  pub cycle : ℕ
  pub touched : Span

-- without them
abbrev pub bare : {D : Type 0} → Touched D → UnitsAt D
bare s = record { units = s.units; held = s.held; cycle = s.cycle }

abbrev pub bared : {D : Type 0} → Did (Touched D) → Did (UnitsAt D)
bared d = record { core = d.core; bus = bare d.bus; cycles = d.cycles }

module _ {D : Type 0} (m : UnitMachine D) where
  -- the bus, of which a write adds the pins that it touches
  abbrev pub touched_bus : Touch D → Bus (Touched D)
  touched_bus r = record {
    answers = λ s a. data_at m s.units s.cycle s.held a;
    read = λ s a. record s { units = after_read m s.units s.cycle a };
    write = λ s a x. record s { units = with_data m s.units s.cycle a x; touched = touched_if (nat_lt a 0x0100 && m.has a) (r.writes s.units.devices a x) s.touched };
    write_bit = λ s a k x. record s { units = with_data_bit m s.units s.cycle a k x; touched = touched_if (nat_lt a 0x0100 && m.has a) (r.bits s.units.devices a k x) s.touched };
  }

  -- What calls of the bus lead to: the same cycle and levels, and the same of the pins that were not touched.
  pub record Leads (s x : Touched D) : Type 0 where
    pub cycle : x.cycle ≡ s.cycle
    pub held : x.held ≡ s.held
    pub steady : (p : ℕ) → p < PORT_PINS → ¬ IsIn x.touched p → (¬ IsIn s.touched p) × (m.pad x.units.devices p ≡ m.pad s.units.devices p)
