-- A unit by a clock of its own, which can stand still while others go on (data sheet, "Clock Systems and their
-- Distribution", clkI/O; "Power-down Mode").
use Rattle.std.specs.Prelude.{◌≡◌, ℕ, ◌+◌, ◌&&◌, List, Bool, true, false, if◌then◌else◌, None}
use Rattle.std.proofs.Common.{refl, ap}
use Rattle.sim_base.specs.declared.signal.Level.{Level}
use Rattle.avr_unit.specs.UnitMachine.{UnitMachine, Laws, powerless}

-- the unit before the step of its own `cycle`, and whether its clock runs
pub record Clocked (U : Type 0) : Type 0 where
  pub unit : U
  pub cycle : ℕ
  pub runs : Bool

module _ {U : Type 0} (m : UnitMachine U) where
  -- after reset
  abbrev pub begun : Clocked U
  begun = record { unit = m.reset; cycle = 0; runs = true }

  -- It does in its own cycles what the unit does, and keeps its state while the clock stands: from power-down on, until a
  -- vector is entered. A reset starts it anew.
  abbrev pub clocked : UnitMachine (Clocked U)
  clocked = record {
    step = λ u t before now. if u.runs then record u { unit = m.step u.unit u.cycle before now; cycle = u.cycle + 1 } else u;
    due = λ u t. u.runs && m.due u.unit u.cycle;
    requests = λ u l. m.requests u.unit l;
    pad = λ u p. m.pad u.unit p;
    sends = λ u t. if u.runs then m.sends u.unit u.cycle else None;
    has = m.has;
    answers = λ u t l a. m.answers u.unit u.cycle l a;
    read = λ u t a. record u { unit = m.read u.unit u.cycle a };
    write = λ u t a x. record u { unit = m.write u.unit u.cycle a x };
    write_bit = λ u t a k x. record u { unit = m.write_bit u.unit u.cycle a k x };
    taken = λ u v. record u { unit = m.taken u.unit v; runs = true };
    reset = begun;
    power = record powerless { restart = λ u. begun; doze = λ u. record u { runs = false } };
  }

  pub clocked_laws : Laws m → Laws clocked
  clocked_laws p = record {
    keeps_pad = λ s t l i h. kept (λ u. m.pad u i) s l (p.keeps_pad s.unit s.cycle l i) s.runs h;
    keeps_requests = λ s t l h. kept (λ u. m.requests u l) s l (p.keeps_requests s.unit s.cycle l) s.runs h;
    keeps_silent = λ s t h. silent s (p.keeps_silent s.unit s.cycle) s.runs h;
    deaf = λ s t l k h. same s l l k k (p.deaf s.unit s.cycle l k) s.runs h;
    reads_pad = λ s t a i. p.reads_pad s.unit s.cycle a i;
    taken_pad = λ s v i. p.taken_pad s.unit v i;
    power_laws = record {
      keeps_rouses = λ s t l k h. refl;
      keeps_resets = λ s t u l h. refl;
      resets_due = λ s t h. refl;
      wdr_pad = λ s t i. refl;
      doze_pad = λ s i. refl;
    };
  }
    where
      after : Clocked U → List Level → List Level → Bool → Clocked U
      after s before now b = if b then record s { unit = m.step s.unit s.cycle before now; cycle = s.cycle + 1 } else s

      kept : {X : Type 0} (f : U → X) (s : Clocked U) (l : List Level) → (m.due s.unit s.cycle ≡ false → f (m.step s.unit s.cycle l l) ≡ f s.unit) → (b : Bool) → (b && m.due s.unit s.cycle) ≡ false →
          f (after s l l b).unit ≡ f s.unit
      kept f s l law true h = law h
      kept f s l law false h = refl

      silent : (s : Clocked U) → (m.due s.unit s.cycle ≡ false → m.sends s.unit s.cycle ≡ None) → (b : Bool) → (b && m.due s.unit s.cycle) ≡ false → (if b then m.sends s.unit s.cycle else None) ≡ None
      silent s law true h = law h
      silent s law false h = refl

      same : (s : Clocked U) (a b c d : List Level) → (m.due s.unit s.cycle ≡ false → m.step s.unit s.cycle a b ≡ m.step s.unit s.cycle c d) → (r : Bool) → (r && m.due s.unit s.cycle) ≡ false →
          after s a b r ≡ after s c d r
      same s a b c d law true h = ap (λ (x : U). record s { unit = x; cycle = s.cycle + 1 }) (law h)
      same s a b c d law false h = refl
