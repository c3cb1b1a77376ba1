-- Which pins writes of registers reach. It is said beside the machine of a unit, which has the hardware alone.
use Rattle.std.specs.Prelude.{◌≡◌, ℕ, Bool, true, false, if◌then◌else◌}
use Rattle.std.proofs.Common.{refl}
use Rattle.part_law.specs.declared.span.Span.{Span}
use Rattle.part_law.specs.Spans.{no_pins}
use Rattle.avr_unit.specs.Both.{both, pads}
use Rattle.avr_unit.specs.Clocked.{Clocked, clocked}
use Rattle.avr_unit.specs.Placed.{Placed, SameBut, IsWithin, hull, apart_hull, placed_same}
use Rattle.avr_unit.specs.Power.{powered}
use Rattle.avr_unit.specs.UnitMachine.{UnitMachine}

-- Of a unit: for its state, a register, and a value or a bit with its value, the pins of which the write may change what it asks.
pub record Reach (U : Type 0) : Type 0 where
  pub writes : U → ℕ → ℕ → Span
  pub bits : U → ℕ → ℕ → Bool → Span

-- a write leaves what it asks of every other pin, and so does one of one bit alone
pub record Reaches {U : Type 0} (m : UnitMachine U) (r : Reach U) : Type 0 where
  pub writes : (s : U) (t a x : ℕ) → SameBut m (r.writes s a x) (m.write s t a x) s
  pub bits : (s : U) (t a k : ℕ) (x : Bool) → SameBut m (r.bits s a k x) (m.write_bit s t a k x) s

-- a unit that asks the same of pins in each state
abbrev pub nowhere : {U : Type 0} → Reach U
nowhere = record { writes = λ u a x. no_pins; bits = λ u a k x. no_pins }

pub nowhere_reaches : {U : Type 0} (m : UnitMachine U) → ((new old : U) (p : ℕ) → m.pad new p ≡ m.pad old p) → Reaches m nowhere
nowhere_reaches m same = record { writes = λ s t a x p less out. same _ _ p; bits = λ s t a k x p less out. same _ _ p }

-- a unit of which some registers may move its pins, and others none
abbrev pub by_register : {U : Type 0} → (ℕ → Bool) → Span → Reach U
by_register moves pins = record { writes = λ u a x. if moves a then pins else no_pins; bits = λ u a k x. if moves a then pins else no_pins }

pub by_register_reaches : {U : Type 0} (m : UnitMachine U) (moves : ℕ → Bool) (pins : Span) → Placed m pins →
    ((s : U) (t a x p : ℕ) → moves a ≡ false → m.pad (m.write s t a x) p ≡ m.pad s p) →
    ((s : U) (t a k : ℕ) (x : Bool) (p : ℕ) → moves a ≡ false → m.pad (m.write_bit s t a k x) p ≡ m.pad s p) → Reaches m (by_register moves pins)
by_register_reaches {U} m moves pins placed wrote wrote_bit = record {
  writes = λ s t a x. by (m.write s t a x) s (moves a) (wrote s t a x);
  bits = λ s t a k x. by (m.write_bit s t a k x) s (moves a) (wrote_bit s t a k x);
}
  where
    by : (new old : U) (b : Bool) → ((p : ℕ) → b ≡ false → m.pad new p ≡ m.pad old p) → SameBut m (if b then pins else no_pins) new old
    by new old true same = placed_same m pins placed new old
    by new old false same = λ p less out. same p refl

-- Of any number of units: the same pins, with some that were touched before.
pub record Touch (U : Type 0) : Type 0 where
  pub writes : U → ℕ → ℕ → Span → Span
  pub bits : U → ℕ → ℕ → Bool → Span → Span

-- these are still there, and a write leaves what is asked of every other pin
abbrev pub Adds : {U : Type 0} → UnitMachine U → U → U → Span → Span → Type 0
Adds m new old touched pins = IsWithin touched pins × SameBut m pins new old

pub record Touches {U : Type 0} (m : UnitMachine U) (r : Touch U) : Type 0 where
  pub writes : (s : U) (t a x : ℕ) (touched : Span) → Adds m (m.write s t a x) s touched (r.writes s a x touched)
  pub bits : (s : U) (t a k : ℕ) (x : Bool) (touched : Span) → Adds m (m.write_bit s t a k x) s touched (r.bits s a k x touched)

-- one unit
abbrev pub alone : {U : Type 0} → Reach U → Touch U
alone r = record { writes = λ u a x touched. hull touched (r.writes u a x); bits = λ u a k x touched. hull touched (r.bits u a k x) }

pub alone_touches : {U : Type 0} (m : UnitMachine U) (r : Reach U) → Reaches m r → Touches m (alone r)
alone_touches m r h = record {
  writes = λ s t a x touched. (λ p out. (apart_hull touched (r.writes s a x) p out).0, λ p less out. h.writes s t a x p less (apart_hull touched (r.writes s a x) p out).1);
  bits = λ s t a k x touched. (λ p out. (apart_hull touched (r.bits s a k x) p out).0, λ p less out. h.bits s t a k x p less (apart_hull touched (r.bits s a k x) p out).1);
}

-- what units add that get the write where they have the register
abbrev pub touched_if : Bool → (Span → Span) → Span → Span
touched_if has adds touched = if has then adds touched else touched

module _ {A B : Type 0} (m : UnitMachine A) (n : UnitMachine B) (p : Touch A) (q : Touch B) where
  -- two side by side
  abbrev pub both_touch : Touch (A × B)
  both_touch = record {
    writes = λ u a x touched. touched_if (m.has a) (p.writes u.0 a x) (touched_if (n.has a) (q.writes u.1 a x) touched);
    bits = λ u a k x touched. touched_if (m.has a) (p.bits u.0 a k x) (touched_if (n.has a) (q.bits u.1 a k x) touched);
  }

  pub both_touches : Touches m p → Touches n q → Touches (both m n) both_touch
  both_touches h k = record {
    writes = λ s t a x touched.
        let second = by_has n (n.has a) (q.writes s.1 a x) (n.write s.1 t a x) s.1 (k.writes s.1 t a x) touched in
        let first = by_has m (m.has a) (p.writes s.0 a x) (m.write s.0 t a x) s.0 (h.writes s.0 t a x) (touched_if (n.has a) (q.writes s.1 a x) touched) in
        (λ i out. second.0 i (first.0 i out), λ i less out. pads m n _ _ _ _ (first.1 i less out) (second.1 i less (first.0 i out)));
    bits = λ s t a b x touched.
        let second = by_has n (n.has a) (q.bits s.1 a b x) (n.write_bit s.1 t a b x) s.1 (k.bits s.1 t a b x) touched in
        let first = by_has m (m.has a) (p.bits s.0 a b x) (m.write_bit s.0 t a b x) s.0 (h.bits s.0 t a b x) (touched_if (n.has a) (q.bits s.1 a b x) touched) in
        (λ i out. second.0 i (first.0 i out), λ i less out. pads m n _ _ _ _ (first.1 i less out) (second.1 i less (first.0 i out)));
  }
    where
      by_has : {U : Type 0} (o : UnitMachine U) (has : Bool) (adds : Span → Span) (new old : U) → ((touched : Span) → Adds o new old touched (adds touched)) →
          (touched : Span) → Adds o (if has then new else old) old touched (touched_if has adds touched)
      by_has o true adds new old law touched = law touched
      by_has o false adds new old law touched = (λ i out. out, λ i less out. refl)

module _ {U : Type 0} (m : UnitMachine U) (r : Touch U) where
  -- one by a clock
  abbrev pub clocked_touch : Touch (Clocked U)
  clocked_touch = record { writes = λ u a x touched. r.writes u.unit a x touched; bits = λ u a k x touched. r.bits u.unit a k x touched }

  pub clocked_touches : Touches m r → Touches (clocked m) clocked_touch
  clocked_touches h = record {
    writes = λ s t a x touched. let w = h.writes s.unit s.cycle a x touched in (w.0, λ i less out. w.1 i less out);
    bits = λ s t a k x touched. let w = h.bits s.unit s.cycle a k x touched in (w.0, λ i less out. w.1 i less out);
  }

-- units of which some go on in power-down
module _ {A B : Type 0} (m : UnitMachine A) (n : UnitMachine B) (p : Touch A) (q : Touch B) where
  abbrev pub powered_touch : Touch (A × Clocked B)
  powered_touch = both_touch m (clocked n) p (clocked_touch n q)

  pub powered_touches : Touches m p → Touches n q → Touches (powered m n) powered_touch
  powered_touches h k =
      let w = both_touches m (clocked n) p (clocked_touch n q) h (clocked_touches n q k) in
      record { writes = w.writes; bits = w.bits }
