-- What comes next of units behind an access to one of their registers.
use Rattle.std.proofs.Common.{◌≡◌, ◌∙◌, ℕ, ◌+◌, List, [], Bool, true, false, ◌⊎◌, inl, inr, ap, sym, subst, refl}
use Rattle.std.specs.Prelude.{if◌then◌else◌, ◌||◌, ◌++◌}
use Rattle.sim_base.specs.declared.signal.Level.{Level}
use Rattle.avr_unit.specs.declared.request.Request.{Request}
use Rattle.avr_unit.specs.UnitMachine.{UnitMachine, steps}
use Rattle.avr_unit.specs.Both.{both}
use Rattle.avr_unit.specs.Clock.{steps_run, steps_stand}
use Rattle.avr_unit.specs.Clocked.{Clocked, clocked}
use Rattle.avr_unit.specs.Power.{is_heard, powered}
use Rattle.avr_unit.specs.PowerLaws.{steps_powered}
use Rattle.avr_unit.specs.BothLaws.{steps_both}
use Rattle.avr_unit.specs.Next.{SameNext, WritesKeepNext}

-- units that are as before, and units that an access has left as others
same_next : {U : Type 0} (m : UnitMachine U) (t : ℕ) (s : U) → SameNext m t s s
same_next m t s = record { events = λ k. refl; requests = λ l. refl; rouses = λ l. refl }

pub next_by : {U : Type 0} (m : UnitMachine U) (t : ℕ) (new made old : U) → new ≡ made → SameNext m t made old → SameNext m t new old
next_by m t new made old is same = subst (λ x. SameNext m t x old) (sym is) same

pub next_kept : {U : Type 0} (m : UnitMachine U) (t : ℕ) (new old : U) → new ≡ old → SameNext m t new old
next_kept m t new old is = next_by m t new old old is (same_next m t old)

-- a write that goes to units where they have the register
module _ {U : Type 0} (m : UnitMachine U) where
  where_had : (b : Bool) (t : ℕ) (new old : U) → (b ≡ false) ⊎ SameNext m t new old → SameNext m t (if b then new else old) old
  where_had b t new old (inl none) = next_kept m t (if b then new else old) old (ap (λ (x : Bool). if x then new else old) none)
  where_had true t new old (inr same) = same
  where_had false t new old (inr same) = same_next m t old

  wrote : (a : ℕ) → (m.has a ≡ false) ⊎ WritesKeepNext m a → (s : U) (t x : ℕ) → SameNext m t (if m.has a then m.write s t a x else s) s
  wrote a (inl none) s t x = where_had (m.has a) t (m.write s t a x) s (inl none)
  wrote a (inr keeps) s t x = where_had (m.has a) t (m.write s t a x) s (inr (keeps.writes s t x))

  wrote_bit : (a : ℕ) → (m.has a ≡ false) ⊎ WritesKeepNext m a → (s : U) (t k : ℕ) (x : Bool) → SameNext m t (if m.has a then m.write_bit s t a k x else s) s
  wrote_bit a (inl none) s t k x = where_had (m.has a) t (m.write_bit s t a k x) s (inl none)
  wrote_bit a (inr keeps) s t k x = where_had (m.has a) t (m.write_bit s t a k x) s (inr (keeps.bits s t k x))

-- two side by side
module _ {A B : Type 0} (m : UnitMachine A) (n : UnitMachine B) where
  both_next : (t : ℕ) (new old : A × B) → SameNext m t new.0 old.0 → SameNext n t new.1 old.1 → SameNext (both m n) t new old
  both_next t new old p q = record {
    events = λ k.
        ap (λ (x : A × B). (both m n).due x (t + k)) (steps_both m n new t k)
        ∙ ap (λ (b : Bool). b || n.due (steps n new.1 t k) (t + k)) (p.events k)
        ∙ ap (λ (b : Bool). m.due (steps m old.0 t k) (t + k) || b) (q.events k)
        ∙ sym (ap (λ (x : A × B). (both m n).due x (t + k)) (steps_both m n old t k));
    requests = λ l. ap (λ (r : List Request). r ++ n.requests new.1 l) (p.requests l) ∙ ap (λ (r : List Request). m.requests old.0 l ++ r) (q.requests l);
    rouses = λ l. ap (λ (b : Bool). b || n.power.rouses new.1 l) (p.rouses l) ∙ ap (λ (b : Bool). m.power.rouses old.0 l || b) (q.rouses l);
  }

  pub both_writes : (a : ℕ) → (m.has a ≡ false) ⊎ WritesKeepNext m a → (n.has a ≡ false) ⊎ WritesKeepNext n a → WritesKeepNext (both m n) a
  both_writes a p q = record {
    writes = λ s t x. both_next t ((both m n).write s t a x) s (wrote m a p s.0 t x) (wrote n a q s.1 t x);
    bits = λ s t k x. both_next t ((both m n).write_bit s t a k x) s (wrote_bit m a p s.0 t k x) (wrote_bit n a q s.1 t k x);
  }

-- a unit by a clock
module _ {U : Type 0} (n : UnitMachine U) where
  clocked_next : (new old : U) (c t : ℕ) (r : Bool) → SameNext n c new old → SameNext (clocked n) t (record { unit = new; cycle = c; runs = r }) (record { unit = old; cycle = c; runs = r })
  clocked_next new old c t true p = record {
    events = λ k.
        ap (λ (x : Clocked U). (clocked n).due x (t + k)) (steps_run n new c t k) ∙ p.events k
        ∙ sym (ap (λ (x : Clocked U). (clocked n).due x (t + k)) (steps_run n old c t k));
    requests = p.requests;
    rouses = λ l. refl;
  }
  clocked_next new old c t false p = record {
    events = λ k.
        ap (λ (x : Clocked U). (clocked n).due x (t + k)) (steps_stand n new c t k)
        ∙ sym (ap (λ (x : Clocked U). (clocked n).due x (t + k)) (steps_stand n old c t k));
    requests = p.requests;
    rouses = λ l. refl;
  }

  pub clocked_writes : (a : ℕ) → (n.has a ≡ false) ⊎ WritesKeepNext n a → (n.has a ≡ false) ⊎ WritesKeepNext (clocked n) a
  clocked_writes a (inl none) = inl none
  clocked_writes a (inr keeps) = inr (record {
    writes = λ s t x. clocked_next (n.write s.unit s.cycle a x) s.unit s.cycle t s.runs (keeps.writes s.unit s.cycle x);
    bits = λ s t k x. clocked_next (n.write_bit s.unit s.cycle a k x) s.unit s.cycle t s.runs (keeps.bits s.unit s.cycle k x);
  })

-- units of which some go on in power-down
module _ {A B : Type 0} (m : UnitMachine A) (n : UnitMachine B) where
  powered_next : (t : ℕ) (new old : A × Clocked B) → new.1.runs ≡ old.1.runs → ((l : List Level) → m.power.rouses new.0 l ≡ m.power.rouses old.0 l) →
      SameNext (both m (clocked n)) t new old → SameNext (powered m n) t new old
  powered_next t new old runs rouses p = record {
    events = λ k.
        ap (λ (x : A × Clocked B). (both m (clocked n)).due x (t + k)) (steps_powered m n new t k) ∙ p.events k
        ∙ sym (ap (λ (x : A × Clocked B). (both m (clocked n)).due x (t + k)) (steps_powered m n old t k));
    requests = λ l.
        ap (λ (b : Bool). if b || m.power.rouses new.0 l then (both m (clocked n)).requests new l else []) runs
        ∙ ap (λ (b : Bool). if old.1.runs || b then (both m (clocked n)).requests new l else []) (rouses l)
        ∙ ap (λ (r : List Request). if is_heard m n old l then r else []) (p.requests l);
    rouses = p.rouses;
  }

  pub powered_writes : (a : ℕ) → (m.has a ≡ false) ⊎ WritesKeepNext m a → (n.has a ≡ false) ⊎ WritesKeepNext n a → WritesKeepNext (powered m n) a
  powered_writes a p q =
      let w = both_writes m (clocked n) a p (clocked_writes n a q) in
      record {
        writes = λ s t x. powered_next t ((both m (clocked n)).write s t a x) s (runs_on (n.has a) (record (s.1) { unit = n.write s.1.unit s.1.cycle a x }) s.1 refl) (wrote m a p s.0 t x).rouses (w.writes s t x);
        bits = λ s t k x. powered_next t ((both m (clocked n)).write_bit s t a k x) s (runs_on (n.has a) (record (s.1) { unit = n.write_bit s.1.unit s.1.cycle a k x }) s.1 refl) (wrote_bit m a p s.0 t k x).rouses (w.bits s t k x);
      }
    where
      runs_on : (b : Bool) (x y : Clocked B) → x.runs ≡ y.runs → (if b then x else y).runs ≡ y.runs
      runs_on true x y h = h
      runs_on false x y h = refl
