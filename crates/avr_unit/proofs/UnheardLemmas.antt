-- A change of levels of which units take no notice: of two, of one by a clock, of one that lags.
use Rattle.std.proofs.Common.{◌≡◌, ◌∙◌, ℕ, ◌+◌, ◌-◌, ◌<◌, List, [], Bool, true, false, ap, sym, subst, arith, refl}
use Rattle.std.specs.Prelude.{if◌then◌else◌, ◌||◌, ◌&&◌, min}
use Rattle.std.proofs.lemmas.Bool.{or_parts}
use Rattle.sim_base.specs.declared.signal.Level.{Level}
use Rattle.avr_unit.specs.declared.request.Request.{Request}
use Rattle.avr_unit.specs.UnitMachine.{UnitMachine, At, Laws, least, steps}
use Rattle.avr_unit.specs.Both.{both, least-append}
use Rattle.avr_unit.specs.Clocked.{Clocked, clocked}
use Rattle.avr_unit.specs.Lagging.{quiet_requests}
use Rattle.avr_unit.specs.Late.{late_state, Lags, LateStands, Rests}
use Rattle.avr_unit.specs.Power.{is_heard, powered}
use Rattle.avr_unit.specs.Unheard.{Unheard, UnheardFrom}
use Rattle.avr_unit.proofs.UnitLemmas.{late_due, late_quiet}
use Rattle.avr_unit.proofs.StillLemmas.{still}

-- a unit that stays as it is between its events
pub still_unheard : {U : Type 0} (m : UnitMachine U) → ((s : U) (t : ℕ) → m.due s t ≡ false → m.step s t [] [] ≡ s) → (s : U) (t : ℕ) (before now : List Level) →
    ((u : ℕ) → Unheard m s u before now) → UnheardFrom m s t before now
still_unheard {U} m stays s t before now none n quiet = subst (λ (x : U). Unheard m x (t + n) before now) (sym (still m stays s t n quiet)) (none (t + n))

-- two side by side
module _ {A B : Type 0} (m : UnitMachine A) (n : UnitMachine B) where
  pub both_unheard : (s : A × B) (t : ℕ) (l k : List Level) → Unheard m s.0 t l k → Unheard n s.1 t l k → Unheard (both m n) s t l k
  both_unheard s t l k p q = record {
    steps = λ h. let d = or_parts (m.due s.0 t) (n.due s.1 t) h in
        ap (λ (x : A). (x, n.step s.1 t l k)) (p.steps d.0) ∙ ap (λ (y : B). (m.step s.0 t k k, y)) (q.steps d.1);
    requests =
        least-append (m.requests s.0 l) (n.requests s.1 l)
        ∙ ap (λ (x : ℕ). min x (least (n.requests s.1 l))) p.requests ∙ ap (min (least (m.requests s.0 k))) q.requests
        ∙ sym (least-append (m.requests s.0 k) (n.requests s.1 k));
    rouses = ap (λ (x : Bool). x || n.power.rouses s.1 l) p.rouses ∙ ap (λ (x : Bool). m.power.rouses s.0 k || x) q.rouses;
  }

-- one by a clock
clocked_unheard : {U : Type 0} (m : UnitMachine U) (s : Clocked U) (t : ℕ) (l k : List Level) → Unheard m s.unit s.cycle l k → Unheard (clocked m) s t l k
clocked_unheard {U} m s t l k p = record { steps = λ h. by s.runs h; requests = p.requests; rouses = refl }
  where
    after : List Level → Bool → Clocked U
    after before b = if b then record s { unit = m.step s.unit s.cycle before k; cycle = s.cycle + 1 } else s

    by : (b : Bool) → (b && m.due s.unit s.cycle) ≡ false → after l b ≡ after k b
    by true h = ap (λ (x : U). record s { unit = x; cycle = s.cycle + 1 }) (p.steps h)
    by false h = refl

-- units of which some go on in power-down
module _ {A B : Type 0} (m : UnitMachine A) (n : UnitMachine B) where
  pub powered_unheard : (s : A × Clocked B) (t : ℕ) (l k : List Level) → Unheard m s.0 t l k → Unheard n s.1.unit s.1.cycle l k → Unheard (powered m n) s t l k
  powered_unheard s t l k p q =
      let b = both_unheard m (clocked n) s t l k p (clocked_unheard n s.1 t l k q) in
      record {
        steps = b.steps;
        requests =
            ap (λ (x : Bool). least (if s.1.runs || x then (both m (clocked n)).requests s l else [])) p.rouses
            ∙ if_heard (is_heard m n s k) ((both m (clocked n)).requests s l) ((both m (clocked n)).requests s k) b.requests;
        rouses = b.rouses;
      }
    where
      if_heard : (b : Bool) (x y : List Request) → least x ≡ least y → least (if b then x else []) ≡ least (if b then y else [])
      if_heard true x y h = h
      if_heard false x y h = refl

-- one that lags
module _ {U : Type 0} (m : UnitMachine U) (laws : Laws m) (s : At U) (due t : ℕ) (before now : List Level) where
  pub late_unheard : Lags m s due t → UnheardFrom m s.unit s.cycle before now → Unheard m (late_state m s t) t before now
  late_unheard h none =
      let e : s.cycle + (t - s.cycle) ≡ t = omega (arith, h.lags) in
      subst (λ (x : ℕ). Unheard m (late_state m s t) x before now) e (none (t - s.cycle) (late_quiet m s due t h))

  late_requests : Lags m s due t → UnheardFrom m s.unit s.cycle before now → least (m.requests s.unit before) ≡ least (m.requests s.unit now)
  late_requests h none =
      let same : (l : List Level) → least (m.requests (late_state m s t) l) ≡ least (m.requests s.unit l) =
      λ l. ap least (quiet_requests m laws s.unit s.cycle (t - s.cycle) l (late_quiet m s due t h)) in
      sym (same before) ∙ (late_unheard h none).requests ∙ same now

  -- it may be asked on those levels too
  pub late_stays : {request : ℕ} → LateStands m s due request before t → UnheardFrom m s.unit s.cycle before now → LateStands m s due request now t
  late_stays h none = record { late = h.late; requests = h.requests ∙ late_requests h.late none }

  -- a cycle leaves it as it lags
  pub rests_unheard : Lags m s due t → t < due → UnheardFrom m s.unit s.cycle before now → Rests m s due before now t
  rests_unheard h less none = record {
    early = less;
    steps = (late_unheard h none).steps (late_due m s due t h less);
    requests = late_requests h none;
  }
