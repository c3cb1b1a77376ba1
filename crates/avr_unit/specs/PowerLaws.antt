-- Units of which some go on in power-down, over many cycles.
use Rattle.std.specs.Prelude.{◌≡◌, ℕ, zero, suc, ◌+◌, ◌-◌, ◌≤◌, min, List, []}
use Rattle.std.proofs.Common.{refl, ap, sym, ◌∙◌, arith}
use Rattle.sim_base.specs.declared.signal.Level.{Level}
use Rattle.sim_base.specs.declared.limits.TheConstants.{MOST_CYCLES}
use Rattle.avr_unit.specs.UnitMachine.{UnitMachine, steps, FirstDue}
use Rattle.avr_unit.specs.Both.{both}
use Rattle.avr_unit.specs.BothLaws.{both_wait, first_both}
use Rattle.avr_unit.specs.declared.clock.Clock.{Clock}
use Rattle.avr_unit.specs.Clock.{IsBegun, own_cycle, board_cycle, clocked_at, begun_later, clocked_wait, clocked_first}
use Rattle.avr_unit.specs.Clocked.{Clocked, clocked}
use Rattle.avr_unit.specs.Power.{powered}

-- that they may be asked in a cycle
pub record PowerStands (c : Clock) (p q : List Level → ℕ → Type 0) (l : List Level) (t : ℕ) : Type 0 where
  pub awake : p l t
  pub clocked : q l (own_cycle c t)
  pub begun : IsBegun c t

module _ {A B : Type 0} (m : UnitMachine A) (n : UnitMachine B) where
  -- they step as two side by side
  pub steps_powered : (s : A × Clocked B) (t k : ℕ) → steps (powered m n) s t k ≡ steps (both m (clocked n)) s t k
  unfolding steps
  steps_powered s t zero = refl
  steps_powered s t (suc k) = ap (λ (x : A × Clocked B). (both m (clocked n)).step x (t + k) [] []) (steps_powered s t k)

  pub first_powered : (s : A × Clocked B) (t d : ℕ) → FirstDue (both m (clocked n)) s t d → FirstDue (powered m n) s t d
  first_powered s t d f = record {
    later = f.later;
    end = f.end;
    quiet = λ k h. ap (λ (x : A × Clocked B). (both m (clocked n)).due x (t + k)) (steps_powered s t k) ∙ f.quiet k h;
    event = λ h. ap (λ (x : A × Clocked B). (both m (clocked n)).due x d) (steps_powered s t (d - t)) ∙ f.event h;
  }

  pub power_waits : (c : Clock) (d e : ℕ) (a : ℕ → A) (b : ℕ → B) (p q : List Level → ℕ → Type 0) (l : List Level) (t u : ℕ) →
      ((l : List Level) (t u : ℕ) → p l t → t ≤ u → u ≤ d → p l u × (a u ≡ steps m (a t) t (u - t))) →
      ((l : List Level) (t u : ℕ) → q l t → t ≤ u → u ≤ e → q l u × (b u ≡ steps n (b t) t (u - t))) →
      PowerStands c p q l t → t ≤ u → u ≤ min d (board_cycle c e) →
      PowerStands c p q l u × ((a u, clocked_at c b u) ≡ steps (powered m n) (a t, clocked_at c b t) t (u - t))
  power_waits c d e a b p q l t u wait rest h le soon =
      let both_are = both_wait m (clocked n) d (board_cycle c e) a (clocked_at c b) p (λ k v. IsBegun c v × q k (own_cycle c v)) l t u wait clock_waits (h.awake, (h.begun, h.clocked)) le soon in
      (record { awake = both_are.0.0; clocked = both_are.0.1.1; begun = both_are.0.1.0 }, both_are.1 ∙ sym (steps_powered (a t, clocked_at c b t) t (u - t)))
    where
      clock_waits : (k : List Level) (v w : ℕ) → IsBegun c v × q k (own_cycle c v) → v ≤ w → w ≤ board_cycle c e →
          (IsBegun c w × q k (own_cycle c w)) × (clocked_at c b w ≡ steps (clocked n) (clocked_at c b v) v (w - v))
      clock_waits k v w i on below =
          let x = clocked_wait n c e b q k v w rest i.0 i.1 on below in
          ((begun_later c v w i.0 on, x.0), x.1)

  pub power_first : (c : Clock) (d e : ℕ) (a : ℕ → A) (b : ℕ → B) (t : ℕ) → IsBegun c t → FirstDue m (a t) t d → FirstDue n (b (own_cycle c t)) (own_cycle c t) e →
      FirstDue (powered m n) (a t, clocked_at c b t) t (min d (board_cycle c e))
  power_first c d e a b t begun f h =
      let end : t ≤ MOST_CYCLES = omega (arith, f.later, f.end) in
      first_powered (a t, clocked_at c b t) t (min d (board_cycle c e))
      (first_both m (clocked n) (a t, clocked_at c b t) t d (board_cycle c e) f (clocked_first n c e b t begun end h))
