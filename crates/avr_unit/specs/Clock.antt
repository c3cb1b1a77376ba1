-- The clock of units that stand still in power-down, as the code keeps it. No public clause of the microcontroller cites this.
use Rattle.std.specs.Prelude.{◌≡◌, ℕ, zero, suc, ◌+◌, ◌-◌, ◌<◌, ◌≤◌, min, List, [], Bool, true, false}
use Rattle.std.proofs.Common.{refl, ap, sym, ◌∙◌, arith}
use Rattle.sim_base.specs.declared.limits.TheConstants.{MOST_CYCLES}
use Rattle.sim_base.specs.declared.signal.Level.{Level}
use Rattle.avr_unit.specs.declared.clock.Clock.{Clock}
use Rattle.avr_unit.specs.declared.clock.Clock.TheVariants.{Runs, Stands}
use Rattle.avr_unit.specs.UnitMachine.{UnitMachine, steps, FirstDue}
use Rattle.avr_unit.specs.Clocked.{Clocked, clocked}

abbrev pub does_run : Clock → Bool
does_run (Runs behind) = true
does_run (Stands at) = false

abbrev pub own_cycle : Clock → ℕ → ℕ
own_cycle (Runs behind) t = t - behind
own_cycle (Stands at) t = at

-- the units' cycle is none before their start
abbrev pub IsBegun : Clock → ℕ → Type 0
IsBegun (Runs behind) t = behind ≤ t
IsBegun (Stands at) t = at ≤ t

-- the owner's cycle of the units' own, as far as a run goes
abbrev pub board_cycle : Clock → ℕ → ℕ
board_cycle (Runs behind) d = min (d + behind) MOST_CYCLES
board_cycle (Stands at) d = MOST_CYCLES

abbrev pub stopped : Clock → ℕ → Clock
stopped c t = Stands (own_cycle c t)

abbrev pub started : Clock → ℕ → Clock
started c t = Runs (t - own_cycle c t)

-- what the units show of a state for each of their own cycles
abbrev pub clocked_at : {U : Type 0} → Clock → (ℕ → U) → ℕ → Clocked U
clocked_at c state t = record { unit = state (own_cycle c t); cycle = own_cycle c t; runs = does_run c }

-- a clock that begun goes on
pub begun_later : (c : Clock) (t u : ℕ) → IsBegun c t → t ≤ u → IsBegun c u
begun_later (Runs behind) t u h le = omega (arith, h, le)
begun_later (Stands at) t u h le = omega (arith, h, le)

module _ {U : Type 0} (m : UnitMachine U) where
  -- many cycles of a clock that runs, and of one that stands
  pub steps_run : (u : U) (c t k : ℕ) → steps (clocked m) (record { unit = u; cycle = c; runs = true }) t k ≡ record { unit = steps m u c k; cycle = c + k; runs = true }
  unfolding steps
  steps_run u c t zero = let e : c ≡ c + 0 = omega arith in ap (λ (x : ℕ). at u x) e
    where
      at : U → ℕ → Clocked U
      at u x = record { unit = u; cycle = x; runs = true }
  steps_run u c t (suc k) =
      let e : c + k + 1 ≡ c + suc k = omega arith in
      ap (λ (x : Clocked U). (clocked m).step x (t + k) [] []) (steps_run u c t k) ∙ ap (λ (x : ℕ). record { unit = m.step (steps m u c k) (c + k) [] []; cycle = x; runs = true }) e

  pub steps_stand : (u : U) (c t k : ℕ) → steps (clocked m) (record { unit = u; cycle = c; runs = false }) t k ≡ record { unit = u; cycle = c; runs = false }
  unfolding steps
  steps_stand u c t zero = refl
  steps_stand u c t (suc k) = ap (λ (x : Clocked U). (clocked m).step x (t + k) [] []) (steps_stand u c t k)

  -- over cycles without an event nothing needs to be done
  pub clocked_wait : (c : Clock) (d : ℕ) (state : ℕ → U) (p : List Level → ℕ → Type 0) (l : List Level) (t u : ℕ) →
      ((l : List Level) (t u : ℕ) → p l t → t ≤ u → u ≤ d → p l u × (state u ≡ steps m (state t) t (u - t))) →
      IsBegun c t → p l (own_cycle c t) → t ≤ u → u ≤ board_cycle c d → p l (own_cycle c u) × (clocked_at c state u ≡ steps (clocked m) (clocked_at c state t) t (u - t))
  clocked_wait (Runs behind) d state p l t u waits begun h le soon =
      let late : u - behind ≤ d = grind (arith, soon) in
      let on : t - behind ≤ u - behind = omega (arith, le) in
      let same : u - behind - (t - behind) ≡ u - t = omega (arith, begun, le) in
      let ends : t - behind + (u - t) ≡ u - behind = omega (arith, begun, le) in
      let w = waits l (t - behind) (u - behind) h on late in (
        w.0,
        ap (λ (x : U). record { unit = x; cycle = u - behind; runs = true }) (w.1 ∙ ap (steps m (state (t - behind)) (t - behind)) same)
            ∙ ap (λ (x : ℕ). record { unit = steps m (state (t - behind)) (t - behind) (u - t); cycle = x; runs = true }) (sym ends)
            ∙ sym (steps_run (state (t - behind)) (t - behind) t (u - t)),
      )
  clocked_wait (Stands at) d state p l t u waits begun h le soon = (h, sym (steps_stand (state at) at t (u - t)))

  -- the first event
  pub clocked_first : (c : Clock) (d : ℕ) (state : ℕ → U) (t : ℕ) → IsBegun c t → t ≤ MOST_CYCLES → FirstDue m (state (own_cycle c t)) (own_cycle c t) d →
      FirstDue (clocked m) (clocked_at c state t) t (board_cycle c d)
  clocked_first (Runs behind) d state t begun end f = record {
    later = grind (arith, begun, end, f.later);
    end = grind arith;
    quiet = λ k h.
        let less : k < d - (t - behind) = grind (arith, h, begun, f.later) in
        ap (λ (x : Clocked U). (clocked m).due x (t + k)) (steps_run (state (t - behind)) (t - behind) t k) ∙ f.quiet k less;
    event = λ (h : min (d + behind) MOST_CYCLES < MOST_CYCLES).
        let is : min (d + behind) MOST_CYCLES ≡ d + behind = grind (arith, h) in
        let less : d < MOST_CYCLES = omega (arith, is, h) in
        let count : min (d + behind) MOST_CYCLES - t ≡ d - (t - behind) = omega (arith, is, begun, f.later) in
        let there : t - behind + (d - (t - behind)) ≡ d = omega (arith, f.later) in
        ap (λ (k : ℕ). (clocked m).due (steps (clocked m) (clocked_at (Runs behind) state t) t k) (min (d + behind) MOST_CYCLES)) count
        ∙ ap (λ (x : Clocked U). (clocked m).due x (min (d + behind) MOST_CYCLES)) (steps_run (state (t - behind)) (t - behind) t (d - (t - behind)))
        ∙ ap (λ (x : ℕ). m.due (steps m (state (t - behind)) (t - behind) (d - (t - behind))) x) there ∙ f.event less;
  }
  clocked_first (Stands at) d state t begun end f = record {
    later = end;
    end = omega arith;
    quiet = λ k h. ap (λ (x : Clocked U). (clocked m).due x (t + k)) (steps_stand (state at) at t k);
    event = λ (h : MOST_CYCLES < MOST_CYCLES). absurd (omega (arith, h));
  }
