-- Units of which the first cycle with an event and the least request are kept.
use Rattle.std.specs.Prelude.{◌≡◌, ℕ, ◌-◌, ◌<◌, ◌≤◌, List}
use Rattle.std.proofs.Common.{arith, ap, sym, subst, ◌∙◌}
use Rattle.sim_base.specs.declared.signal.Level.{Level}
use Rattle.avr_unit.specs.UnitMachine.{UnitMachine, Laws, FirstDue, least, steps}
use Rattle.avr_unit.specs.Lagging.{quiet_requests}

module _ {S : Type 0} (m : UnitMachine S) (state : ℕ → S) (until : ℕ) (stands : List Level → ℕ → Type 0) where
  -- they may be asked at cycle t on the levels l, and these are their first cycle with an event and their least request
  pub record SeldomStands (due request : ℕ) (l : List Level) (t : ℕ) : Type 0 where
    pub here : stands l t
    pub due_is : due ≡ until
    pub request_is : request ≡ least (m.requests (state t) l)

  module _ (first : (l : List Level) (t : ℕ) → stands l t → FirstDue m (state t) t until) where
    pub seldom_first : (due request : ℕ) (l : List Level) (t : ℕ) → SeldomStands due request l t → FirstDue m (state t) t due
    seldom_first due request l t h = subst (λ (d : ℕ). FirstDue m (state t) t d) (sym h.due_is) (first l t h.here)

  pub seldom_waits : Laws m → ((l : List Level) (t u : ℕ) → stands l t → t ≤ u → u ≤ until → stands l u × (state u ≡ steps m (state t) t (u - t))) →
      ((l : List Level) (t : ℕ) → stands l t → FirstDue m (state t) t until) → (due request : ℕ) (l : List Level) (t u : ℕ) →
      SeldomStands due request l t → t ≤ u → u ≤ due → SeldomStands due request l u × (state u ≡ steps m (state t) t (u - t))
  seldom_waits laws waits first due request l t u h le soon =
      let same = h.due_is in
      let near : u ≤ until = omega (arith, soon, same) in
      let on = waits l t u h.here le near in
      let begun = first l t h.here in
      let kept = quiet_requests m laws (state t) t (u - t) l (λ k (less : k < u - t). begun.quiet k (omega (arith, near, less))) in (
        record {
          here = on.0;
          due_is = same;
          request_is = h.request_is ∙ sym (ap (λ (x : S). least (m.requests x l)) on.1 ∙ ap least kept);
        },
        on.1,
      )
