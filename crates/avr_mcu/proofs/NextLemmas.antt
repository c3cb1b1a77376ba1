-- What is known of what comes next of units, behind an access that leaves it.
use Rattle.std.proofs.Common.{◌≡◌, ◌∙◌, ℕ, ◌-◌, ◌≤◌, List, arith, ap, sym, subst}
use Rattle.sim_base.specs.declared.signal.Level.{Level}
use Rattle.sim_base.specs.declared.limits.TheConstants.{MOST_CYCLES}
use Rattle.avr_unit.specs.UnitMachine.{UnitMachine, Laws, FirstDue, IsQuiet, least, steps}
use Rattle.avr_unit.specs.Lagging.{lag_first, lag_skip}
use Rattle.avr_unit.specs.Next.{SameNext}
use Rattle.avr_unit.proofs.UnitLemmas.{quiet_within, wait_requests}
use Rattle.avr_mcu.specs.Ready.{Ready}

-- what is known of a group beside what it shows stays where what comes next does
module _ {D : Type 0} (m : UnitMachine D) (old new : ℕ → D) (until ends : ℕ) (stood stands : List Level → ℕ → Type 0) (l : List Level) (t due request : ℕ) where
  pub ready_kept : Ready m old until stood l t due request → SameNext m t (new t) (old t) → stands l t → FirstDue m (new t) t ends →
      ((u : ℕ) → t ≤ u → u ≤ ends → stands l u × (new u ≡ steps m (new t) t (u - t))) → Ready m new ends stands l t due request
  ready_kept r same here first waits = record {
    asked = here;
    due_is = same_due;
    first = subst (λ (d : ℕ). FirstDue m (new t) t d) (sym same_due) first;
    request_is = r.request_is ∙ ap least (sym (same.requests l));
    waits = waits;
  }
    where
      no_later : due ≤ ends
      no_later = quiet_within m (new t) t ends due first r.first.later r.first.end (λ k h. same.events k ∙ r.first.quiet k h)

      no_sooner : ends ≤ due
      no_sooner = quiet_within m (old t) t due ends r.first first.later first.end (λ k h. sym (same.events k) ∙ first.quiet k h)

      same_due : due ≡ ends
      same_due = omega (arith, no_later, no_sooner)

-- and over cycles in which no unit has an event
module _ {D : Type 0} (m : UnitMachine D) (laws : Laws m) (state : ℕ → D) (until : ℕ) (stands : List Level → ℕ → Type 0) (l : List Level) (t due request to : ℕ) (r : Ready m state until stands l t due request)
    (on : t ≤ to) (end : to ≤ MOST_CYCLES) (quiet : IsQuiet m (state t) t (to - t)) where
  before : to ≤ due
  before = quiet_within m (state t) t due to r.first on end quiet

  soon : to ≤ until
  soon = let e : to ≤ due = before in omega (arith, e, r.due_is)

  pub ready_state : state to ≡ steps m (state t) t (to - t)
  ready_state = (r.waits to on soon).1

  pub ready_later : Ready m state until stands l to due request
  ready_later = record {
    asked = (r.waits to on soon).0;
    due_is = r.due_is;
    first = subst (λ (x : D). FirstDue m x to due) (sym ready_state) (lag_first m (state t) t to due on before r.first);
    request_is = r.request_is ∙ sym (wait_requests m laws t due state r.first to l on before ready_state);
    waits = λ u le near.
        let from : t ≤ u = omega (arith, on, le) in
        let w = r.waits u from near in
        (w.0, w.1 ∙ lag_skip m (state t) t to u on le ∙ ap (λ (x : D). steps m x to (u - to)) (sym ready_state));
  }
