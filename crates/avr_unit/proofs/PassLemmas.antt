-- A cycle in which no unit has an event or takes notice of a change of the levels.
use Rattle.std.proofs.Common.{◌≡◌, ◌∙◌, ℕ, ◌+◌, ◌-◌, ◌<◌, List, [], false, None, arith, ap, sym, refl}
use Rattle.sim_base.specs.declared.signal.Level.{Level}
use Rattle.avr_unit.specs.UnitMachine.{UnitMachine, Laws, FirstDue, least, steps}
use Rattle.avr_unit.specs.Unheard.{Unheard}
use Rattle.avr_unit.proofs.UnitLemmas.{step_none, step_last}

-- what they show in the next cycle
module _ {U : Type 0} (m : UnitMachine U) (laws : Laws m) (state : ℕ → U) (t d : ℕ) (first : FirstDue m (state t) t d) (less : t < d) where
  pub pass_due : m.due (state t) t ≡ false
  pass_due =
      let z : t + 0 ≡ t = omega arith in
      ap (λ (x : U). m.due x t) (sym (step_none m (state t) t 0 refl)) ∙ ap (m.due (steps m (state t) t 0)) (sym z) ∙ first.quiet 0 (omega (arith, less))

  pub pass_silent : None ≡ m.sends (state t) t
  pass_silent = sym (laws.keeps_silent (state t) t pass_due)

  module _ (before now : List Level) (none : Unheard m (state t) t before now) (waits : state (t + 1) ≡ steps m (state t) t (t + 1 - t)) where
    still : state (t + 1) ≡ m.step (state t) t now now
    still =
        let one : t + 1 - t ≡ 0 + 1 = omega arith in
        let z : t + 0 ≡ t = omega arith in
        waits ∙ step_last m (state t) t 0 (t + 1 - t) one ∙ ap (λ (x : U). m.step x (t + 0) [] []) (step_none m (state t) t 0 refl)
        ∙ ap (λ (x : ℕ). m.step (state t) x [] []) z ∙ laws.deaf (state t) t [] now pass_due

    pub pass_state : state (t + 1) ≡ m.step (state t) t before now
    pass_state = still ∙ sym (none.steps pass_due)

    pub pass_request : (request : ℕ) → request ≡ least (m.requests (state t) before) → request ≡ least (m.requests (state (t + 1)) now)
    pass_request request is =
        is ∙ none.requests ∙ ap least (sym (laws.keeps_requests (state t) t now pass_due))
        ∙ ap (λ (x : U). least (m.requests x now)) (sym still)
