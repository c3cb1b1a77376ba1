-- The outputs Q0 to Q7 of the shift register, one by one.
use Rattle.std.proofs.Common.{◌≡◌, ◌<◌, ◌≤◌, ◌+◌, ◌-◌, ℕ, zero, suc, Bool, refl, ap, sym, ◌∙◌, arith}
use Rattle.std.specs.Prelude.{slice_get, Some}
use Rattle.part_reactive.specs.Pins.{bit}
use Rattle.parts_logic.specs.Shift595.{ShiftState, drives_of, q}

q_at : (off : Bool) (storage : ℕ) (q7s : Bool) (k : ℕ) → k < 8 → slice_get (drives_of off storage q7s) (5 + k) ≡ Some (q off (bit k storage))
q_at off storage q7s zero h = refl
q_at off storage q7s (suc zero) h = refl
q_at off storage q7s (suc (suc zero)) h = refl
q_at off storage q7s (suc (suc (suc zero))) h = refl
q_at off storage q7s (suc (suc (suc (suc zero)))) h = refl
q_at off storage q7s (suc (suc (suc (suc (suc zero))))) h = refl
q_at off storage q7s (suc (suc (suc (suc (suc (suc zero)))))) h = refl
q_at off storage q7s (suc (suc (suc (suc (suc (suc (suc zero))))))) h = refl
q_at off storage q7s (suc (suc (suc (suc (suc (suc (suc (suc k)))))))) h = absurd (omega arith)

pub shows : (s x : ShiftState) (pin : ℕ) → x ≡ s → 5 ≤ pin → pin < 13 → slice_get (drives_of s.off s.storage (bit 7 s.stages)) pin ≡ Some (q x.off (bit (pin - 5) x.storage))
shows s x pin e low high =
    let there : 5 + (pin - 5) ≡ pin = omega arith in
    ap (λ (y : ShiftState). slice_get (drives_of y.off y.storage (bit 7 y.stages)) pin) (sym e)
    ∙ ap (λ (p : ℕ). slice_get (drives_of x.off x.storage (bit 7 x.stages)) p) (sym there)
    ∙ q_at x.off x.storage (bit 7 x.stages) (pin - 5) (omega arith)
