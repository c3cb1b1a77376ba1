-- A list of numbers whose places are filled one after the other.
use Rattle.std.proofs.Common.{◌≡◌, ◌≢◌, ℕ, ◌+◌, ◌<◌, ◌≤◌, List, length, get_or, set, map, refl, sym, ◌∙◌, arith, get_or-set_other, get_or-set_same, below_more}
use Rattle.std.proofs.lemmas.List.{get_or-map, length-map, ext_get_or}

-- places below i have their values, and the others are as in `old`
pub record Filled (value : ℕ → ℕ) (old now : List ℕ) (i : ℕ) : Type 0 where
  pub done : (p : ℕ) → p < i → get_or now p 0 ≡ value p
  pub left : (p : ℕ) → i ≤ p → get_or now p 0 ≡ get_or old p 0

pub filled_none : (value : ℕ → ℕ) (old : List ℕ) → Filled value old old 0
filled_none value old = record { done = λ p (h : p < 0). absurd (omega arith); left = λ p h. refl }

pub filled_next : (value : ℕ → ℕ) (old now : List ℕ) (i x : ℕ) → Filled value old now i → i < length now → x ≡ value i → Filled value old (set now i x) (i + 1)
filled_next value old now i x filled inside e = record {
  done = below_more _ _
      (λ p (h : p < i). let ne : p ≢ i = omega arith in rw get_or-set_other (filled.done p h))
      (rw get_or-set_same e);
  left = λ p (h : i + 1 ≤ p). let ne : p ≢ i = omega arith in rw get_or-set_other (filled.left p (omega arith));
}

pub all_mapped : (f : ℕ → ℕ) (old now : List ℕ) (i : ℕ) → Filled (λ p. f (get_or old p 0)) old now i → length now ≡ length old → length old ≤ i → now ≡ map f old
all_mapped f old now i filled same all =
    ext_get_or 0 now (map f old) (same ∙ sym (length-map old f))
    (λ p (h : p < length now).
    let within : p < length old = omega arith in
    let done : p < i = omega arith in
    filled.done p done ∙ sym (get_or-map f old p 0 0 within))
