-- The pins of some bits of a port.
use Rattle.std.proofs.Common.{◌≡◌, ℕ, suc, ◌+◌, ◌-◌, ◌*◌, ◌/◌, ◌%◌, ◌<◌, ◌≤◌, ◌∙◌, Bool, true, false, nat_lt, inl, inr, refl, ap, sym, arith}
use Rattle.std.specs.Prelude.{if◌then◌else◌, ◌==◌, ◌^◌}
use Rattle.std.specs.Int.{bit_at, trailing_zeros, leading_zeros, w8}
use Rattle.std.proofs.Math.Nat.{pow-succ'}
use Rattle.std.proofs.Math.Pow.{pow_mono}
use Rattle.std.proofs.lemmas.Bool.{cases_lt, false≢true}
use Rattle.std.proofs.lemmas.Bool.Decides.{nat_tests}
use Rattle.std.proofs.lemmas.Nat.{leading_top, div-add-mod'}
use Rattle.std.proofs.lemmas.Nat.Bits.{bit_at-zero, bit_at_above, bit_at_cat_low, bit_at_cat_high, bit_at-trailing_zeros}
use Rattle.part_law.specs.declared.span.Span.{Span}
use Rattle.part_law.specs.Spans.{IsIn, no_pins}

-- from the lowest 1 up to the highest
abbrev pub from_to : ℕ → ℕ → Span
from_to first bits = record { from = first + trailing_zeros w8 bits; to = first + (8 - leading_zeros w8 bits) }

-- The least span that has the pin of each 1, where bit 0 has this pin.
abbrev pub pins_at : ℕ → ℕ → Span
pins_at first bits = if bits == 0 then no_pins else from_to first bits

-- the bits below w of a number are those of its rest by 2 ^ w
pub low_bit : (n w j : ℕ) → j < w → bit_at (n % 2 ^ w) j ≡ bit_at n j
low_bit n w j within = sym (bit_at_cat_low (n / 2 ^ w) w (n % 2 ^ w) j within) ∙ ap (λ (x : ℕ). bit_at x j) (div-add-mod' n (2 ^ w))

-- the place of the highest 1
abbrev IsTop : ℕ → ℕ → Type 0
IsTop bits j = (leading_zeros w8 bits + suc j ≡ 8) × (bit_at bits j ≡ 1) × (bits < 2 ^ suc j)

top_by : (bits j : ℕ) → leading_zeros w8 bits + suc j ≡ 8 → 2 ^ j ≤ bits → bits < 2 ^ suc j → IsTop bits j
top_by bits j count from to =
    let twice : 2 ^ suc j ≡ 2 * 2 ^ j = pow-succ' 2 j in
    let split : bits ≡ 1 * 2 ^ j + (bits - 2 ^ j) = omega (arith, from) in
    let rest : bits - 2 ^ j < 2 ^ j = omega (arith, from, to, twice) in
    let none : j - j ≡ 0 = omega arith in
    (count, ap (λ (x : ℕ). bit_at x j) split ∙ bit_at_cat_high 1 j (bits - 2 ^ j) j rest (omega arith) ∙ ap (bit_at 1) none, to)

top_set : (bits : ℕ) → 0 < bits → bits < 2 ^ 8 → (j : ℕ) × IsTop bits j
top_set bits some fits = let h = leading_top 8 bits some fits in (h.0, top_by bits h.0 h.1 h.2 h.3)

-- a span that begins and ends with a 1 of w bits
pub record Ends (first w bits : ℕ) (pins : Span) : Type 0 where
  pub low : ℕ
  pub low_within : low < w
  pub low_set : bit_at bits low ≡ 1
  pub from_is : pins.from ≡ first + low
  pub high : ℕ
  pub high_within : high < w
  pub high_set : bit_at bits high ≡ 1
  pub to_is : pins.to - 1 ≡ first + high

module _ (first w bits : ℕ) (few : bits < 2 ^ w) (most : w ≤ 8) where
  fits : bits < 2 ^ 8
  fits = omega (arith, few, pow_mono most)

  some_set : (bits == 0) ≡ false → 0 < bits
  some_set h = grind (arith, nat_tests, h)

  -- a pin that is not told has a 0
  pub not_told : (j : ℕ) → ¬ IsIn (pins_at first bits) (first + j) → bit_at bits j ≡ 0
  not_told j = by (bits == 0) refl
    where
      none_set : (bits == 0) ≡ true → bits ≡ 0
      none_set h = grind (arith, nat_tests, h)

      by : (none : Bool) → (bits == 0) ≡ none → ¬ IsIn (if none then no_pins else from_to first bits) (first + j) → bit_at bits j ≡ 0
      by true none out = ap (λ (x : ℕ). bit_at x j) (none_set none) ∙ bit_at-zero j
      by false none out =
          let top = top_set bits (some_set none) fits in
          elim (cases_lt j (trailing_zeros w8 bits)) [
            | inl below ↦ (bit_at-trailing_zeros w8 bits (some_set none) fits).2 j below
            | inr from ↦ elim (cases_lt j (8 - leading_zeros w8 bits)) [
              | inl less ↦ absurd (out (omega (arith, from), omega (arith, less)))
              | inr above ↦ let count = top.1.0 in bit_at_above bits (suc top.0) j top.1.2 (omega (arith, count, above))
            ]
          ]

  -- a 1 is one of w
  within_w : (j : ℕ) → bit_at bits j ≡ 1 → j < w
  within_w j set = elim (cases_lt j w) [
    | inl less ↦ less
    | inr from ↦ absurd (omega (arith, set, bit_at_above bits w j few from))
  ]

  -- those that are told begin and end with a 1
  pub ends : nat_lt (pins_at first bits).from (pins_at first bits).to ≡ true → Ends first w bits (pins_at first bits)
  ends = by (bits == 0) refl
    where
      by : (none : Bool) → (bits == 0) ≡ none → nat_lt (if none then no_pins else from_to first bits).from (if none then no_pins else from_to first bits).to ≡ true →
          Ends first w bits (if none then no_pins else from_to first bits)
      by true none any = absurd (false≢true any)
      by false none any =
          let top = top_set bits (some_set none) fits in
          let low = bit_at-trailing_zeros w8 bits (some_set none) fits in
          let count = top.1.0 in
          record {
            low = trailing_zeros w8 bits;
            low_within = within_w (trailing_zeros w8 bits) low.1;
            low_set = low.1;
            from_is = refl;
            high = top.0;
            high_within = within_w top.0 top.1.1;
            high_set = top.1.1;
            to_is = omega (arith, count);
          }
