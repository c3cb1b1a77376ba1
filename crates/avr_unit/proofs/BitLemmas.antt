-- A write of one bit leaves the others.
use Rattle.std.proofs.Common.{◌≡◌, ◌≢◌, ◌∙◌, ℕ, ◌+◌, ◌<◌, ◌%◌, Bool, true, false, arith, ap}
use Rattle.std.specs.Prelude.{◌^◌, ◌==◌, max, bit_or, bit_xor}
use Rattle.std.specs.Int.{bit_at}
use Rattle.std.proofs.lemmas.Nat.Bits.{bit_at_or, bit_at_xor, bit_at-lt, bit_at-pow_other}
use Rattle.avr_unit.specs.Bits.{is_set, with_bit}

xor_other : (r k j : ℕ) → j ≢ k → bit_at (bit_xor r (2 ^ k)) j ≡ bit_at r j
xor_other r k j other =
    bit_at_xor r (2 ^ k) j ∙ ap (λ (x : ℕ). (bit_at r j + x) % 2) (bit_at-pow_other k j other) ∙ small (bit_at r j) (bit_at-lt r j)
  where
    small : (y : ℕ) → y < 2 → (y + 0) % 2 ≡ y
    small y h = omega arith

or_other : (r k j : ℕ) → j ≢ k → bit_at (bit_or r (2 ^ k)) j ≡ bit_at r j
or_other r k j other = bit_at_or r (2 ^ k) j ∙ ap (max (bit_at r j)) (bit_at-pow_other k j other) ∙ most (bit_at r j)
  where
    most : (y : ℕ) → max y 0 ≡ y
    most y = grind arith

-- a bit that is toggled
pub toggle_keeps : (r k j : ℕ) → j ≢ k → is_set (bit_xor r (2 ^ k)) j ≡ is_set r j
toggle_keeps r k j other = ap (λ (x : ℕ). x == 1) (xor_other r k j other)

-- a bit that is written
pub bit_keeps : (r k j : ℕ) (x : Bool) → j ≢ k → is_set (with_bit r k x) j ≡ is_set r j
bit_keeps r k j true other = ap (λ (x : ℕ). x == 1) (or_other r k j other)
bit_keeps r k j false other = ap (λ (x : ℕ). x == 1) (xor_other (bit_or r (2 ^ k)) k j other ∙ or_other r k j other)
