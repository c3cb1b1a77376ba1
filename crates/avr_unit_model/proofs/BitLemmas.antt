-- A bit that is written reads as it was written, and the byte stays one.
use Rattle.std.proofs.Common.{◌≡◌, ◌∙◌, ℕ, ◌+◌, ◌<◌, ◌%◌, Bool, true, false, arith, ap}
use Rattle.std.specs.Prelude.{◌^◌, ◌==◌, max, bit_or}
use Rattle.std.specs.Int.{bit_at}
use Rattle.std.proofs.lemmas.Nat.{or_lt, xor_lt, pow_below}
use Rattle.std.proofs.lemmas.Nat.Bits.{bit_at_or, bit_at_xor, bit_at-lt, bit_at-pow_same}
use Rattle.avr_unit.specs.Bits.{is_set, with_bit}

or_same : (r k : ℕ) → bit_at (bit_or r (2 ^ k)) k ≡ 1
or_same r k = bit_at_or r (2 ^ k) k ∙ ap (max (bit_at r k)) (bit_at-pow_same k) ∙ most (bit_at r k) (bit_at-lt r k)
  where
    most : (y : ℕ) → y < 2 → max y 1 ≡ 1
    most y h = grind (arith, h)

pub bit_written : (r k : ℕ) (x : Bool) → is_set (with_bit r k x) k ≡ x
bit_written r k true = ap (λ (y : ℕ). y == 1) (or_same r k)
bit_written r k false =
    ap (λ (y : ℕ). y == 1) (bit_at_xor (bit_or r (2 ^ k)) (2 ^ k) k ∙ ap (λ (y : ℕ). (y + bit_at (2 ^ k) k) % 2) (or_same r k) ∙ ap (λ (y : ℕ). (1 + y) % 2) (bit_at-pow_same k))

pub bits_written : (w r k : ℕ) (x : Bool) → r < 2 ^ w → k < w → with_bit r k x < 2 ^ w
bits_written w r k true h l = or_lt w r (2 ^ k) h (pow_below k w l)
bits_written w r k false h l = xor_lt w (bit_or r (2 ^ k)) (2 ^ k) (or_lt w r (2 ^ k) h (pow_below k w l)) (pow_below k w l)
