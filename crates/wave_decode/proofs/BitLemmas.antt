-- Bits that are taken at the top of a register of eight, the lowest first.
use Rattle.std.proofs.Common.{◌≡◌, ◌<◌, ◌+◌, ◌-◌, ◌*◌, ◌/◌, ℕ, suc, Bool, refl, ap, arith}
use Rattle.wave_decode.specs.Bits.{bit_of, number_from, taken}

-- one bit more
pub taken_more : (line : ℕ → Bool) (bit t k value : ℕ) → k < 8 →
    taken line bit t (8 - k) value ≡ taken line bit (t + bit) (8 - (k + 1)) (value / 2 + 128 * bit_of (line t))
unfolding taken
taken_more line bit t k value less =
    let e : 8 - k ≡ suc (8 - (k + 1)) = omega (arith, less) in
    ap (λ (j : ℕ). taken line bit t j value) e

pub taken_none : (line : ℕ → Bool) (bit t value : ℕ) → taken line bit t 0 value ≡ value
unfolding taken
taken_none line bit t value = refl

eight : (a b c d e f g h : ℕ) →
    (((((((0 / 2 + 128 * a) / 2 + 128 * b) / 2 + 128 * c) / 2 + 128 * d) / 2 + 128 * e) / 2 + 128 * f) / 2 + 128 * g) / 2 + 128 * h
    ≡ a + 2 * (b + 2 * (c + 2 * (d + 2 * (e + 2 * (f + 2 * (g + 2 * (h + 2 * 0)))))))
eight a b c d e f g h = omega arith

-- eight of them are the byte
pub eight_taken : (line : ℕ → Bool) (bit t : ℕ) → taken line bit t 8 0 ≡ number_from line bit t 8
unfolding taken number_from
eight_taken line bit t = eight _ _ _ _ _ _ _ _
