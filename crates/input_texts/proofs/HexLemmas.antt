-- The bytes that digits spell, one by one.
use Rattle.std.proofs.Common.{◌≡◌, ◌<◌, ◌+◌, ◌*◌, ◌/◌, ℕ, zero, suc, List, [], ◌∷◌, length, get_or, refl, add-one, arith}
use Rattle.std.specs.Char.{digit_value}
use Rattle.text_model.specs.Hex.{hex_bytes}

hex_pair : (ds : List ℕ) (i : ℕ) → 2 * i + 1 < length ds → get_or (hex_bytes ds) i 0 ≡ 16 * digit_value (get_or ds (2 * i) 0) + digit_value (get_or ds (suc (2 * i)) 0)
hex_pair [] i p = absurd (omega arith)
hex_pair (h ∷ []) i p = absurd (omega arith)
hex_pair (h ∷ l ∷ ds) zero p = refl
hex_pair (h ∷ l ∷ ds) (suc i) p =
    let e : 2 * suc i ≡ suc (suc (2 * i)) = omega arith in
    rw e (hex_pair ds i (omega arith))

pub hex_byte : (ds : List ℕ) (i : ℕ) → 2 * i + 1 < length ds → get_or (hex_bytes ds) i 0 ≡ 16 * digit_value (get_or ds (2 * i) 0) + digit_value (get_or ds (2 * i + 1) 0)
hex_byte ds i p = rw (add-one (2 * i)) (hex_pair ds i p)

pub length-hex_bytes : (ds : List ℕ) → length (hex_bytes ds) ≡ length ds / 2
length-hex_bytes [] = refl
length-hex_bytes (h ∷ []) = refl
length-hex_bytes (h ∷ l ∷ ds) = let e : length (hex_bytes ds) ≡ length ds / 2 = length-hex_bytes ds in omega arith
