-- Texts in memories.
use Rattle.std.proofs.Common.{◌≡◌, ◌≢◌, ◌<◌, ℕ, zero, suc, ◌-◌, List, [], ◌∷◌, drop, take, length, Err, refl, ap, subst, arith}
use Rattle.std.specs.Prelude.{slice_index_or}
use Rattle.wasm_num.specs.declared.trap.Trap.{Trap}
use Rattle.chip_abi.specs.Reading.{text_in, with_first}

take_all : {X : Type 0} (xs : List X) → take (length xs) xs ≡ xs
take_all [] = refl
take_all (x ∷ xs) = ap (λ ys. x ∷ ys) (take_all xs)

pub text_stops : (room : ℕ) (bytes : List ℕ) (t : Trap) (d : ℕ) → room ≢ 0 → 0 < length bytes → slice_index_or bytes 0 d ≢ 0 → text_in (room - 1) (take (length bytes - 1) (drop 1 bytes)) ≡ Err t → text_in room bytes ≡ Err t
text_stops zero bytes t d r l f e = absurd (r refl)
text_stops (suc n) [] t d r l f e = absurd (omega (arith, l))
text_stops (suc n) (zero ∷ bs) t d r l f e = absurd (f refl)
text_stops (suc n) (suc b ∷ bs) t d r l f e =
    let z : suc n - 1 ≡ n = omega arith in
    let y : length (suc b ∷ bs) - 1 ≡ length bs = omega arith in
    let p : text_in n (take (length (suc b ∷ bs) - 1) bs) ≡ Err t = subst (λ (k : ℕ). text_in k (take (length (suc b ∷ bs) - 1) bs) ≡ Err t) z e in
    let q : text_in n (take (length bs) bs) ≡ Err t = subst (λ (k : ℕ). text_in n (take k bs) ≡ Err t) y p in
    let r : text_in n bs ≡ Err t = subst (λ (xs : List ℕ). text_in n xs ≡ Err t) (take_all bs) q in
    ap (with_first (suc b)) r
