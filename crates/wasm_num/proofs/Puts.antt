-- Bytes that are written one behind the other are put there as one.
use Rattle.std.proofs.Common.{◌≡◌, ℕ, suc, ◌+◌, ◌<◌, ◌≤◌, List, [], ◌∷◌, ◌++◌, length, take, drop, set, refl, sym, ◌∙◌, append_assoc, arith, length-set}
use Rattle.std.proofs.lemmas.List.{take_more_set, drop-set-lt, take-append-drop}
use Rattle.wasm_num.specs.Mem.{put}

-- written from at + k on
abbrev pub sets : ℕ → ℕ → List ℕ → List ℕ → List ℕ
sets at k [] bytes = bytes
sets at k (x ∷ xs) bytes = sets at (k + 1) xs (set bytes (at + k) x)

put-none : (n : ℕ) (bytes : List ℕ) → put n [] bytes ≡ bytes
put-none n bytes = let e : n + 0 ≡ n = omega arith in rw e (take-append-drop n bytes)

put-set : (n x : ℕ) (xs bytes : List ℕ) → n < length bytes → put (n + 1) xs (set bytes n x) ≡ put n (x ∷ xs) bytes
put-set n x xs bytes h =
    let e : n + 1 + length xs ≡ n + suc (length xs) = omega arith in
    let lt : n < n + 1 + length xs = omega arith in
    let d : drop (n + 1 + length xs) (set bytes n x) ≡ drop (n + 1 + length xs) bytes = drop-set-lt (n + 1 + length xs) bytes n x lt in
    let t : take (n + 1) (set bytes n x) ≡ take n bytes ++ x ∷ [] = take_more_set bytes n x h in
    rw (d, t, e, append_assoc) refl

pub sets-put : (at k : ℕ) (xs bytes : List ℕ) → at + k + length xs ≤ length bytes → sets at k xs bytes ≡ put (at + k) xs bytes
sets-put at k [] bytes h = sym (put-none (at + k) bytes)
sets-put at k (x ∷ xs) bytes h =
    let l : length (set bytes (at + k) x) ≡ length bytes = length-set bytes (at + k) x in
    let inside : at + k < length bytes = omega arith in
    let fits : at + (k + 1) + length xs ≤ length (set bytes (at + k) x) = omega arith in
    let e : at + (k + 1) ≡ at + k + 1 = omega arith in
    sets-put at (k + 1) xs (set bytes (at + k) x) fits ∙ (rw e (put-set (at + k) x xs bytes inside))
