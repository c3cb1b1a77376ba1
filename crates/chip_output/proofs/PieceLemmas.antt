-- What is printed piece by piece.
use Rattle.std.proofs.Common.{◌≡◌, ◌≢◌, ℕ, zero, suc, ◌+◌, ◌-◌, ◌≤◌, List, [], ◌∷◌, ◌++◌, length, take, refl, sym, ap, ◌∙◌, arith}
use Rattle.std.specs.Prelude.{min}
use Rattle.std.proofs.Math.Seq.{take-append-add}
use Rattle.std.proofs.lemmas.List.{append_assoc, append-nil, take_all, take_min}
use Rattle.wasm_num.specs.Mem.{Mem}
use Rattle.chip_output.specs.Output.{printed, bytes_at}
use Rattle.chip_output.specs.Files.{Piece, word, pieces, text}

-- what is dropped at first is dropped in the end
pub take_again : (n : ℕ) (xs ys : List ℕ) → take n (take n xs ++ ys) ≡ take n (xs ++ ys)
take_again zero xs ys = refl
take_again (suc n) [] ys = refl
take_again (suc n) (x ∷ xs) ys = ap (λ (l : List ℕ). x ∷ l) (take_again n xs ys)

pub take_rest_of : (n : ℕ) (xs ys : List ℕ) → length xs ≤ n → xs ++ take (n - length xs) ys ≡ take n (xs ++ ys)
take_rest_of n xs ys le =
    let e : length xs + (n - length xs) ≡ n = omega (arith, le) in
    sym (take-append-add xs ys (n - length xs)) ∙ ap (λ (m : ℕ). take m (xs ++ ys)) e

pub first_piece : (m : Mem) (list n : ℕ) → n ≢ 0 → pieces m list n ≡ record { address = word m list; count = word m (list + 4) } ∷ pieces m (list + 8) (n - 1)
first_piece m list zero some = absurd (some refl)
first_piece m list (suc n) some =
    let e : suc n - 1 ≡ n = omega arith in
    ap (λ (k : ℕ). record { address = word m list; count = word m (list + 4) } ∷ pieces m (list + 8) k) (sym e)

-- what a console has room for
pub room_for : (xs ys : List ℕ) (n : ℕ) → length xs ≤ 65536 → n ≡ min (length ys) (65536 - length xs) → xs ++ take n ys ≡ take 65536 (xs ++ ys)
room_for xs ys n le e =
    let k : n ≡ min (65536 - length xs) (length ys) = omega (arith, e) in
    ap (λ (m : ℕ). xs ++ take m ys) k ∙ ap (λ (l : List ℕ). xs ++ l) (take_min (65536 - length xs) ys) ∙ take_rest_of 65536 xs ys le

pub no_piece : (m : Mem) (list n : ℕ) (console : List ℕ) → n ≡ 0 → length console ≤ 65536 → console ≡ printed console (text m (pieces m list n))
no_piece m list zero console none few = sym (ap (take 65536) (append-nil console) ∙ take_all 65536 console few)
no_piece m list (suc n) console none few = absurd cc

pub more_pieces : (m : Mem) (list n : ℕ) (console : List ℕ) → n ≢ 0 →
    printed (printed console (bytes_at m (word m list) (word m (list + 4)))) (text m (pieces m (list + 8) (n - 1))) ≡ printed console (text m (pieces m list n))
more_pieces m list n console some =
    let first : List ℕ = bytes_at m (word m list) (word m (list + 4)) in
    let rest : List ℕ = text m (pieces m (list + 8) (n - 1)) in
    take_again 65536 (console ++ first) rest ∙ ap (take 65536) (append_assoc console first rest)
    ∙ ap (λ (ps : List Piece). printed console (text m ps)) (sym (first_piece m list n some))
