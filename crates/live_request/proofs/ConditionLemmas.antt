-- One condition after another.
use Rattle.std.proofs.Common.{◌≡◌, ◌<◌, ◌+◌, ◌-◌, ◌∙◌, ℕ, suc, List, [], ◌∷◌, ◌++◌, true, false, refl, ap, sym, arith}
use Rattle.std.specs.Prelude.{Result, Ok, Err}
use Rattle.sim_refusals.specs.Refusals.{RequestWords}
use Rattle.live_request.specs.Condition.{Condition, condition, conditions_after}
use Rattle.live_request.specs.Words.{Reading, ◌>>=◌, is_empty}

left : (k : ℕ) → k < 16 → 16 - k ≡ suc (16 - (k + 1))
left k below = omega arith

one_over : (read : List Condition) (m : ℕ) (rest : List (List ℕ)) → is_empty rest ≡ true → conditions_after read (suc m) rest ≡ Ok read
unfolding conditions_after
one_over read m rest over = rw over refl

-- what a condition leads to, where at most m may follow it
abbrev on : List Condition → ℕ → Reading Condition → Result (List Condition) ℕ
on read m r = r >>= λ x. conditions_after (read ++ x.0 ∷ []) m x.1

one_more : (read : List Condition) (m : ℕ) (rest : List (List ℕ)) → is_empty rest ≡ false → conditions_after read (suc m) rest ≡ on read m (condition rest)
unfolding conditions_after
one_more read m rest more = rw more refl

-- no word is left
pub read_over : (read : List Condition) (k : ℕ) (rest : List (List ℕ)) → k < 16 → true ≡ is_empty rest → conditions_after read (16 - k) rest ≡ Ok read
read_over read k rest below over = ap (λ (n : ℕ). conditions_after read n rest) (left k below) ∙ one_over read (16 - (k + 1)) rest (sym over)

-- a condition was read
pub read_more : (read : List Condition) (k : ℕ) (rest : List (List ℕ)) (x : Condition) (more : List (List ℕ)) → k < 16 → false ≡ is_empty rest → Ok (x, more) ≡ condition rest
    → conditions_after read (16 - k) rest ≡ conditions_after (read ++ x ∷ []) (16 - (k + 1)) more
read_more read k rest x more below some e =
    ap (λ (n : ℕ). conditions_after read n rest) (left k below) ∙ one_more read (16 - (k + 1)) rest (sym some) ∙ ap (on read (16 - (k + 1))) (sym e)

-- a rule was broken
pub read_none : (read : List Condition) (k : ℕ) (rest : List (List ℕ)) (number : ℕ) → k < 16 → false ≡ is_empty rest → Err number ≡ condition rest
    → conditions_after read (16 - k) rest ≡ Err number
read_none read k rest number below some e =
    ap (λ (n : ℕ). conditions_after read n rest) (left k below) ∙ one_more read (16 - (k + 1)) rest (sym some) ∙ ap (on read (16 - (k + 1))) (sym e)

-- 16 conditions were read, and no word is left
pub full : (read : List Condition) (rest : List (List ℕ)) → true ≡ is_empty rest → conditions_after read 0 rest ≡ Ok read
unfolding conditions_after
full read rest over = rw (sym over) refl

-- 16 conditions were read, and a word is left
pub too_many : (read : List Condition) (rest : List (List ℕ)) → false ≡ is_empty rest → conditions_after read 0 rest ≡ Err RequestWords
unfolding conditions_after
too_many read rest some = rw (sym some) refl
