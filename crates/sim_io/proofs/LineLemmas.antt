-- The line on Complaint, part by part.
use Rattle.std.proofs.Common.{◌≡◌, ℕ, List, [], ◌∷◌, ◌++◌, ap, sym, ◌∙◌}
use Rattle.std.specs.List.{concat}
use Rattle.std.proofs.lemmas.List.{append_assoc, append-nil}

concat_push : (xss : List (List ℕ)) (ys : List ℕ) → concat (xss ++ ys ∷ []) ≡ concat xss ++ ys
concat_push [] ys = append-nil ys
concat_push (xs ∷ xss) ys = ap (λ (l : List ℕ). xs ++ l) (concat_push xss ys) ∙ sym (append_assoc xs (concat xss) ys)

-- a word and a number
pub word_number : (said word number : List ℕ) → (said ++ word) ++ number ≡ said ++ concat (word ∷ number ∷ [])
word_number said word number = append_assoc said word number ∙ ap (λ (l : List ℕ). said ++ (word ++ l)) (sym (append-nil number))

-- two words, each with its number
pub two_numbers : (said w m v n : List ℕ) → (said ++ concat (w ∷ m ∷ [])) ++ concat (v ∷ n ∷ []) ≡ said ++ concat (w ∷ m ∷ v ∷ n ∷ [])
two_numbers said w m v n = simp (append_assoc, append-nil)

pub refusal_line : (name word number space what : List ℕ) (place : List (List ℕ)) (last : List ℕ) →
    ((((([] ++ name) ++ concat (word ∷ number ∷ [])) ++ space) ++ what) ++ concat place) ++ last
    ≡ name ++ (word ++ (number ++ (space ++ (what ++ concat (place ++ last ∷ [])))))
refusal_line name word number space what place last = rw (concat_push place last) (simp (append_assoc, append-nil))
