-- Where the first word of a text ends.
use Rattle.std.proofs.Common.{◌≡◌, ◌≢◌, ◌<◌, ◌+◌, ℕ, suc, List, [], ◌∷◌, ◌++◌, length, get_or, take, drop, false, ◌==◌, refl, ap, arith, ◌∙◌, sym, inl, inr, Option, None, Some, Bor}
use Rattle.std.specs.Prelude.{is_some, not, Bool, true}
use Rattle.std.proofs.lemmas.Bool.{ne_eqb, cases_Bool}
use Rattle.std.proofs.lemmas.List.{take-append-drop, drop_more, length-take-le, get_or-take}
use Rattle.text_model.specs.Lines.{before_first_line}
use Rattle.live_request.specs.Words.{words, is_empty}
use Rattle.live_request.specs.Rests.{words_left}

-- no byte is a space
abbrev pub IsUnbroken : List ℕ → Type 0
IsUnbroken l = (k : ℕ) → k < length l → get_or l k 0 ≢ 32

word_ended : (l rest : List ℕ) → IsUnbroken l → words (l ++ 32 ∷ rest) ≡ l ∷ words rest
unfolding words
word_ended [] rest unbroken = refl
word_ended (b ∷ bs) rest unbroken =
    let h : (b == 32) ≡ false = ne_eqb b 32 (unbroken 0 (omega arith)) in
    let tail : words (bs ++ 32 ∷ rest) ≡ bs ∷ words rest = word_ended bs rest (λ (k : ℕ) (p : k < length bs). unbroken (suc k) (omega arith)) in
    rw h (ap (before_first_line b) tail)

pub word_alone : (l : List ℕ) → IsUnbroken l → words l ≡ l ∷ []
unfolding words
word_alone [] unbroken = refl
word_alone (b ∷ bs) unbroken =
    let h : (b == 32) ≡ false = ne_eqb b 32 (unbroken 0 (omega arith)) in
    let tail : words bs ≡ bs ∷ [] = word_alone bs (λ (k : ℕ) (p : k < length bs). unbroken (suc k) (omega arith)) in
    rw h (ap (before_first_line b) tail)

pub word_at : (l : List ℕ) (i : ℕ) → i < length l → get_or l i 0 ≡ 32 → ((k : ℕ) → k < i → get_or l k 0 ≢ 32) → words l ≡ take i l ∷ words (drop (i + 1) l)
word_at l i p e unbroken =
    let whole : take i l ++ 32 ∷ drop (i + 1) l ≡ l = ap (λ (x : List ℕ). take i l ++ x) (ap (λ (x : ℕ). x ∷ drop (i + 1) l) (sym e) ∙ sym (drop_more l i 0 p)) ∙ take-append-drop i l in
    let n : length (take i l) ≡ i = length-take-le i l (omega arith) in
    ap words (sym whole) ∙ word_ended (take i l) (drop (i + 1) l) (λ (k : ℕ) (q : k < length (take i l)).
    let r : k < i = omega arith in
    rw (get_or-take i l k 0 r) (unbroken k r))

first_some : (b : ℕ) (x : List (List ℕ)) → is_empty (before_first_line b x) ≡ false
first_some b [] = refl
first_some b (line ∷ rest) = refl

-- every text has a word
some_word : (l : List ℕ) → is_empty (words l) ≡ false
unfolding words
some_word [] = refl
some_word (b ∷ bs) = elim (cases_Bool (b == 32)) [
  | inl h ↦ rw h refl
  | inr h ↦ rw h (first_some b (words bs))
]

-- no word is left exactly where nothing is
pub over : (rest : Option (Bor (List ℕ))) (answer : Bool) → is_some rest ≡ not answer → answer ≡ is_empty (words_left rest)
over None true e = refl
over None false e = absurd cc
over (Some text) true e = absurd cc
over (Some text) false e = sym (some_word text.now)
