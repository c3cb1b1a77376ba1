-- Where the first word of a line ends.
use Rattle.std.proofs.Common.{◌≡◌, ◌≢◌, ◌<◌, ◌+◌, ℕ, zero, suc, List, [], ◌∷◌, ◌++◌, length, get_or, take, drop, false, ◌==◌, refl, ap, arith, ◌∙◌, sym, inl, inr, None}
use Rattle.std.proofs.lemmas.Bool.{ne_eqb, cases_Bool}
use Rattle.std.proofs.lemmas.List.{take-append-drop, drop_more, length-take-le, get_or-take}
use Rattle.text_model.specs.Lines.{before_first_line}
use Rattle.input_script.specs.Script.{words, starts_space, action_of}

-- no byte is a space
abbrev pub IsUnbroken : List ℕ → Type 0
IsUnbroken l = (k : ℕ) → k < length l → get_or l k 0 ≢ 32

word_ended : (l rest : List ℕ) (more : List (List ℕ)) → IsUnbroken l → words (32 ∷ rest) ≡ [] ∷ more → words (l ++ 32 ∷ rest) ≡ l ∷ more
unfolding words
word_ended [] rest more unbroken e = e
word_ended (b ∷ bs) rest more unbroken e =
    let h : (b == 32) ≡ false = ne_eqb b 32 (unbroken 0 (omega arith)) in
    let tail : words (bs ++ 32 ∷ rest) ≡ bs ∷ more = word_ended bs rest more (λ (k : ℕ) (p : k < length bs). unbroken (suc k) (omega arith)) e in
    rw h (ap (before_first_line b) tail)

pub word_alone : (l : List ℕ) → IsUnbroken l → words l ≡ l ∷ []
unfolding words
word_alone [] unbroken = refl
word_alone (b ∷ bs) unbroken =
    let h : (b == 32) ≡ false = ne_eqb b 32 (unbroken 0 (omega arith)) in
    let tail : words bs ≡ bs ∷ [] = word_alone bs (λ (k : ℕ) (p : k < length bs). unbroken (suc k) (omega arith)) in
    rw h (ap (before_first_line b) tail)

pub word_at : (l : List ℕ) (i : ℕ) (more : List (List ℕ)) → i < length l → get_or l i 0 ≡ 32 → ((k : ℕ) → k < i → get_or l k 0 ≢ 32) → words (32 ∷ drop (i + 1) l) ≡ [] ∷ more → words l ≡ take i l ∷ more
word_at l i more p e unbroken tail =
    let whole : take i l ++ 32 ∷ drop (i + 1) l ≡ l = ap (λ (x : List ℕ). take i l ++ x) (ap (λ (x : ℕ). x ∷ drop (i + 1) l) (sym e) ∙ sym (drop_more l i 0 p)) ∙ take-append-drop i l in
    let n : length (take i l) ≡ i = length-take-le i l (omega arith) in
    ap words (sym whole) ∙ word_ended (take i l) (drop (i + 1) l) more (λ (k : ℕ) (q : k < length (take i l)).
    let r : k < i = omega arith in
    rw (get_or-take i l k 0 r) (unbroken k r)) tail

-- spaces after a word
pub space_more : (l : List ℕ) (i : ℕ) → i < length l → get_or l i 0 ≡ 32 → words (32 ∷ drop (i + 1) l) ≡ words (32 ∷ drop i l)
unfolding words
space_more l i p e =
    let next : drop i l ≡ 32 ∷ drop (i + 1) l = drop_more l i 0 p ∙ ap (λ (b : ℕ). b ∷ drop (i + 1) l) e in
    rw next refl

pub space_end : (l : List ℕ) (i : ℕ) → i < length l → get_or l i 0 ≢ 32 → words (32 ∷ drop i l) ≡ [] ∷ words (drop i l)
unfolding words
space_end l i p e =
    let h : (get_or l i 0 == 32) ≡ false = ne_eqb (get_or l i 0) 32 e in
    rw (drop_more l i 0 p, h) refl

pub no_space : words (32 ∷ []) ≡ [] ∷ words []
unfolding words
no_space = refl

-- every line has a word
some_word : (l : List ℕ) → (x : List ℕ) × (xs : List (List ℕ)) × (words l ≡ x ∷ xs)
unfolding words
some_word [] = ([], [], refl)
some_word (b ∷ bs) =
    let more = some_word bs in
    elim (cases_Bool (b == 32)) [
      | inl h ↦ elim (cases_Bool (starts_space bs)) [
        | inl s ↦ (more.0, more.1, rw (h, s) more.2)
        | inr s ↦ ([], words bs, rw (h, s) refl)
      ]
      | inr h ↦ (b ∷ more.0, more.1, rw h (ap (before_first_line b) more.2))
    ]

pub five_words : (a b c d rest : List ℕ) → None ≡ action_of (a ∷ b ∷ c ∷ d ∷ words rest)
five_words a b c d rest = let more = some_word rest in rw more.2 refl
