-- Where the first line of a text ends.
use Rattle.std.proofs.Common.{◌≡◌, ◌≢◌, ◌<◌, ◌+◌, ℕ, zero, suc, List, [], ◌∷◌, ◌++◌, length, get_or, take, drop, false, ◌==◌, refl, ap, arith, inl, inr, ◌∙◌, sym}
use Rattle.std.proofs.lemmas.Bool.{ne_eqb, eq-eqb, cases_eq}
use Rattle.std.proofs.lemmas.List.{take-append-drop, drop_more, length-take-le, get_or-take}
use Rattle.text_model.specs.Lines.{lines, before_first_line}
use Rattle.input_texts.specs.Ends.{without_cr}

pub cr_last : (l : List ℕ) (k : ℕ) → length l ≡ suc k → get_or l k 0 ≡ 13 → without_cr l ≡ take k l
cr_last [] k q e = absurd (omega arith)
cr_last (b ∷ []) zero q e = rw (eq-eqb b 13 e) refl
cr_last (b ∷ []) (suc k) q e = absurd (omega arith)
cr_last (b ∷ c ∷ bs) zero q e = absurd (omega arith)
cr_last (b ∷ c ∷ bs) (suc k) q e = ap (λ (x : List ℕ). b ∷ x) (cr_last (c ∷ bs) k (omega arith) e)

pub no_cr : (l : List ℕ) (k : ℕ) → length l ≡ suc k → get_or l k 0 ≢ 13 → without_cr l ≡ l
no_cr [] k q e = refl
no_cr (b ∷ []) zero q e = rw (ne_eqb b 13 e) refl
no_cr (b ∷ []) (suc k) q e = absurd (omega arith)
no_cr (b ∷ c ∷ bs) zero q e = absurd (omega arith)
no_cr (b ∷ c ∷ bs) (suc k) q e = ap (λ (x : List ℕ). b ∷ x) (no_cr (c ∷ bs) k (omega arith) e)

-- no byte is LF
abbrev pub IsUnbroken : List ℕ → Type 0
IsUnbroken l = (k : ℕ) → k < length l → get_or l k 0 ≢ 10

rest_unbroken : (b : ℕ) (l : List ℕ) → IsUnbroken (b ∷ l) → IsUnbroken l
rest_unbroken b l unbroken k p = unbroken (suc k) (omega arith)

pub lines_ended : (l rest : List ℕ) → IsUnbroken l → lines (l ++ 10 ∷ rest) ≡ without_cr l ∷ lines rest
unfolding lines
lines_ended [] rest unbroken = refl
lines_ended (b ∷ []) rest unbroken =
    let h : (b == 10) ≡ false = ne_eqb b 10 (unbroken 0 (omega arith)) in
    elim (cases_eq b 13) [
      | inl e ↦ rw (h, eq-eqb b 13 e) refl
      | inr e ↦ rw (h, ne_eqb b 13 e) refl
    ]
lines_ended (b ∷ c ∷ bs) rest unbroken =
    let h : (b == 10) ≡ false = ne_eqb b 10 (unbroken 0 (omega arith)) in
    let g : (c == 10) ≡ false = ne_eqb c 10 (unbroken 1 (omega arith)) in
    let more : lines ((c ∷ bs) ++ 10 ∷ rest) ≡ without_cr (c ∷ bs) ∷ lines rest = lines_ended (c ∷ bs) rest (rest_unbroken b (c ∷ bs) unbroken) in
    elim (cases_eq b 13) [
      | inl e ↦ rw (h, eq-eqb b 13 e, g) (rw g at (ap (before_first_line b) more))
      | inr e ↦ rw (h, ne_eqb b 13 e) (ap (before_first_line b) more)
    ]

pub lines_last : (b : ℕ) (l : List ℕ) → IsUnbroken (b ∷ l) → lines (b ∷ l) ≡ (b ∷ l) ∷ []
unfolding lines
lines_last b [] unbroken =
    let h : (b == 10) ≡ false = ne_eqb b 10 (unbroken 0 (omega arith)) in
    elim (cases_eq b 13) [
      | inl e ↦ rw (h, eq-eqb b 13 e) refl
      | inr e ↦ rw (h, ne_eqb b 13 e) refl
    ]
lines_last b (c ∷ bs) unbroken =
    let h : (b == 10) ≡ false = ne_eqb b 10 (unbroken 0 (omega arith)) in
    let g : (c == 10) ≡ false = ne_eqb c 10 (unbroken 1 (omega arith)) in
    let more : lines (c ∷ bs) ≡ (c ∷ bs) ∷ [] = lines_last c bs (rest_unbroken b (c ∷ bs) unbroken) in
    elim (cases_eq b 13) [
      | inl e ↦ rw (h, eq-eqb b 13 e, g) (rw g at (ap (before_first_line b) more))
      | inr e ↦ rw (h, ne_eqb b 13 e) (ap (before_first_line b) more)
    ]

-- the text up to an LF is the first line
pub lines_at : (l : List ℕ) (i : ℕ) → i < length l → get_or l i 0 ≡ 10 → ((k : ℕ) → k < i → get_or l k 0 ≢ 10) → lines l ≡ without_cr (take i l) ∷ lines (drop (i + 1) l)
lines_at l i p e unbroken =
    let whole : take i l ++ 10 ∷ drop (i + 1) l ≡ l = ap (λ (x : List ℕ). take i l ++ x) (ap (λ (x : ℕ). x ∷ drop (i + 1) l) (sym e) ∙ sym (drop_more l i 0 p)) ∙ take-append-drop i l in
    let n : length (take i l) ≡ i = length-take-le i l (omega arith) in
    ap lines (sym whole) ∙ lines_ended (take i l) (drop (i + 1) l) (λ (k : ℕ) (q : k < length (take i l)).
    let r : k < i = omega arith in
    rw (get_or-take i l k 0 r) (unbroken k r))

pub lines_whole : (l : List ℕ) → 0 < length l → IsUnbroken l → lines l ≡ l ∷ []
lines_whole [] p unbroken = absurd (omega arith)
lines_whole (b ∷ l) p unbroken = lines_last b l unbroken
