-- Nets that are noted one after another.
use Rattle.std.proofs.Common.{◌≡◌, ℕ, ◌+◌, ◌<◌, ◌≤◌, List, [], ◌∷◌, ◌++◌, length, Bool, true, false, ◌||◌, refl, ap, sym, ◌∙◌, arith, inl, inr, eqb, subst, ◌≢◌}
use Rattle.std.proofs.lemmas.Bool.{cases_lt, or_parts}
use Rattle.std.proofs.lemmas.Option.{slice_get_past}
use Rattle.std.proofs.lemmas.Bool.Decides.{eqb_tells}
use Rattle.std.proofs.lemmas.List.Folds.{list_any-append}
use Rattle.std.specs.List.{list_any}
use Rattle.std.specs.Prelude.{if◌then◌else◌, slice_get}

or_second : (a b : Bool) → (a || (b || false)) ≡ false → b ≡ false
or_second true b h = absurd cc
or_second false true h = h
or_second false false h = refl

-- what holds of each number that is not noted holds of one more
pub note_more : (nets new : List ℕ) (i : ℕ) (other : Bool) (P : ℕ → Type 0) → new ≡ (if other then nets ++ i ∷ [] else nets) → (other ≡ false → P i) →
    ((n : ℕ) → n < i → list_any (eqb n) nets ≡ false → P n) → (n : ℕ) → n < i + 1 → list_any (eqb n) new ≡ false → P n
note_more nets new i other P e here before n less none = elim (eqb_tells n i) [
  | inl same ↦ subst P (sym same.1) (here (off other same.0 e))
  | inr ne ↦ let far = ne.1 in before n (omega (arith, less, far)) (still other e)
]
  where
    both : list_any (eqb n) (nets ++ i ∷ []) ≡ (list_any (eqb n) nets || (eqb n i || false))
    both = list_any-append (eqb n) nets (i ∷ [])

    still : (other : Bool) → new ≡ (if other then nets ++ i ∷ [] else nets) → list_any (eqb n) nets ≡ false
    still true f = (or_parts _ _ (sym both ∙ ap (list_any (eqb n)) (sym f) ∙ none)).0
    still false f = ap (list_any (eqb n)) (sym f) ∙ none

    off : (other : Bool) → eqb n i ≡ true → new ≡ (if other then nets ++ i ∷ [] else nets) → other ≡ false
    off true t f = let a : eqb n i ≡ false = or_second _ _ (sym both ∙ ap (list_any (eqb n)) (sym f) ∙ none) in absurd cc
    off false t f = refl

-- past the ends of two lists nothing differs
pub none_past : {A : Type 0} (before after : List A) (i : ℕ) (nets : List ℕ) → length before ≤ i → length after ≤ i →
    ((n : ℕ) → n < i → list_any (eqb n) nets ≡ false → slice_get after n ≡ slice_get before n) → (n : ℕ) → list_any (eqb n) nets ≡ false → slice_get after n ≡ slice_get before n
none_past before after i nets h1 h2 all n none = elim (cases_lt n i) [
  | inl less ↦ all n less none
  | inr more ↦ slice_get_past after n (omega (arith, h2, more)) ∙ sym (slice_get_past before n (omega (arith, h1, more)))
]
