-- The lines of a console, byte by byte.
use Rattle.std.proofs.Common.{◌≡◌, ℕ, List, [], ◌∷◌, ◌++◌, map, Bool, true, false, refl, sym, ap, ◌∙◌}
use Rattle.std.specs.Prelude.{◌==◌, not, if◌then◌else◌}
use Rattle.std.specs.List.{flat_map}
use Rattle.std.proofs.lemmas.List.{append_assoc}
use Rattle.chip_report.specs.Lines.{shown, joined, lines_of, shown_line, console_opening, console_text}
use Rattle.chip_report.specs.Writing.{rest_text}

module _ (word : List ℕ) where
  abbrev whole : List (List ℕ) → List ℕ
  whole lines = flat_map (shown_line word) lines

  -- lines without the opening of the first
  abbrev opened : List (List ℕ) → List ℕ
  opened [] = 10 ∷ []
  opened (line ∷ lines) = (map shown line ++ 10 ∷ []) ++ whole lines

  more : (b : ℕ) (lines : List (List ℕ)) → opened (joined b lines) ≡ shown b ∷ opened lines
  more b [] = refl
  more b (line ∷ lines) = refl

  first : (b : ℕ) (lines : List (List ℕ)) → whole (joined b lines) ≡ word ++ (shown b ∷ opened lines)
  first b [] = append_assoc word (shown b ∷ 10 ∷ []) []
  first b (line ∷ lines) = append_assoc word (shown b ∷ (map shown line ++ 10 ∷ [])) (whole lines)

  -- by whether a byte is a LF
  abbrev walk : Bool → Bool → ℕ → List ℕ → List ℕ
  walk begun ends b bs = ((if begun then [] else word) ++ ((if ends then 10 else shown b) ∷ [])) ++ rest_text word (not ends) bs

  abbrev split : Bool → ℕ → List ℕ → List (List ℕ)
  split ends b bs = if ends then [] ∷ lines_of bs else joined b (lines_of bs)

  by_byte : (ends : Bool) (b : ℕ) (bs : List ℕ) → rest_text word true bs ≡ opened (lines_of bs) → rest_text word false bs ≡ whole (lines_of bs)
      → (walk true ends b bs ≡ opened (split ends b bs)) × (walk false ends b bs ≡ whole (split ends b bs))
  by_byte true b bs p q = (ap (λ (x : List ℕ). 10 ∷ x) q, ap (λ (x : List ℕ). (word ++ 10 ∷ []) ++ x) q)
  by_byte false b bs p q = (
    ap (λ (x : List ℕ). shown b ∷ x) p ∙ sym (more b (lines_of bs)),
    append_assoc word (shown b ∷ []) (rest_text word true bs) ∙ ap (λ (x : List ℕ). word ++ (shown b ∷ x)) p ∙ sym (first b (lines_of bs)),
  )

  both : (bs : List ℕ) → (rest_text word true bs ≡ opened (lines_of bs)) × (rest_text word false bs ≡ whole (lines_of bs))
  both [] = (refl, refl)
  both (b ∷ bs) = let rest = both bs in by_byte (b == 10) b bs rest.0 rest.1

pub console_is : (id text : List ℕ) → rest_text (console_opening id) false text ≡ console_text id text
console_is id text = (both (console_opening id) text).1
