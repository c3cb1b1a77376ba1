-- The report but for the chips is the same where all other parts are the same.
use Rattle.std.proofs.Common.{◌≡◌, ℕ, List, [], ◌∷◌, ◌++◌, map, Bool, true, false, Some, refl, ap, sym, ◌∙◌, arith}
use Rattle.std.specs.Prelude.{slice_get, unwrap_or, if◌then◌else◌}
use Rattle.law_board.specs.Alike.{Alike}
use Rattle.law_board.proofs.AlikeLemmas.{alike_tail}
use Rattle.board_build.specs.declared.plan.PlanPart.{PlanPart}
use Rattle.board_build.specs.Parts.{is_chip}
use Rattle.board_build.specs.IsPlan.{kinds_in}
use Rattle.board_report.specs.Report.{chosen_text, parts_text}

-- whether part k is a chip, by its kind
abbrev pub is_chip_at : List PlanPart → ℕ → Bool
is_chip_at parts k = unwrap_or (slice_get (map is_chip (kinds_in parts)) k) false

module _ {A B : Type 0} (says : PlanPart → A → List ℕ) (tells : PlanPart → B → List ℕ) where
  one_same : (part : PlanPart) (a : A) (b : B) → (is_chip (Some part.kind) ≡ false → says part a ≡ tells part b) → chosen_text says false part a ≡ chosen_text tells false part b
  one_same part a b same = go (is_chip (Some part.kind)) refl
    where
      go : (chip : Bool) → is_chip (Some part.kind) ≡ chip → chosen_text says false part a ≡ chosen_text tells false part b
      go true is = ap (λ (c : Bool). if c then [] else says part a) is ∙ sym (ap (λ (c : Bool). if c then [] else tells part b) is)
      go false is = ap (λ (l : List ℕ). if is_chip (Some part.kind) then [] else l) (same is)

  pub rest_same : (parts : List PlanPart) (xs : List A) (ys : List B) → Alike (λ k a b. is_chip_at parts k ≡ false → (part : PlanPart) → says part a ≡ tells part b) xs ys →
      parts_text says false parts xs ≡ parts_text tells false parts ys
  unfolding parts_text
  rest_same [] xs ys like = refl
  rest_same (part ∷ parts) [] [] like = refl
  rest_same (part ∷ parts) [] (y ∷ ys) like = let l = like.long in absurd (omega (arith, l))
  rest_same (part ∷ parts) (x ∷ xs) [] like = let l = like.long in absurd (omega (arith, l))
  rest_same (part ∷ parts) (x ∷ xs) (y ∷ ys) like =
      let one = one_same part x y (λ is. like.each 0 x y refl refl is part) in
      let more = rest_same parts xs ys (alike_tail (λ k a b. is_chip_at (part ∷ parts) k ≡ false → (p : PlanPart) → says p a ≡ tells p b) x y xs ys like) in
      ap (λ (l : List ℕ). l ++ parts_text says false parts xs) one ∙ ap (λ (l : List ℕ). chosen_text tells false part y ++ l) more
