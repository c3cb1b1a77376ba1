-- What changes say in a cycle, change by change.
use Rattle.std.proofs.Common.{◌≡◌, ◌<◌, ◌≤◌, ℕ, suc, List, [], ◌∷◌, ◌++◌, length, Bool, true, false, ◌&&◌, nat_le, if◌then◌else◌, refl, arith, ◌∙◌}
use Rattle.std.specs.List.{All}
use Rattle.std.proofs.lemmas.Bool.Decides.{nat_tests}
use Rattle.wave_lines.specs.Reading.{Change}
use Rattle.wave_lines.specs.Changes.{value_from}

pub le_true : (n m : ℕ) → n ≤ m → nat_le n m ≡ true
le_true n m h = grind (arith, nat_tests, h)

pub le_false : (n m : ℕ) → m < n → nat_le n m ≡ false
le_false n m h = grind (arith, nat_tests, h)

module _ (test : Change → Bool) where
  pub value_push : (said : List Change) (found : ℕ) (c : Change) (t : ℕ) →
      value_from test found (said ++ c ∷ []) t ≡ (if test c && nat_le c.cycle t then c.value else value_from test found said t)
  value_push [] found c t = refl
  value_push (d ∷ said) found c t = value_push said (if test d && nat_le d.cycle t then d.value else found) c t

  pub value_other : (said : List Change) (found : ℕ) (c : Change) (t : ℕ) → test c ≡ false → value_from test found (said ++ c ∷ []) t ≡ value_from test found said t
  value_other said found c t e = value_push said found c t ∙ rw e refl

  pub value_before : (said : List Change) (found : ℕ) (c : Change) (t : ℕ) → t < c.cycle → value_from test found (said ++ c ∷ []) t ≡ value_from test found said t
  value_before said found c t less = value_push said found c t ∙ rw (le_false c.cycle t less) (neither (test c))
    where
      neither : (b : Bool) → (if b && false then c.value else value_from test found said t) ≡ value_from test found said t
      neither true = refl
      neither false = refl

  pub value_now : (said : List Change) (found : ℕ) (c : Change) (t : ℕ) → test c ≡ true → c.cycle ≤ t → value_from test found (said ++ c ∷ []) t ≡ c.value
  value_now said found c t e least = value_push said found c t ∙ rw (e, le_true c.cycle t least) refl

  pub value_still : (said : List Change) (found k t : ℕ) → All (λ (d : Change). d.cycle ≤ k) said → k ≤ t →
      value_from test found said t ≡ value_from test found said k
  value_still [] found k t all later = refl
  value_still (c ∷ said) found k t all later =
      rw (le_true c.cycle t (omega (arith, first_of all, later)), le_true c.cycle k (first_of all))
      (value_still said (if test c && true then c.value else found) k t (rest_of all) later)
    where
      first_of : All (λ (d : Change). d.cycle ≤ k) (c ∷ said) → c.cycle ≤ k
      first_of a = a 0 c (omega arith)

      rest_of : All (λ (d : Change). d.cycle ≤ k) (c ∷ said) → All (λ (d : Change). d.cycle ≤ k) said
      rest_of a = λ (k : ℕ) (d : Change) (p : k < length said). a (suc k) d (omega (arith, p))
