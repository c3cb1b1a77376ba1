-- How long the names of refusals are.
use Rattle.std.proofs.Common.{◌≡◌, ◌≤◌, ◌==◌, ℕ, List, [], ◌∷◌, length, Bool, true, ◌&&◌, refl, arith, inl, inr, nat_lt}
use Rattle.std.proofs.lemmas.Bool.{and_parts, cases_Bool}
use Rattle.std.proofs.lemmas.Bool.Decides.{nat_tests}
use Rattle.sim_refusals.specs.Refusals.{name_of, name_in, files, requests}

abbrev are_short : List (ℕ × List ℕ) → Bool
are_short [] = true
are_short (x ∷ xs) = nat_lt (length x.1) 21 && are_short xs

short_in : (n : ℕ) (names : List (ℕ × List ℕ)) → are_short names ≡ true → length (name_in n names) ≤ 20
short_in n [] short = omega arith
short_in n (x ∷ xs) short =
    let both = and_parts (nat_lt (length x.1) 21) (are_short xs) short in
    let first : length x.1 ≤ 20 = grind (arith, nat_tests, both.0) in
    elim (cases_Bool (x.0 == n)) [
      | inl h ↦ rw h first
      | inr h ↦ rw h (short_in n xs both.1)
    ]

-- no name has more than 20 bytes
pub name_short : (n : ℕ) → length (name_of n) ≤ 20
name_short n = elim (cases_Bool (nat_lt n 100)) [
  | inl h ↦ rw h (short_in n files refl)
  | inr h ↦ rw h (short_in n requests refl)
]
