-- Each pin has one of the nets that there are.
use Rattle.std.proofs.Common.{◌≡◌, ℕ, zero, suc, ◌+◌, ◌<◌, ◌≤◌, List, [], ◌∷◌, length, Bool, true, not, ◌⊎◌, get_or, refl, sym, ◌∙◌, subst, arith, inl, inr, length-append}
use Rattle.std.specs.Prelude.{◌==◌, if◌then◌else◌}
use Rattle.std.specs.List.{All, position_or_len}
use Rattle.std.proofs.lemmas.Bool.{eqb-true, cases_lt, cases_Bool}
use Rattle.std.proofs.lemmas.List.{length-map}
use Rattle.std.proofs.lemmas.List.Elements.{All-map}
use Rattle.std.proofs.lemmas.List.Folds.{position_or_len_push}
use Rattle.std.proofs.lemmas.List.Sums.{prefix_len-le-length}
use Rattle.std.proofs.lemmas.Option.{get_or_from_slice_get}
use Rattle.board_model.specs.Walks.{here, below, any_below}
use Rattle.board_model.specs.Nets.{joined_by}
use Rattle.board_model.proofs.WalkLemmas.{some_below, walk_join, walk_sound, walk_complete}
use Rattle.board_model.proofs.Lists.{length-below, get-below}
use Rattle.net_pins.specs.Labels.{IsBelow}
use Rattle.net_pins.specs.Numbering.{is_one_net, is_first, first_pins, number_of_net, net_numbers, net_count}
use Rattle.net_union_find.proofs.PairLemmas.{joined_bounds}
use Rattle.net_pins.proofs.NumberLemmas.{passing, passing_yes, passing_no, pairs_below}

pushed : (place len : ℕ) (passes : Bool) → place ≤ len → (place < len) ⊎ (passes ≡ true) → (if place == len then len + (if passes then 0 else 1) else place) < len + 1
pushed place len passes most (inl less) = elim (cases_Bool (place == len)) [
  | inl same ↦ let e = eqb-true place len same in absurd (omega arith)
  | inr other ↦ rw other (omega arith)
]
pushed place len passes most (inr found) = elim (cases_Bool (place == len)) [
  | inl same ↦ rw (same, found) (omega arith)
  | inr other ↦ rw other (omega arith)
]

here_or_before : (t : ℕ → Bool) (x m place len : ℕ) → t x ≡ true → (x < m → place < len) → (x < m) ⊎ (m ≤ x) → x < suc m → (place < len) ⊎ (t m ≡ true)
here_or_before t x m place len tx before (inl less) l = inl (before less)
here_or_before t x m place len tx before (inr most) l = let e : x ≡ m = omega arith in inr (subst (λ (y : ℕ). t y ≡ true) e tx)

-- where one that passes a first test passes a second one, this test finds one among those of the first
found_below : (f t : ℕ → Bool) (x : ℕ) → f x ≡ true → t x ≡ true → (m : ℕ) → x < m → position_or_len t (passing f m) < length (passing f m)
found_below f t x fx tx zero l = absurd (omega arith)
found_below f t x fx tx (suc m) l =
    let before : x < m → position_or_len t (passing f m) < length (passing f m) = λ less. found_below f t x fx tx m less in
    elim (cases_Bool (f m)) [
      | inl yes_f ↦
          rw (passing_yes f m yes_f, position_or_len_push t (passing f m) m, length-append (passing f m) (m ∷ []))
          (pushed (position_or_len t (passing f m)) (length (passing f m)) (t m) (prefix_len-le-length (λ n. not (t n)) (passing f m))
          (here_or_before t x m (position_or_len t (passing f m)) (length (passing f m)) tx before (cases_lt x m) l))
      | inr no_f ↦ rw (passing_no f m no_f) (elim (cases_lt x m) [
        | inl less ↦ before less
        | inr most ↦ let e : x ≡ m = omega arith in let same : f m ≡ true = subst (λ (y : ℕ). f y ≡ true) e fx in absurd (cc (same, no_f))
      ])
    ]

module _ (pairs : List (ℕ × ℕ)) (count : ℕ) (inside : All (IsBelow count) pairs) where
  steps_inside : (a b : ℕ) → joined_by pairs a b ≡ true → (a < count) × (b < count)
  steps_inside = joined_bounds count pairs (pairs_below count pairs inside)

  one_joined : (a b c : ℕ) → a < count → is_one_net pairs count a b ≡ true → is_one_net pairs count b c ≡ true → is_one_net pairs count a c ≡ true
  one_joined a b c l h k =
      walk_complete count (joined_by pairs) steps_inside a c l
      (walk_join (joined_by pairs) a b c (walk_sound count (joined_by pairs) count a b h) (walk_sound count (joined_by pairs) count b c k))

  -- each pin has one net with a first one
  first_of : (k pin : ℕ) → pin < k → pin < count → (first : ℕ) × (first < count) × (is_first pairs count first ≡ true) × (is_one_net pairs count first pin ≡ true)
  first_of zero pin h l = absurd (omega arith)
  first_of (suc k) pin h l = elim (cases_Bool (any_below pin (λ earlier. is_one_net pairs count earlier pin))) [
    | inl some ↦
        let s = some_below pin (λ earlier. is_one_net pairs count earlier pin) some in
        let f = first_of k s.0 (omega (arith, s.1)) (omega (arith, s.1)) in
        (f.0, f.1, f.2, one_joined f.0 s.0 pin f.1 f.3 s.2)
    | inr none ↦ (pin, l, rw none refl, walk_complete count (joined_by pairs) steps_inside pin pin l here)
  ]

  number_below : (pin : ℕ) → pin < count → number_of_net pairs count pin < net_count pairs count
  unfolding first_pins
  number_below pin l =
      let f = first_of (suc pin) pin (omega arith) l in
      found_below (is_first pairs count) (λ first. is_one_net pairs count first pin) f.0 f.2 f.3 count f.1

  -- the net of each pin is one of those that there are
  pub numbers_below : All (λ net. net < net_count pairs count) (net_numbers pairs count)
  unfolding net_numbers
  numbers_below = All-map (λ net. net < net_count pairs count) (number_of_net pairs count) (below count)
      (λ k d (h : k < length (below count)).
      let l : k < count = rw (sym (length-below count)) h in
      number_below (get_or (below count) k d) (rw (get_or_from_slice_get (below count) k k d (get-below count k l)) l))

-- each pin has a net
pub length-net_numbers : (pairs : List (ℕ × ℕ)) (count : ℕ) → length (net_numbers pairs count) ≡ count
unfolding net_numbers
length-net_numbers pairs count = length-map (below count) (number_of_net pairs count) ∙ length-below count
