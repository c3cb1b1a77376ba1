-- Which variables have a value in cycle 0, change by change.
use Rattle.std.proofs.Common.{◌≡◌, ◌≢◌, ◌<◌, ℕ, List, [], ◌∷◌, ◌++◌, length, map, replicate, Bool, true, false}
use Rattle.std.proofs.Common.{◌&&◌, ◌||◌, ◌==◌, if◌then◌else◌, Some, refl, ap, arith, ◌∙◌, sym, inl, inr}
use Rattle.std.specs.Prelude.{slice_get, slice_set}
use Rattle.std.specs.List.{list_all, range_with_len}
use Rattle.std.proofs.lemmas.Bool.{cases_Bool, cases_eq, eq-eqb, ne_eqb}
use Rattle.std.proofs.lemmas.List.{get_or-set_same, get_or-set_other, get_or-replicate, length-replicate, length-set, same_lists}
use Rattle.std.proofs.lemmas.List.Folds.{list_all-map, list_any-append}
use Rattle.std.proofs.lemmas.List.FromFn.{get_or-map-range_with_len, length-map-range_with_len}
use Rattle.std.proofs.lemmas.Option.{slice_get_within, slice_get-get_or, get_or_from_slice_get}
use Rattle.std.proofs.Math.Bool.{or-false, or-true}
use Rattle.wave_lines.specs.Reading.{Change, is_given}
use Rattle.wave_lines.specs.Gifts.{given_after, AreGiven}

-- an item that is set, and the others
pub set_same : {X : Type 0} (xs : List X) (i : ℕ) (x : X) → i < length xs → slice_get (slice_set xs i x) i ≡ Some x
set_same xs i x less = slice_get-get_or (slice_set xs i x) i x (omega (arith, less, length-set xs i x)) ∙ ap Some (get_or-set_same xs i x x less)

pub set_other : {X : Type 0} (xs : List X) (i j : ℕ) (x : X) → j < length xs → j ≢ i → slice_get (slice_set xs i x) j ≡ slice_get xs j
set_other xs i j x less far = slice_get-get_or (slice_set xs i x) j x (omega (arith, less, length-set xs i x)) ∙ ap Some (get_or-set_other xs i j x x far)
    ∙ sym (slice_get-get_or xs j x less)

both_on : (a b : Bool) → a ≡ true → b ≡ true → ((a && b) || false) ≡ true
both_on true true e f = refl
both_on true false e f = f
both_on false b e f = e

off_first : (a b : Bool) → a ≡ false → ((a && b) || false) ≡ false
off_first true b e = absurd cc
off_first false b e = refl

off_second : (a b : Bool) → b ≡ false → ((a && b) || false) ≡ false
off_second true true e = absurd cc
off_second true false e = refl
off_second false b e = refl

given_push : (said : List Change) (c : Change) (given : List Bool) (j : ℕ) → slice_get given j ≡ Some (is_given said j) →
    slice_get (given_after given c.variable c.cycle) j ≡ Some (is_given (said ++ c ∷ []) j)
given_push said c given j at =
    let more : is_given (said ++ c ∷ []) j ≡ (is_given said j || ((c.cycle == 0 && c.variable == j) || false)) =
    list_any-append (λ (d : Change). d.cycle == 0 && d.variable == j) said (c ∷ []) in
    let less = slice_get_within given j (is_given said j) at in
    elim (cases_Bool (c.cycle == 0)) [
      | inl now ↦ ap (λ (b : Bool). slice_get (if b then slice_set given c.variable true else given) j) now ∙ elim (cases_eq c.variable j) [
        | inl same ↦ ap (λ (k : ℕ). slice_get (slice_set given k true) j) same ∙ set_same given j true less
            ∙ ap (λ (b : Bool). Some b) (sym (more
            ∙ ap (λ (b : Bool). is_given said j || b) (both_on (c.cycle == 0) (c.variable == j) now (eq-eqb c.variable j same)) ∙ or-true (is_given said j)))
        | inr far ↦ set_other given c.variable j true less (λ e. far (sym e)) ∙ at
            ∙ ap (λ (b : Bool). Some b) (sym (more
            ∙ ap (λ (b : Bool). is_given said j || b) (off_second (c.cycle == 0) (c.variable == j) (ne_eqb c.variable j far)) ∙ or-false (is_given said j)))
      ]
      | inr later ↦ ap (λ (b : Bool). slice_get (if b then slice_set given c.variable true else given) j) later ∙ at
          ∙ ap (λ (b : Bool). Some b) (sym (more ∙ ap (λ (b : Bool). is_given said j || b) (off_first (c.cycle == 0) (c.variable == j) later)
          ∙ or-false (is_given said j)))
    ]

given_long : (given : List Bool) (i cycle : ℕ) → length (given_after given i cycle) ≡ length given
given_long given i cycle = go (cycle == 0)
  where
    go : (b : Bool) → length (if b then slice_set given i true else given) ≡ length given
    go true = length-set given i true
    go false = refl

module _ (count : ℕ) where
  -- one more change
  pub given_more : (said : List Change) (c : Change) (given : List Bool) → AreGiven count said given →
      AreGiven count (said ++ c ∷ []) (given_after given c.variable c.cycle)
  given_more said c given are = record {
    many = given_long given c.variable c.cycle ∙ are.many;
    each = λ j less. given_push said c given j (are.each j less);
  }

  -- nothing is said yet
  pub given_none : (given : List Bool) → given ≡ replicate count false → AreGiven count [] given
  given_none given e = record {
    many = ap (λ (l : List Bool). length l) e ∙ length-replicate count false;
    each = λ i less. ap (λ (l : List Bool). slice_get l i) e
        ∙ slice_get-get_or (replicate count false) i false (omega (arith, less, length-replicate count false))
        ∙ ap Some (get_or-replicate count i false false less);
  }

  pub all_given : (said : List Change) (given : List Bool) → AreGiven count said given →
      list_all (λ (g : Bool). g) given ≡ list_all (is_given said) (range_with_len 0 count)
  all_given said given are = ap (list_all (λ (g : Bool). g)) same ∙ list_all-map (λ (g : Bool). g) (is_given said) (range_with_len 0 count)
    where
      same : given ≡ map (is_given said) (range_with_len 0 count)
      same = same_lists given (map (is_given said) (range_with_len 0 count)) (are.many ∙ sym (length-map-range_with_len (is_given said) 0 count))
          (λ k d p. (let less : k < count = omega (arith, p, are.many) in
          get_or_from_slice_get given k (is_given said k) d (are.each k less)
          ∙ sym (get_or-map-range_with_len (is_given said) 0 count k k d less (omega arith))))
