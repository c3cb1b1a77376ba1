-- The first difference of two sets of chips, part by part and pin by pin.
use Rattle.std.proofs.Common.{◌≡◌, ℕ, suc, ◌+◌, List, [], ◌∷◌, ◌∙◌, length, drop, Bool, true, false, Option, None, Some, refl, ap, sym, arith}
use Rattle.std.specs.Prelude.{slice_get, if◌then◌else◌}
use Rattle.std.specs.Option.{option_or, option_map}
use Rattle.std.proofs.lemmas.List.{drop_more}
use Rattle.std.proofs.lemmas.Option.{get_or_from_slice_get, slice_get_within}
use Rattle.sim_base.specs.declared.signal.Drive.{Drive}
use Rattle.sim_base.specs.declared.wiring.Wiring.{Wiring}
use Rattle.part_law.specs.Machine.{Machine}
use Rattle.board_model.specs.Rows.{same_drive}
use Rattle.board_model.proofs.Lists.{some_same}
use Rattle.law_board.specs.FirstDiff.{Difference, pin_diff, part_diff}
use Rattle.law_board.specs.Twin.{with_chips_from}
use Rattle.law_board.specs.Worlds.{is_chip}
use Rattle.board_twin.specs.Twins.{differs}
use Rattle.board_twin.specs.declared.twin.TwinEnd.{TwinEnd}

-- it looks at what the other board's chips drive and at nothing else of it
pub by_drives : {S : Type 0} (m : Machine S) (w : Wiring) (t i : ℕ) (xs ys zs : List S) → length ys ≡ length zs →
    ((k : ℕ) (a b : S) → slice_get ys k ≡ Some a → slice_get zs k ≡ Some b → is_chip w (i + k) ≡ true → m.drives a ≡ m.drives b) → part_diff m w t i xs ys ≡ part_diff m w t i xs zs
by_drives m w t i [] ys zs long same = refl
by_drives m w t i (x ∷ xs) [] [] long same = refl
by_drives m w t i (x ∷ xs) [] (z ∷ zs) long same = absurd (omega (arith, long))
by_drives m w t i (x ∷ xs) (y ∷ ys) [] long same = absurd (omega (arith, long))
by_drives {S = S} m w t i (x ∷ xs) (y ∷ ys) (z ∷ zs) long same =
    let e : i + 0 ≡ i = omega arith in
    here (is_chip w i) refl ∙ ap (λ o. option_or (if is_chip w i then option_map (λ (d : ℕ × Drive × Drive). record { cycle = t; part = i; pin = d.0; one = d.1; other = d.2 }) (pin_diff 0 (m.drives x) (m.drives z)) else None) o)
    (by_drives m w t (i + 1) xs ys zs (omega (arith, long)) (λ k a b ea eb is. let f : i + 1 + k ≡ i + suc k = omega arith in same (suc k) a b ea eb (ap (is_chip w) (sym f) ∙ is)))
  where
    found : Option (ℕ × Drive × Drive) → Option Difference
    found o = option_map (λ (d : ℕ × Drive × Drive). record { cycle = t; part = i; pin = d.0; one = d.1; other = d.2 }) o

    here : (c : Bool) → is_chip w i ≡ c → option_or (if is_chip w i then found (pin_diff 0 (m.drives x) (m.drives y)) else None) (part_diff m w t (i + 1) xs ys) ≡ option_or (if is_chip w i then found (pin_diff 0 (m.drives x) (m.drives z)) else None) (part_diff m w t (i + 1) xs ys)
    here true is =
        let e : i + 0 ≡ i = omega arith in
        let d : m.drives y ≡ m.drives z = same 0 y z refl refl (ap (is_chip w) e ∙ is) in
        ap (λ (l : List Drive). option_or (if is_chip w i then found (pin_diff 0 (m.drives x) l) else None) (part_diff m w t (i + 1) xs ys)) d
    here false is = rw is refl

-- a list from one of its items on
pub drop_here : {A : Type 0} (xs : List A) (k : ℕ) (x : A) → slice_get xs k ≡ Some x → drop k xs ≡ x ∷ drop (k + 1) xs
drop_here xs k x e = drop_more xs k x (slice_get_within xs k x e) ∙ ap (λ y. y ∷ drop (k + 1) xs) (get_or_from_slice_get xs k x x e)

-- pin by pin
pub pins_more : (xs ys : List Drive) (k : ℕ) (x y : Drive) → slice_get xs k ≡ Some x → slice_get ys k ≡ Some y →
    pin_diff k (drop k xs) (drop k ys) ≡ (if same_drive x y then pin_diff (k + 1) (drop (k + 1) xs) (drop (k + 1) ys) else Some (k, x, y))
pins_more xs ys k x y ex ey =
    ap (λ (l : List Drive). pin_diff k l (drop k ys)) (drop_here xs k x ex) ∙ ap (λ (l : List Drive). pin_diff k (x ∷ drop (k + 1) xs) l) (drop_here ys k y ey)

-- part by part, where zs are the other board's chips
module _ {S : Type 0} (m : Machine S) (w : Wiring) (t : ℕ) (xs zs : List S) where
  abbrev pub found : ℕ → Option (ℕ × Drive × Drive) → Option Difference
  found k o = option_map (λ (d : ℕ × Drive × Drive). record { cycle = t; part = k; pin = d.0; one = d.1; other = d.2 }) o

  -- the difference from part k on, which is chip j if it is one
  abbrev pub from : ℕ → ℕ → Option Difference
  from k j = part_diff m w t k (drop k xs) (with_chips_from w k (drop k xs) (drop j zs))

  pub chip_more : (k j : ℕ) (x z : S) → slice_get xs k ≡ Some x → slice_get zs j ≡ Some z → is_chip w k ≡ true → from k j ≡ option_or (found k (pin_diff 0 (m.drives x) (m.drives z))) (from (k + 1) (j + 1))
  chip_more k j x z ex ez is =
      let rest = drop (k + 1) xs in
      let more = drop (j + 1) zs in
      ap (λ (l : List S). part_diff m w t k l (with_chips_from w k l (drop j zs))) (drop_here xs k x ex)
      ∙ ap (λ (l : List S). part_diff m w t k (x ∷ rest) (with_chips_from w k (x ∷ rest) l)) (drop_here zs j z ez)
      ∙ ap (λ (b : Bool). part_diff m w t k (x ∷ rest) (if b then z ∷ with_chips_from w (k + 1) rest more else x ∷ with_chips_from w (k + 1) rest (z ∷ more))) is
      ∙ ap (λ (b : Bool). option_or (if b then found k (pin_diff 0 (m.drives x) (m.drives z)) else None) (from (k + 1) (j + 1))) is

  -- the chip of part k differs, or it does not
  pub chip_differs : (k j pin : ℕ) (x z : S) (a b : Drive) → slice_get xs k ≡ Some x → slice_get zs j ≡ Some z → is_chip w k ≡ true → pin_diff 0 (m.drives x) (m.drives z) ≡ Some (pin, a, b) →
      from k j ≡ Some (record { cycle = t; part = k; pin = pin; one = a; other = b })
  chip_differs k j pin x z a b ex ez is e = chip_more k j x z ex ez is ∙ ap (λ (o : Option (ℕ × Drive × Drive)). option_or (found k o) (from (k + 1) (j + 1))) e

  pub chip_same : (k j : ℕ) (x z : S) → slice_get xs k ≡ Some x → slice_get zs j ≡ Some z → is_chip w k ≡ true → pin_diff 0 (m.drives x) (m.drives z) ≡ None → from k j ≡ from (k + 1) (j + 1)
  chip_same k j x z ex ez is e = chip_more k j x z ex ez is ∙ ap (λ (o : Option (ℕ × Drive × Drive)). option_or (found k o) (from (k + 1) (j + 1))) e

  no_more : (i : ℕ) (l : List S) → with_chips_from w i l [] ≡ l
  no_more i [] = refl
  no_more i (x ∷ l) = refl

  pub rest_more : (k j : ℕ) (x : S) → slice_get xs k ≡ Some x → is_chip w k ≡ false → from k j ≡ from (k + 1) j
  rest_more k j x ex none =
      ap (λ (l : List S). part_diff m w t k l (with_chips_from w k l (drop j zs))) (drop_here xs k x ex) ∙ go (drop j zs)
    where
      rest : List S
      rest = drop (k + 1) xs

      go : (l : List S) → part_diff m w t k (x ∷ drop (k + 1) xs) (with_chips_from w k (x ∷ drop (k + 1) xs) l) ≡ part_diff m w t (k + 1) (drop (k + 1) xs) (with_chips_from w (k + 1) (drop (k + 1) xs) l)
      go [] =
          ap (λ (b : Bool). option_or (if b then found k (pin_diff 0 (m.drives x) (m.drives x)) else None) (part_diff m w t (k + 1) (drop (k + 1) xs) (drop (k + 1) xs))) none
          ∙ ap (part_diff m w t (k + 1) (drop (k + 1) xs)) (sym (no_more (k + 1) (drop (k + 1) xs)))
      go (c ∷ l) =
          ap (λ (b : Bool). part_diff m w t k (x ∷ drop (k + 1) xs) (if b then c ∷ with_chips_from w (k + 1) (drop (k + 1) xs) l else x ∷ with_chips_from w (k + 1) (drop (k + 1) xs) (c ∷ l))) none
          ∙ ap (λ (b : Bool). option_or (if b then found k (pin_diff 0 (m.drives x) (m.drives x)) else None) (part_diff m w t (k + 1) (drop (k + 1) xs) (with_chips_from w (k + 1) (drop (k + 1) xs) (c ∷ l)))) none

-- what an answer was made of
pub no_answer : (o : Option Difference) → None ≡ option_map differs o → o ≡ None
no_answer None e = refl
no_answer (Some d) e = absurd cc

pub answer_of : (o : Option Difference) (end : TwinEnd) → Some end ≡ option_map differs o → (d : Difference) × (o ≡ Some d) × (differs d ≡ end)
answer_of None end e = absurd cc
answer_of (Some d) end e = (d, refl, some_same (sym e))
