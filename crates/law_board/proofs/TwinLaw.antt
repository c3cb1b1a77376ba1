-- What a twin may rest on: chips that drive the same do not differ, and the count of active cycles.
use Rattle.std.proofs.Common.{◌≡◌, ℕ, suc, ◌+◌, List, [], ◌∷◌, ◌∙◌, Bool, true, false, Option, None, Some, refl, ap, sym, arith}
use Rattle.std.specs.Prelude.{slice_get, if◌then◌else◌}
use Rattle.std.specs.Option.{option_or, option_map}
use Rattle.sim_base.specs.declared.signal.Drive.{Drive}
use Rattle.sim_base.specs.declared.signal.Level.{Level}
use Rattle.sim_base.specs.declared.wiring.Wiring.{Wiring}
use Rattle.sim_base.specs.declared.wiring.Input.{Input}
use Rattle.part_law.specs.Machine.{Machine, Laws}
use Rattle.board_model.specs.Board.{levels_of, states}
use Rattle.law_board.specs.Worlds.{is_chip, TheseAre, SameRest, SameChips}
use Rattle.law_board.specs.FirstDiff.{pin_diff, part_diff, SamePins, first_diff, stepped_beside}
use Rattle.law_board.specs.Active.{active_in, active_at}
use Rattle.law_board.proofs.FirstDiffLaw.{beside_is, none_before, stays_bare}
use Rattle.board_model.proofs.SameLemmas.{drive_same}
use Rattle.law_board.proofs.WorldsLaw.{bare_levels}

pin_same : (p : ℕ) (xs ys : List Drive) → xs ≡ ys → pin_diff p xs ys ≡ None
pin_same p xs ys e = ap (λ (l : List Drive). pin_diff p xs l) (sym e) ∙ self p xs
  where
    self : (p : ℕ) (xs : List Drive) → pin_diff p xs xs ≡ None
    self p [] = refl
    self p (x ∷ xs) = ap (λ (b : Bool). if b then pin_diff (p + 1) xs xs else Some (p, x, x)) (drive_same x) ∙ self (p + 1) xs

module _ {S : Type 0} (m : Machine S) (w : Wiring) where
  -- where the chips drive the same, there is no difference
  none_from : (t i : ℕ) (xs ys : List S) → ((k : ℕ) (a b : S) → slice_get xs k ≡ Some a → slice_get ys k ≡ Some b → is_chip w (i + k) ≡ true → m.drives a ≡ m.drives b) → part_diff m w t i xs ys ≡ None
  none_from t i [] ys same = refl
  none_from t i (x ∷ xs) [] same = refl
  none_from t i (x ∷ xs) (y ∷ ys) same =
      let e : i + 0 ≡ i = omega arith in
      here (is_chip w i) (λ c. same 0 x y refl refl (ap (is_chip w) e ∙ c)) refl
      ∙ none_from t (i + 1) xs ys (λ k a b ea eb c. let f : i + 1 + k ≡ i + suc k = omega arith in same (suc k) a b ea eb (ap (is_chip w) (sym f) ∙ c))
    where
      here : (c : Bool) → (is_chip w i ≡ true → m.drives x ≡ m.drives y) → is_chip w i ≡ c → part_diff m w t i (x ∷ xs) (y ∷ ys) ≡ part_diff m w t (i + 1) xs ys
      here true drives is =
          ap (λ (c : Bool). option_or (if c then option_map (λ (d : ℕ × Drive × Drive). record { cycle = t; part = i; pin = d.0; one = d.1; other = d.2 }) (pin_diff 0 (m.drives x) (m.drives y)) else None) (part_diff m w t (i + 1) xs ys)) is
          ∙ ap (λ (o : Option (ℕ × Drive × Drive)). option_or (option_map (λ (d : ℕ × Drive × Drive). record { cycle = t; part = i; pin = d.0; one = d.1; other = d.2 }) o) (part_diff m w t (i + 1) xs ys)) (pin_same 0 _ _ (drives is))
      here false drives is = ap (λ (c : Bool). option_or (if c then option_map (λ (d : ℕ × Drive × Drive). record { cycle = t; part = i; pin = d.0; one = d.1; other = d.2 }) (pin_diff 0 (m.drives x) (m.drives y)) else None) (part_diff m w t (i + 1) xs ys)) is

  pub none_where_same : (t : ℕ) (xs ys : List S) → SameChips m w xs ys → part_diff m w t 0 xs ys ≡ None
  none_where_same t xs ys same = none_from t 0 xs ys (λ k a b ea eb c. let e : 0 + k ≡ k = omega arith in same.each k a b ea eb (ap (is_chip w) (sym e) ∙ c))

module _ {S : Type 0} (m : Machine S) (laws : Laws m) (w : Wiring) (inputs : List Input) (xs ys : List S) (c : ℕ) where
  module _ (one : TheseAre (λ s. m.contacts s ≡ []) (is_chip w) xs) (other : TheseAre (λ s. m.contacts s ≡ []) (is_chip w) ys) (rest : SameRest w xs ys) (pins : SamePins m w xs ys) where
    -- Before the first difference a part that is stepped beside is active where it is in its own board.
    pub beside_active : (n : ℕ) → first_diff m w inputs xs ys c (suc n) ≡ None → (k : ℕ) →
        active_in m w inputs (levels_of m w (states m w inputs xs c n)) (c + n) k (slice_get (stepped_beside m w inputs xs ys c n) k) ≡ active_at m w inputs ys c k n
    unfolding first_diff
    beside_active n none k =
        let first : first_diff m w inputs xs ys c n ≡ None = shorter n none in
        ap (λ (ls : List Level). active_in m w inputs ls (c + n) k (slice_get (stepped_beside m w inputs xs ys c n) k))
        (bare_levels m (λ s. m.contacts s ≡ []) (stays_bare m laws) (λ s free. free) w inputs xs ys c (suc n) one other rest (none_before m laws w inputs xs ys c one other rest pins (suc n) none) n (omega arith))
        ∙ ap (λ (l : List S). active_in m w inputs (levels_of m w (states m w inputs ys c n)) (c + n) k (slice_get l k)) (beside_is m laws w inputs xs ys c one other rest pins n first)
      where
        or_first : {A : Type 0} (o q : Option A) → option_or o q ≡ None → o ≡ None
        or_first None q h = refl
        or_first (Some x) q h = absurd cc

        shorter : (n : ℕ) → first_diff m w inputs xs ys c (suc n) ≡ None → first_diff m w inputs xs ys c n ≡ None
        shorter n h = or_first _ _ h
