-- Up to the first difference of their chips, two boards have the same rest; a board beside which the other's chips are stepped sees it.
use Rattle.std.proofs.Common.{◌≡◌, inl, inr, ℕ, zero, suc, ◌+◌, ◌<◌, ◌≤◌, List, [], ◌∷◌, ◌∙◌, length, map, Bool, true, false, Option, None, Some, refl, ap, sym, arith, subst}
use Rattle.std.specs.Prelude.{slice_get, if◌then◌else◌}
use Rattle.std.specs.Option.{option_or, option_map}
use Rattle.sim_base.specs.declared.signal.Drive.{Drive}
use Rattle.sim_base.specs.declared.signal.Level.{Level}
use Rattle.sim_base.specs.declared.wiring.Wiring.{Wiring}
use Rattle.sim_base.specs.declared.wiring.Input.{Input}
use Rattle.part_law.specs.Machine.{Machine, Laws}
use Rattle.board_model.specs.Board.{levels_of, steps_from, states}
use Rattle.board_model.specs.Rows.{same_drive}
use Rattle.board_model.proofs.Lists.{some_same, lt_or_eq}
use Rattle.law_board.specs.Alike.{Alike}
use Rattle.law_board.specs.Worlds.{is_chip, TheseAre, SameRest, SameChips}
use Rattle.law_board.specs.FirstDiff.{Difference, pin_diff, part_diff, SamePins, first_diff, stepped_beside, first_beside}
use Rattle.board_model.proofs.Steps.{length-states, pins_of_states, state_before}
use Rattle.law_board.proofs.WorldsLaw.{bare_states, bare_levels}
use Rattle.board_model.proofs.SameLemmas.{drive_means}

no_pin : (p : ℕ) (xs ys : List Drive) → length xs ≡ length ys → pin_diff p xs ys ≡ None → xs ≡ ys
no_pin p [] [] l h = refl
no_pin p [] (y ∷ ys) l h = absurd (omega arith)
no_pin p (x ∷ xs) [] l h = absurd (omega arith)
no_pin p (x ∷ xs) (y ∷ ys) l h = here (λ (g : pin_diff (p + 1) xs ys ≡ None). no_pin (p + 1) xs ys (omega arith) g) (same_drive x y) refl
  where
    here : (pin_diff (p + 1) xs ys ≡ None → xs ≡ ys) → (b : Bool) → same_drive x y ≡ b → x ∷ xs ≡ y ∷ ys
    here more true e =
        let one : x ≡ y = drive_means x y e in
        let h' : pin_diff (p + 1) xs ys ≡ None = sym (ap (λ (b : Bool). if b then pin_diff (p + 1) xs ys else Some (p, x, y)) e) ∙ h in
        let rest : xs ≡ ys = more h' in
        cc
    here more false e = absurd cc

or_first : {A : Type 0} (o q : Option A) → option_or o q ≡ None → o ≡ None
or_first None q h = refl
or_first (Some x) q h = absurd cc

or_second : {A : Type 0} (o q : Option A) → option_or o q ≡ None → q ≡ None
or_second None q h = h
or_second (Some x) q h = absurd cc

map_none : {A B : Type 0} (f : A → B) (o : Option A) → option_map f o ≡ None → o ≡ None
map_none f None h = refl
map_none f (Some x) h = absurd cc

module _ {S : Type 0} (m : Machine S) (w : Wiring) where
  -- where no difference is found, the chips drive the same
  no_part : (t i : ℕ) (xs ys : List S) → Alike (λ k a b. is_chip w (i + k) ≡ true → length (m.drives a) ≡ length (m.drives b)) xs ys → part_diff m w t i xs ys ≡ None →
      (k : ℕ) (a b : S) → slice_get xs k ≡ Some a → slice_get ys k ≡ Some b → is_chip w (i + k) ≡ true → m.drives a ≡ m.drives b
  no_part t i [] ys l h k a b ea eb is = cc
  no_part t i (x ∷ xs) [] l h k a b ea eb is = cc
  no_part t i (x ∷ xs) (y ∷ ys) l h zero a b ea eb is =
      let e : i + 0 ≡ i = omega arith in
      let first = or_first _ _ h in
      let chip : is_chip w i ≡ true = ap (is_chip w) (sym e) ∙ is in
      let none = map_none _ _ (sym (ap (λ (c : Bool). if c then option_map (λ (d : ℕ × Drive × Drive). record { cycle = t; part = i; pin = d.0; one = d.1; other = d.2 }) (pin_diff 0 (m.drives x) (m.drives y)) else None) chip) ∙ first) in
      let same : m.drives x ≡ m.drives y = no_pin 0 _ _ (l.each 0 x y refl refl is) none in
      ap m.drives (sym (some_same ea)) ∙ same ∙ ap m.drives (some_same eb)
  no_part t i (x ∷ xs) (y ∷ ys) l h (suc k) a b ea eb is =
      let e : i + 1 + k ≡ i + suc k = omega arith in
      no_part t (i + 1) xs ys (shifted l) (or_second _ _ h) k a b ea eb (ap (is_chip w) e ∙ is)
    where
      shifted : Alike (λ k a b. is_chip w (i + k) ≡ true → length (m.drives a) ≡ length (m.drives b)) (x ∷ xs) (y ∷ ys) → Alike (λ k a b. is_chip w (i + 1 + k) ≡ true → length (m.drives a) ≡ length (m.drives b)) xs ys
      shifted l = record {
        long = let n = l.long in omega (arith, n);
        each = λ k a b ea eb is. let e : i + 1 + k ≡ i + suc k = omega arith in l.each (suc k) a b ea eb (ap (is_chip w) (sym e) ∙ is);
      }

  pub same_chips : (t : ℕ) (xs ys : List S) → SamePins m w xs ys → part_diff m w t 0 xs ys ≡ None → SameChips m w xs ys
  same_chips t xs ys l h = record {
    long = l.long;
    each = λ k a b ea eb is.
        let e : 0 + k ≡ k = omega arith in
        no_part t 0 xs ys (record { long = l.long; each = λ k a b ea eb is. let e : 0 + k ≡ k = omega arith in l.each k a b ea eb (ap (is_chip w) (sym e) ∙ is) }) h k a b ea eb (ap (is_chip w) e ∙ is);
  }

  -- a difference names its cycle
  cycle_of : (t i : ℕ) (xs ys : List S) (d : Difference) → part_diff m w t i xs ys ≡ Some d → d.cycle ≡ t
  cycle_of t i [] ys d h = absurd cc
  cycle_of t i (x ∷ xs) [] d h = absurd cc
  cycle_of t i (x ∷ xs) (y ∷ ys) d h = here (cycle_of t (i + 1) xs ys d) (is_chip w i) (pin_diff 0 (m.drives x) (m.drives y)) h
    where
      here : (part_diff m w t (i + 1) xs ys ≡ Some d → d.cycle ≡ t) → (c : Bool) (o : Option (ℕ × Drive × Drive)) → option_or (if c then option_map (λ d. record { cycle = t; part = i; pin = d.0; one = d.1; other = d.2 }) o else None) (part_diff m w t (i + 1) xs ys) ≡ Some d → d.cycle ≡ t
      here more true None h = more h
      here more true (Some p) h = ap (λ (d : Difference). d.cycle) (some_same (sym h))
      here more false o h = more h

-- A part without contacts gets none.
pub stays_bare : {S : Type 0} (m : Machine S) → Laws m → (s : S) (t : ℕ) (l : List Level) (i : Option ℕ) → m.contacts s ≡ [] → m.contacts (m.step s t l i).0 ≡ []
stays_bare m laws s t l i none = nothing (m.contacts (m.step s t l i).0) (laws.keeps_contacts s t l i ∙ ap length none)
  where
    nothing : (xs : List Bool) → length xs ≡ 0 → xs ≡ []
    nothing [] e = refl
    nothing (x ∷ xs) e = absurd (omega (arith, e))

-- Two boards whose chips have no contacts.
module _ {S : Type 0} (m : Machine S) (laws : Laws m) (w : Wiring) (inputs : List Input) (xs ys : List S) (c : ℕ)
    (one : TheseAre (λ s. m.contacts s ≡ []) (is_chip w) xs) (other : TheseAre (λ s. m.contacts s ≡ []) (is_chip w) ys) (rest : SameRest w xs ys) (pins : SamePins m w xs ys) where
  no_diff : ℕ → Type 0
  no_diff t = part_diff m w (c + t) 0 (states m w inputs xs c t) (states m w inputs ys c t) ≡ None

  pins_stay : (t : ℕ) → SamePins m w (states m w inputs xs c t) (states m w inputs ys c t)
  pins_stay t = record {
    long = length-states m w inputs xs c t ∙ pins.long ∙ sym (length-states m w inputs ys c t);
    each = λ k a b ea eb is.
        let a0 = state_before m w inputs xs c t k a ea in
        let b0 = state_before m w inputs ys c t k b eb in
        pins_of_states m w inputs laws xs c t k a0.0 a a0.1 ea ∙ pins.each k a0.0 b0.0 a0.1 b0.1 is ∙ sym (pins_of_states m w inputs laws ys c t k b0.0 b b0.1 eb);
  }

  -- no difference was found before
  pub none_before : (n : ℕ) → first_diff m w inputs xs ys c n ≡ None → (t : ℕ) → t < n → SameChips m w (states m w inputs xs c t) (states m w inputs ys c t)
  unfolding first_diff
  none_before zero h t l = absurd (omega arith)
  none_before (suc n) h t l = elim (lt_or_eq t n (omega arith)) [
    | inl less ↦ none_before n (or_first _ _ h) t less
    | inr same ↦
        let here = same_chips m w (c + n) _ _ (pins_stay n) (or_second (first_diff m w inputs xs ys c n) _ h) in
        subst (λ (u : ℕ). SameChips m w (states m w inputs xs c u) (states m w inputs ys c u)) (sym same) here
  ]

  -- a difference that was found is the first
  some_first : (n : ℕ) (d : Difference) → first_diff m w inputs xs ys c n ≡ Some d → (t : ℕ) × (t < n) × (d.cycle ≡ c + t) × (first_diff m w inputs xs ys c t ≡ None)
  unfolding first_diff
  some_first zero d h = absurd cc
  some_first (suc n) d h = here (some_first n d) (first_diff m w inputs xs ys c n) refl
    where
      here : (first_diff m w inputs xs ys c n ≡ Some d → (t : ℕ) × (t < n) × (d.cycle ≡ c + t) × (first_diff m w inputs xs ys c t ≡ None)) → (o : Option Difference) → first_diff m w inputs xs ys c n ≡ o → (t : ℕ) × (t < suc n) × (d.cycle ≡ c + t) × (first_diff m w inputs xs ys c t ≡ None)
      here more None e =
          let found = sym (ap (λ (o : Option Difference). option_or o (part_diff m w (c + n) 0 (states m w inputs xs c n) (states m w inputs ys c n))) e) ∙ h in
          (n, omega arith, cycle_of m w (c + n) 0 _ _ d found, e)
      here more (Some f) e =
          let same : f ≡ d = some_same (sym (ap (λ (o : Option Difference). option_or o (part_diff m w (c + n) 0 (states m w inputs xs c n) (states m w inputs ys c n))) e) ∙ h) in
          let r = more (e ∙ ap (λ (x : Difference). Some x) same) in
          (r.0, omega (arith, r.1), r.2, r.3)

  -- where there is no difference, the rest is the same, at the end too
  pub rest_same : (n : ℕ) → first_diff m w inputs xs ys c n ≡ None → (t : ℕ) → t ≤ n → SameRest w (states m w inputs xs c t) (states m w inputs ys c t)
  rest_same n h t l = bare_states m (λ s. m.contacts s ≡ []) (stays_bare m laws) (λ s none. none) w inputs xs ys c n one other rest (none_before n h) t l

  -- Up to the first difference, its cycle included, the rest is the same.
  pub rest_until : (n : ℕ) (d : Difference) → first_diff m w inputs xs ys c n ≡ Some d → (t : ℕ) → c + t ≤ d.cycle → SameRest w (states m w inputs xs c t) (states m w inputs ys c t)
  rest_until n d h t l =
      let f = some_first n d h in
      rest_same f.0 f.3 t (omega (arith, l, f.2))

  -- The other board's parts are those that were stepped beside the one board.
  pub beside_is : (n : ℕ) → first_diff m w inputs xs ys c n ≡ None → stepped_beside m w inputs xs ys c n ≡ states m w inputs ys c n
  unfolding stepped_beside states first_diff
  beside_is zero h = refl
  beside_is (suc n) h =
      let before : stepped_beside m w inputs xs ys c n ≡ states m w inputs ys c n = beside_is n (or_first _ _ h) in
      let same : levels_of m w (states m w inputs xs c n) ≡ levels_of m w (states m w inputs ys c n) =
      bare_levels m (λ s. m.contacts s ≡ []) (stays_bare m laws) (λ s none. none) w inputs xs ys c (suc n) one other rest (none_before (suc n) h) n (omega arith) in
      ap (λ (ls : List Level). map (λ r. r.0) (steps_from m w inputs ls (c + n) 0 (stepped_beside m w inputs xs ys c n))) same
      ∙ ap (λ (l : List S). map (λ r. r.0) (steps_from m w inputs (levels_of m w (states m w inputs ys c n)) (c + n) 0 l)) before

  -- One board, beside which the other's parts are stepped on its levels, sees the first difference of the two boards.
  pub beside_sees : (n : ℕ) → first_beside m w inputs xs ys c n ≡ first_diff m w inputs xs ys c n
  unfolding first_diff first_beside
  beside_sees zero = refl
  beside_sees (suc n) =
      ap (λ (o : Option Difference). option_or o (part_diff m w (c + n) 0 (states m w inputs xs c n) (stepped_beside m w inputs xs ys c n))) (beside_sees n) ∙ here (first_diff m w inputs xs ys c n) refl
    where
      here : (o : Option Difference) → first_diff m w inputs xs ys c n ≡ o →
          option_or (first_diff m w inputs xs ys c n) (part_diff m w (c + n) 0 (states m w inputs xs c n) (stepped_beside m w inputs xs ys c n)) ≡ option_or (first_diff m w inputs xs ys c n) (part_diff m w (c + n) 0 (states m w inputs xs c n) (states m w inputs ys c n))
      here None e = ap (λ (l : List S). option_or (first_diff m w inputs xs ys c n) (part_diff m w (c + n) 0 (states m w inputs xs c n) l)) (beside_is n e)
      here (Some d) e = rw e refl
