-- A board with other chips, where these are found among those of the parts that are chips.
use Rattle.cli_twin.proofs.Common.{◌≡◌, ◌∙◌, ◌<◌, ◌≤◌, ◌+◌, ◌++◌, ℕ, zero, suc, List, [], ◌∷◌, length, map, Bool, true, false, Option, None, Some, refl, ap}
use Rattle.cli_twin.proofs.Common.{sym, arith, inl, inr, slice_get, unwrap_or, if◌then◌else◌, flat_map, option_to_list, same_Some, slice_get_cases}
use Rattle.cli_twin.proofs.Common.{slice_get_within, Wiring, Fits, SamePins, chips_before, with_chips, is_chip, SameRest}
use Rattle.std.proofs.lemmas.List.Concat.{flat_map-cons}
use Rattle.part_law.specs.Machine.{Machine}
use Rattle.board_model.proofs.Lists.{get_map_some, same_lists}
use Rattle.law_board.proofs.WithChips.{get-with_chips, rest_with_chips}
use Rattle.board_run.proofs.PartLemmas.{end_is}

-- an item that there is
pub item_there : {A : Type 0} (xs : List A) (k : ℕ) → k < length xs → (x : A) × (slice_get xs k ≡ Some x)
item_there xs k less = elim (slice_get_cases xs k).1 [ inl x ↦ (x.0, x.2) | inr past ↦ absurd (omega (arith, past.0, less)) ]

module _ (w : Wiring) where
  -- the wiring says so of each chip
  pub chip_inside : (k : ℕ) → is_chip w k ≡ true → k < length w.chip
  chip_inside k is = elim (slice_get_cases w.chip k).1 [
    | inl x ↦ x.1
    | inr past ↦ let no : false ≡ true = sym (ap (λ (o : Option Bool). unwrap_or o false) past.1) ∙ is in absurd (cc)
  ]

  -- how many chips there are before the next part
  next_before : (i : ℕ) (b : Bool) → is_chip w i ≡ b → chips_before w (i + 1) ≡ chips_before w i + (if b then 1 else 0)
  next_before i b is = let e : i + 1 ≡ suc i = omega arith in ap (chips_before w) e ∙ ap (λ (x : Bool). chips_before w i + (if x then 1 else 0)) is

  before_rises : (i k : ℕ) → chips_before w i ≤ chips_before w (i + k)
  before_rises i zero = let e : i + 0 ≡ i = omega arith in let f = ap (chips_before w) e in omega (arith, f)
  before_rises i (suc k) = let e : i + suc k ≡ suc (i + k) = omega arith in let f = ap (chips_before w) e in let less = before_rises i k in omega (arith, f, less)

  -- the states of the chips alone, of parts that have a state each
  module _ {X S : Type 0} (chip : X → Bool) (all own : X → Option S) (is_own : (x : X) → chip x ≡ true → own x ≡ all x) (none : (x : X) → chip x ≡ false → own x ≡ None) where
    abbrev pub owns : List X → List S
    owns xs = flat_map (λ (x : X). option_to_list (own x)) xs

    owned : (x : X) (xs : List X) (o : Option S) → own x ≡ o → owns (x ∷ xs) ≡ option_to_list o ++ owns xs
    owned x xs o is = flat_map-cons (λ (x : X). option_to_list (own x)) x xs ∙ ap (λ (p : Option S). option_to_list p ++ owns xs) is

    abbrev AreWired : ℕ → List X → Type 0
    AreWired i xs = (k : ℕ) (x : X) → slice_get xs k ≡ Some x → is_chip w (i + k) ≡ chip x

    abbrev pub HaveStates : List X → Type 0
    HaveStates xs = (k : ℕ) (x : X) → slice_get xs k ≡ Some x → (s : S) × (all x ≡ Some s)

    -- a part is passed over, and its state, if it is a chip
    own_next : (i k n : ℕ) (y : X) (ys : List X) (x : X) → is_chip w i ≡ chip y → (s : S) × (all y ≡ Some s) → chips_before w i + n ≡ chips_before w (i + 1 + k) →
        ((n : ℕ) → chips_before w (i + 1) + n ≡ chips_before w (i + 1 + k) → slice_get (owns ys) n ≡ all x) → slice_get (owns (y ∷ ys)) n ≡ all x
    own_next i k n y ys x here s place behind = go (chip y) refl
      where
        more : chips_before w (i + 1) ≤ chips_before w (i + 1 + k)
        more = before_rises (i + 1) k

        one_less : (n : ℕ) → chips_before w (i + 1) ≡ chips_before w i + 1 → chips_before w i + n ≡ chips_before w (i + 1 + k) → slice_get (s.0 ∷ owns ys) n ≡ all x
        one_less zero next place = absurd (omega (arith, place, next, more))
        one_less (suc n) next place = behind n (omega (arith, place, next))

        go : (b : Bool) → chip y ≡ b → slice_get (owns (y ∷ ys)) n ≡ all x
        go true true_is =
            let whole : owns (y ∷ ys) ≡ s.0 ∷ owns ys = owned y ys (Some s.0) (is_own y true_is ∙ s.1) in
            ap (λ (l : List S). slice_get l n) whole ∙ one_less n (next_before i true (here ∙ true_is)) place
        go false other =
            ap (λ (l : List S). slice_get l n) (owned y ys None (none y other)) ∙ behind n (omega (arith, place, next_before i false (here ∙ other)))

    own_from : (i k n : ℕ) (xs : List X) (x : X) → AreWired i xs → HaveStates xs → slice_get xs k ≡ Some x → chip x ≡ true → chips_before w i + n ≡ chips_before w (i + k) →
        slice_get (owns xs) n ≡ all x
    own_from i zero n [] x wired states at is place = absurd cc
    own_from i (suc k) n [] x wired states at is place = absurd cc
    own_from i zero n (y ∷ ys) x wired states at is place =
        let same : y ≡ x = same_Some y x at in
        let e : i + 0 ≡ i = omega arith in
        let first : n ≡ 0 = omega (arith, place, ap (chips_before w) e) in
        let s = states 0 y refl in
        let of : own y ≡ Some s.0 = is_own y (ap chip same ∙ is) ∙ s.1 in
        ap (slice_get (owns (y ∷ ys))) first ∙ ap (λ (l : List S). slice_get l 0) (owned y ys (Some s.0) of) ∙ sym s.1 ∙ ap all same
    own_from i (suc k) n (y ∷ ys) x wired states at is place =
        let e : i + suc k ≡ i + 1 + k = omega arith in
        let f : i + 0 ≡ i = omega arith in
        let further : AreWired (i + 1) ys = λ j z here. (let g : i + suc j ≡ i + 1 + j = omega arith in sym (ap (is_chip w) g) ∙ wired (suc j) z here) in
        own_next i k n y ys x (sym (ap (is_chip w) f) ∙ wired 0 y refl) (states 0 y refl) (place ∙ ap (chips_before w) e)
        (λ n place. own_from (i + 1) k n ys x further (λ j z h. states (suc j) z h) at is place)

    -- the state of a chip is found at the number of the chips before it
    pub own_at : (xs : List X) (k : ℕ) (x : X) → ((j : ℕ) (y : X) → slice_get xs j ≡ Some y → is_chip w j ≡ chip y) → HaveStates xs → slice_get xs k ≡ Some x → chip x ≡ true →
        slice_get (owns xs) (chips_before w k) ≡ all x
    own_at xs k x wired states at is =
        let e : 0 + k ≡ k = omega arith in
        let place : chips_before w 0 + chips_before w k ≡ chips_before w (0 + k) = omega (arith, ap (chips_before w) e) in
        own_from 0 k (chips_before w k) xs x (λ j y h. let f : 0 + j ≡ j = omega arith in ap (is_chip w) f ∙ wired j y h) states at is place

  -- where all else is the same, the board with another's chips is the other
  pub with_same : {S : Type 0} (xs ys chips : List S) → SameRest w xs ys → ((k : ℕ) → is_chip w k ≡ true → slice_get chips (chips_before w k) ≡ slice_get ys k) → with_chips w xs chips ≡ ys
  with_same {S = S} xs ys chips rest are = same_lists (with_chips w xs chips) ys (sym with_rest.long ∙ rest.long) each
    where
      with_rest : SameRest w xs (with_chips w xs chips)
      with_rest = rest_with_chips w xs chips

      each : (k : ℕ) (a b : S) → slice_get (with_chips w xs chips) k ≡ Some a → slice_get ys k ≡ Some b → a ≡ b
      each k a b ea eb = go (is_chip w k) refl
        where
          l : length xs ≡ length ys
          l = rest.long

          inside : k < length xs
          inside = omega (arith, slice_get_within ys k b eb, l)

          go : (c : Bool) → is_chip w k ≡ c → a ≡ b
          go true is = same_Some a b (sym ea ∙ get-with_chips w k xs chips b inside is (are k is ∙ eb))
          go false other =
              let x = item_there xs k inside in
              sym (with_rest.each k x.0 a x.1 ea other) ∙ rest.each k x.0 b x.1 eb other

  -- parts that fit one wiring have as many pins
  pub fits_pins : {S : Type 0} (m : Machine S) (xs ys : List S) → length xs ≡ length ys → Fits m w xs → Fits m w ys → SamePins m w xs ys
  fits_pins m xs ys long one other = record {
    long = long;
    each = λ k a b ea eb is. omega (arith, end_is m w xs one k a ea, end_is m w ys other k b eb);
  }

  -- a chip for each part that is one
  pub chips_there : {P S : Type 0} (state : P → S) (parts : List P) (ys : List S) → length w.chip ≡ length ys →
      ((k : ℕ) → is_chip w k ≡ true → slice_get (map state parts) (chips_before w k) ≡ slice_get ys k) →
      (k : ℕ) → is_chip w k ≡ true → (q : P) × (slice_get parts (chips_before w k) ≡ Some q)
  chips_there state parts ys long are k is =
      let s = item_there ys k (omega (arith, chip_inside k is, long)) in
      let p = get_map_some state parts (chips_before w k) s.0 (are k is ∙ s.1) in
      (p.0, p.1)
