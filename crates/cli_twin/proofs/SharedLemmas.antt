-- What it means that no file of a twin differs.
use Rattle.cli_twin.proofs.Common.{◌≡◌, ◌∙◌, ◌<◌, ◌≤◌, ◌+◌, ◌&&◌, ℕ, zero, suc, List, [], ◌∷◌, length, drop, get_or, Bool, true, false, Option, None, Some}
use Rattle.cli_twin.proofs.Common.{refl, ap, sym, arith, inl, inr, ◌⊎◌, ◌==◌, if◌then◌else◌, slice_index, codes, bytes_eq, drop_all, drop_more, length-map}
use Rattle.cli_twin.proofs.Common.{same_lists, same_Some, slice_get-get_or, ChipFile, same_list, ChipSource, pins_of, Work}
use Rattle.std.proofs.lemmas.Bool.{and_parts, cases_Bool}
use Rattle.std.proofs.lemmas.Bool.Decides.{nat_tests}
use Rattle.std.proofs.lemmas.Slice.Eq.{bytes_eq-Decides}
use Rattle.cli_twin.specs.Shared.{names_of, other_path, other_pins, same_below, same_pin}

bytes_mean : (a b : List ℕ) → bytes_eq a b ≡ true → a ≡ b
bytes_mean a b e = (bytes_eq-Decides a b).0 e

pub pin_means : (a b : Option (List ℕ)) → same_pin a b ≡ true → a ≡ b
pin_means None None e = refl
pin_means (Some a) (Some b) e = ap Some (bytes_mean a b e)
pin_means a b e = absurd cc

module _ {A : Type 0} (same : A → A → Bool) where
  -- two lists whose items are the same are one list
  list_means : ((x y : A) → same x y ≡ true → x ≡ y) → (xs ys : List A) → same_list same xs ys ≡ true → xs ≡ ys
  list_means means [] [] e = refl
  list_means means (x ∷ xs) (y ∷ ys) e =
      let both = and_parts (same x y) (same_list same xs ys) e in
      let a : x ≡ y = means x y both.0 in
      let b : xs ≡ ys = list_means means xs ys both.1 in
      cc
  list_means means xs ys e = absurd cc

  -- lists of other lengths are others
  pub lengths_differ : ((x y : A) → same x y ≡ true → x ≡ y) → (xs ys : List A) → (length xs ≡ length ys → ⊥) → same_list same xs ys ≡ false
  lengths_differ means xs ys other = elim (cases_Bool (same_list same xs ys)) [
    | inl is ↦ absurd (other (ap (λ (l : List A). length l) (list_means means xs ys is)))
    | inr off ↦ off
  ]

pub below_none : (a b : List ℕ) → same_below 0 a b ≡ true
unfolding same_below
below_none a b = refl

-- images that are the same below n have the same byte at each address below it
below_at : (n k : ℕ) (a b : List ℕ) → same_below n a b ≡ true → k < n → slice_index a k ≡ slice_index b k
unfolding same_below
below_at zero k a b e less = absurd (omega (arith, less))
below_at (suc n) k a b e less =
    let both = and_parts (same_below n a b) (slice_index a n == slice_index b n) e in
    elim (last_or k n less) [
      | inl here ↦ let at : slice_index a n ≡ slice_index b n = grind (arith, both.1, nat_tests) in rw here at
      | inr before ↦ below_at n k a b both.0 before
    ]
  where
    last_or : (k n : ℕ) → k < suc n → (k ≡ n) ⊎ (k < n)
    last_or k n less = grind (arith, less)

-- another byte makes two images others
pub below_other : (n k : ℕ) (a b : List ℕ) → k < n → (slice_index a k ≡ slice_index b k → ⊥) → same_below n a b ≡ false
below_other n k a b less other = elim (cases_Bool (same_below n a b)) [ inl is ↦ absurd (other (below_at n k a b is less)) | inr off ↦ off ]

-- the same byte at one more address
pub below_more : (n : ℕ) (a b : List ℕ) → same_below n a b ≡ true → slice_index a n ≡ slice_index b n → same_below (n + 1) a b ≡ true
unfolding same_below
below_more n a b e at =
    let next : n + 1 ≡ suc n = omega arith in
    let here : (slice_index a n == slice_index b n) ≡ true = grind (arith, at, nat_tests) in
    ap (λ (m : ℕ). same_below m a b) next ∙ ap (λ (x : Bool). x && (slice_index a n == slice_index b n)) e ∙ here

-- images of one length that are the same below it are one
pub flash_means : (n : ℕ) (a b : List ℕ) → length a ≡ n → length b ≡ n → same_below n a b ≡ true → a ≡ b
flash_means n a b la lb e = same_lists a b (la ∙ sym lb) (λ k d less.
    let inside : k < n = omega (arith, la, less) in
    at_default a k d less ∙ below_at n k a b e inside ∙ sym (at_default b k d (omega (arith, lb, inside))))
  where
    at_default : (xs : List ℕ) (k d : ℕ) → k < length xs → get_or xs k d ≡ slice_index xs k
    at_default xs k d less = same_Some (get_or xs k d) (get_or xs k 0) (sym (slice_get-get_or xs k d less) ∙ slice_get-get_or xs k 0 less)

-- what is told of the chips from a place on
module _ (files : List ChipFile) (one two : List ChipSource) (i : ℕ) (d : ChipFile) (e f : ChipSource) (inside : i < length files) (same_one : length one ≡ length files)
    (same_two : length two ≡ length files) where
  pins_from : other_pins (drop i files) (drop i one) (drop i two)
      ≡ (if same_list same_pin (get_or one i e).pins (get_or two i f).pins then other_pins (drop (i + 1) files) (drop (i + 1) one) (drop (i + 1) two) else Some (get_or files i d).json)
  unfolding other_pins
  pins_from = rw (drop_more files i d inside, drop_more one i e (omega (arith, inside, same_one)), drop_more two i f (omega (arith, inside, same_two))) refl

  pub pins_told : (c : Bool) → same_list same_pin (get_or one i e).pins (get_or two i f).pins ≡ c →
      (if c then other_pins (drop (i + 1) files) (drop (i + 1) one) (drop (i + 1) two) else Some (get_or files i d).json) ≡ other_pins (drop i files) (drop i one) (drop i two)
  pins_told c is =
      sym (pins_from ∙ ap (λ (b : Bool). if b then other_pins (drop (i + 1) files) (drop (i + 1) one) (drop (i + 1) two) else Some (get_or files i d).json) is)

pub pins_none : (files : List ChipFile) (one two : List ChipSource) (i : ℕ) → length files ≤ i → other_pins (drop i files) (drop i one) (drop i two) ≡ None
unfolding other_pins
pins_none files one two i past = rw (drop_all i files past) refl

-- no pin file differs where all pins are the same
pins_mean : (files : List ChipFile) (one two : List ChipSource) → length one ≡ length files → length two ≡ length files → other_pins files one two ≡ None → pins_of one ≡ pins_of two
unfolding other_pins
pins_mean [] [] [] la lb e = refl
pins_mean [] (a ∷ one) two la lb e = absurd (omega (arith, la))
pins_mean [] [] (b ∷ two) la lb e = absurd (omega (arith, lb))
pins_mean (file ∷ files) [] two la lb e = absurd (omega (arith, la))
pins_mean (file ∷ files) (a ∷ one) [] la lb e = absurd (omega (arith, lb))
pins_mean (file ∷ files) (a ∷ one) (b ∷ two) la lb e = go (same_list same_pin a.pins b.pins) refl e (λ none. pins_mean files one two (omega (arith, la)) (omega (arith, lb)) none)
  where
    go : (c : Bool) → same_list same_pin a.pins b.pins ≡ c → (if c then other_pins files one two else Some file.json) ≡ None → (other_pins files one two ≡ None → pins_of one ≡ pins_of two) →
        pins_of (a ∷ one) ≡ pins_of (b ∷ two)
    go true is none further =
        let first : a.pins ≡ b.pins = list_means same_pin pin_means a.pins b.pins is in
        let rest : pins_of one ≡ pins_of two = further none in
        cc
    go false is none further = absurd cc

-- chips of the same names are as many
pub names_many : (x y : List ChipFile) → same_list bytes_eq (names_of x) (names_of y) ≡ true → length x ≡ length y
names_many x y e =
    let name : ChipFile → List ℕ = λ chip. chip.name in
    let same : names_of x ≡ names_of y = list_means bytes_eq bytes_mean _ _ e in
    sym (length-map x name) ∙ ap (λ (l : List (List ℕ)). length l) same ∙ length-map y name

-- what is the same where no file differs
pub record AreShared (a b : Work) : Type 0 where
  pub names : names_of a.project.chips ≡ names_of b.project.chips
  pub flash : same_below 32768 a.flash b.flash ≡ true
  pub diagram : a.diagram ≡ b.diagram
  pub pins : pins_of a.chips ≡ pins_of b.chips

pub shared : (a b : Work) → length a.chips ≡ length a.project.chips → length b.chips ≡ length b.project.chips → other_path a b ≡ None → AreShared a b
shared a b la lb none =
    go (same_list bytes_eq (names_of a.project.chips) (names_of b.project.chips)) (same_below 32768 a.flash b.flash) (bytes_eq a.diagram b.diagram) refl refl refl none
  where
    go : (x y z : Bool) → same_list bytes_eq (names_of a.project.chips) (names_of b.project.chips) ≡ x → same_below 32768 a.flash b.flash ≡ y → bytes_eq a.diagram b.diagram ≡ z →
        (if x then if y then if z then other_pins b.project.chips a.chips b.chips else Some (codes "diagram.json") else Some b.project.firmware else Some (codes "wokwi.toml")) ≡ None → AreShared a b
    go true true true ex ey ez e =
        let names : names_of a.project.chips ≡ names_of b.project.chips = list_means bytes_eq bytes_mean _ _ ex in
        let pins = pins_mean b.project.chips a.chips b.chips (la ∙ names_many a.project.chips b.project.chips ex) lb e in
        record { names = names; flash = ey; diagram = bytes_mean a.diagram b.diagram ez; pins = pins }
    go x y z ex ey ez e = absurd cc

pub names_differ : (x y : List ChipFile) → (length x ≡ length y → ⊥) → same_list bytes_eq (names_of x) (names_of y) ≡ false
names_differ x y other = elim (cases_Bool (same_list bytes_eq (names_of x) (names_of y))) [ inl is ↦ absurd (other (names_many x y is)) | inr off ↦ off ]
