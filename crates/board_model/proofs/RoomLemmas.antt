-- Boards of parts that have as many pins and contacts.
use Rattle.std.proofs.Common.{◌≡◌, ℕ, zero, suc, ◌+◌, ◌∙◌, List, [], ◌∷◌, length, take, Bool, true, false, Some, refl, ap, sym, arith, length-append}
use Rattle.std.specs.Prelude.{if◌then◌else◌, slice_get}
use Rattle.std.specs.List.{flat_map}
use Rattle.sim_base.specs.declared.wiring.Wiring.{Wiring}
use Rattle.sim_base.specs.declared.wiring.Input.{Input}
use Rattle.part_law.specs.Machine.{Machine, Laws}
use Rattle.board_model.specs.Board.{board_step, states, part_step, levels_of}
use Rattle.board_model.specs.Rows.{chip_drives_of}
use Rattle.board_model.specs.Fits.{Fits}
use Rattle.board_model.proofs.Steps.{length-board_step, get_from}
use Rattle.board_model.proofs.Lists.{some_same}

-- parts with as many pins take as much room
room_same : {A B C : Type 0} (f : A → List B) (g : C → List B) (xs : List A) (ys : List C) → length xs ≡ length ys → ((k : ℕ) (x : A) (y : C) → slice_get xs k ≡ Some x → slice_get ys k ≡ Some y → length (f x) ≡ length (g y)) →
    (i : ℕ) → length (flat_map f (take i xs)) ≡ length (flat_map g (take i ys))
room_same f g xs ys long each zero = refl
room_same f g [] [] long each (suc i) = refl
room_same f g [] (y ∷ ys) long each (suc i) = absurd (omega arith)
room_same f g (x ∷ xs) [] long each (suc i) = absurd (omega arith)
room_same f g (x ∷ xs) (y ∷ ys) long each (suc i) =
    let rest : length (flat_map f (take i xs)) ≡ length (flat_map g (take i ys)) = room_same f g xs ys (omega arith) (λ k a b ea eb. each (suc k) a b ea eb) i in
    omega (arith, length-append (f x) (flat_map f (take i xs)), length-append (g y) (flat_map g (take i ys)), each 0 x y refl refl, rest)

room_all : {A B C : Type 0} (f : A → List B) (g : C → List B) (xs : List A) (ys : List C) → length xs ≡ length ys → ((k : ℕ) (x : A) (y : C) → slice_get xs k ≡ Some x → slice_get ys k ≡ Some y → length (f x) ≡ length (g y)) →
    length (flat_map f xs) ≡ length (flat_map g ys)
room_all f g [] [] long each = refl
room_all f g [] (y ∷ ys) long each = absurd (omega arith)
room_all f g (x ∷ xs) [] long each = absurd (omega arith)
room_all f g (x ∷ xs) (y ∷ ys) long each =
    let rest : length (flat_map f xs) ≡ length (flat_map g ys) = room_all f g xs ys (omega arith) (λ k a b ea eb. each (suc k) a b ea eb) in
    omega (arith, length-append (f x) (flat_map f xs), length-append (g y) (flat_map g ys), each 0 x y refl refl, rest)

module _ {S : Type 0} (m : Machine S) where
  abbrev pub SameRoom : ℕ → S → S → Type 0
  SameRoom k a b = (length (m.drives a) ≡ length (m.drives b)) × (length (m.contacts a) ≡ length (m.contacts b))

  pub fits_room : (w : Wiring) (xs ys : List S) → length xs ≡ length ys → ((k : ℕ) (x y : S) → slice_get xs k ≡ Some x → slice_get ys k ≡ Some y → SameRoom k x y) → Fits m w xs → Fits m w ys
  fits_room w xs ys long each fits = record {
    parts = fits.parts ∙ long;
    chips = fits.chips ∙ long;
    pins = fits.pins ∙ room_all m.drives m.drives xs ys long (λ k x y ex ey. (each k x y ex ey).0);
    contacts = fits.contacts ∙ room_all m.contacts m.contacts xs ys long (λ k x y ex ey. (each k x y ex ey).1);
    places = λ i l. fits.places i (omega (arith, long, l)) ∙ room_same m.drives m.drives xs ys long (λ k x y ex ey. (each k x y ex ey).0) i;
  }

  pub chips_room : (chips : List Bool) (xs ys : List S) → length xs ≡ length ys → ((k : ℕ) (x y : S) → slice_get xs k ≡ Some x → slice_get ys k ≡ Some y → SameRoom k x y) → length (chip_drives_of m chips xs) ≡ length (chip_drives_of m chips ys)
  chips_room [] xs ys long each = refl
  chips_room (c ∷ chips) [] [] long each = refl
  chips_room (c ∷ chips) [] (y ∷ ys) long each = absurd (omega arith)
  chips_room (c ∷ chips) (x ∷ xs) [] long each = absurd (omega arith)
  chips_room (c ∷ chips) (x ∷ xs) (y ∷ ys) long each =
      omega (arith, length-append (if c then m.drives x else []) (chip_drives_of m chips xs), length-append (if c then m.drives y else []) (chip_drives_of m chips ys), one c, chips_room chips xs ys (omega arith) (λ k a b ea eb. each (suc k) a b ea eb))
    where
      one : (b : Bool) → length (if b then m.drives x else []) ≡ length (if b then m.drives y else [])
      one true = (each 0 x y refl refl).0
      one false = refl

module _ {S : Type 0} (m : Machine S) (laws : Laws m) (w : Wiring) (inputs : List Input) where
  fits_step : (ss : List S) (t : ℕ) → Fits m w ss → Fits m w (board_step m w inputs ss t)
  fits_step ss t fits = fits_room m w ss (board_step m w inputs ss t) (sym (length-board_step m w inputs ss t)) (λ k x y ex ey.
      let f = get_from m w inputs ss t k y ey in
      let same : f.0 ≡ x = some_same (sym f.1 ∙ ex) in
      let step = part_step m w inputs (levels_of m w ss) t k f.0 in (
        ap (λ (s : S). length (m.drives s)) (sym same) ∙ sym (laws.keeps_pins f.0 t _ _) ∙ ap (λ (s : S). length (m.drives s)) f.2,
        ap (λ (s : S). length (m.contacts s)) (sym same) ∙ sym (laws.keeps_contacts f.0 t _ _) ∙ ap (λ (s : S). length (m.contacts s)) f.2,
      )) fits

  -- the wiring fits the parts in every cycle
  pub fits_after : (ss : List S) (c n : ℕ) → Fits m w ss → Fits m w (states m w inputs ss c n)
  unfolding states
  fits_after ss c zero fits = fits
  fits_after ss c (suc n) fits = fits_step (states m w inputs ss c n) (c + n) (fits_after ss c n fits)
