-- Players in place of some parts of a board: where each stands, and that they fit the board's wiring.
use Rattle.part_played.proofs.Common.{◌≡◌, ◌⊎◌, ◌+◌, ◌<◌, ℕ, zero, suc, List, [], ◌∷◌, ◌++◌, length, take, drop, Bool, true, false, Some, inl, inr, refl, ap}
use Rattle.part_played.proofs.Common.{sym, ◌∙◌, subst, arith, if◌then◌else◌, slice_get, get_or-drop, length-append, length-drop, length-map, take_all}
use Rattle.part_played.proofs.Common.{take_more, slice_get-get_or, slice_get_within, get_or_from_slice_get, Fits, some_same, DriveRows, PlayerState}
use Rattle.part_played.proofs.Common.{new_player, or_player, played_from, played}
use Rattle.part_law.specs.Machine.{Machine}
use Rattle.sim_base.specs.declared.wiring.Wiring.{Wiring}
use Rattle.board_model.specs.Board.{drives_of, contacts_of}

-- an item behind the first ones
pub get_behind : {X : Type 0} (first : ℕ) (xs : List X) (i : ℕ) (x : X) → slice_get xs (first + i) ≡ Some x → slice_get (drop first xs) i ≡ Some x
get_behind first xs i x at =
    let inside : i < length (drop first xs) = omega (arith, length-drop first xs, slice_get_within xs (first + i) x at) in
    slice_get-get_or (drop first xs) i x inside ∙ ap Some (get_or-drop first xs i x ∙ get_or_from_slice_get xs (first + i) x x at)

-- one more of a list
pub one_more : {X : Type 0} (xs : List X) (i : ℕ) (x : X) → slice_get xs i ≡ Some x → take i xs ++ x ∷ [] ≡ take (i + 1) xs
one_more xs i x at = ap (λ y. take i xs ++ y ∷ []) (sym (get_or_from_slice_get xs i x x at)) ∙ sym (take_more xs i x (slice_get_within xs i x at))

module _ {S : Type 0} (these : ℕ → Bool) (rows : ℕ → List DriveRows) where
  pub many_played : (i : ℕ) (ss : List S) → length (played_from these rows i ss) ≡ length ss
  many_played i [] = refl
  many_played i (s ∷ ss) = ap suc (many_played (i + 1) ss)

  abbrev pub plays : ℕ → S → S ⊎ PlayerState
  plays i s = if these i then inr (new_player (rows i)) else inl s

  pub played_at : (i k : ℕ) (ss : List S) (s : S) → slice_get ss k ≡ Some s → slice_get (played_from these rows i ss) k ≡ Some (plays (i + k) s)
  played_at i zero [] s e = absurd cc
  played_at i (suc k) [] s e = absurd cc
  played_at i zero (x ∷ ss) s e =
      let n : i ≡ i + 0 = omega arith in
      ap (λ (y : S). Some (plays i y)) (some_same e) ∙ ap (λ (j : ℕ). Some (plays j s)) n
  played_at i (suc k) (x ∷ ss) s e =
      let n : i + 1 + k ≡ i + suc k = omega arith in
      played_at (i + 1) k ss s e ∙ ap (λ (j : ℕ). Some (plays j s)) n

-- players that have as many pins as what they stand for, which has no contacts
module _ {S : Type 0} (m : Machine S) (these : ℕ → Bool) (rows : ℕ → List DriveRows) where
  pub record AsMany (i : ℕ) (s : S) : Type 0 where
    pub pins : length (rows i) ≡ length (m.drives s)
    pub contacts : length (m.contacts s) ≡ 0

  abbrev pub AreAsMany : ℕ → List S → Type 0
  AreAsMany i ss = (k : ℕ) (s : S) → slice_get ss k ≡ Some s → these (i + k) ≡ true → AsMany (i + k) s

  tail_many : (i : ℕ) (s : S) (ss : List S) → AreAsMany i (s ∷ ss) → AreAsMany (i + 1) ss
  tail_many i s ss many k x at is =
      let n : i + suc k ≡ i + 1 + k = omega arith in
      subst (λ (j : ℕ). AsMany j x) n (many (suc k) x at (ap these n ∙ is))

  head_many : (i : ℕ) (s : S) (ss : List S) → AreAsMany i (s ∷ ss) → these i ≡ true → AsMany i s
  head_many i s ss many is =
      let n : i + 0 ≡ i = omega arith in
      subst (λ (j : ℕ). AsMany j s) n (many 0 s refl (ap these n ∙ is))

  head_drives : (i : ℕ) (s : S) (b : Bool) → (b ≡ true → AsMany i s) → length ((or_player m).drives (if b then inr (new_player (rows i)) else inl s)) ≡ length (m.drives s)
  head_drives i s true many = length-map (rows i) _ ∙ (many refl).pins
  head_drives i s false many = refl

  head_contacts : (i : ℕ) (s : S) (b : Bool) → (b ≡ true → AsMany i s) → length ((or_player m).contacts (if b then inr (new_player (rows i)) else inl s)) ≡ length (m.contacts s)
  head_contacts i s true many = sym (many refl).contacts
  head_contacts i s false many = refl

  same_drives : (i k : ℕ) (ss : List S) → AreAsMany i ss → length (drives_of (or_player m) (take k (played_from these rows i ss))) ≡ length (drives_of m (take k ss))
  same_drives i zero ss many = refl
  same_drives i (suc k) [] many = refl
  same_drives i (suc k) (s ∷ ss) many =
      let x : S ⊎ PlayerState = if these i then inr (new_player (rows i)) else inl s in
      let ys = drives_of (or_player m) (take k (played_from these rows (i + 1) ss)) in
      let zs = drives_of m (take k ss) in
      let head = head_drives i s (these i) (head_many i s ss many) in
      let tail = same_drives (i + 1) k ss (tail_many i s ss many) in
      length-append ((or_player m).drives x) ys ∙ ap (λ (n : ℕ). n + length ys) head ∙ ap (λ (n : ℕ). length (m.drives s) + n) tail ∙ sym (length-append (m.drives s) zs)

  same_contacts : (i : ℕ) (ss : List S) → AreAsMany i ss → length (contacts_of (or_player m) (played_from these rows i ss)) ≡ length (contacts_of m ss)
  same_contacts i [] many = refl
  same_contacts i (s ∷ ss) many =
      let x : S ⊎ PlayerState = if these i then inr (new_player (rows i)) else inl s in
      let ys = contacts_of (or_player m) (played_from these rows (i + 1) ss) in
      let zs = contacts_of m ss in
      let head = head_contacts i s (these i) (head_many i s ss many) in
      let tail = same_contacts (i + 1) ss (tail_many i s ss many) in
      length-append ((or_player m).contacts x) ys ∙ ap (λ (n : ℕ). n + length ys) head ∙ ap (λ (n : ℕ). length (m.contacts s) + n) tail ∙ sym (length-append (m.contacts s) zs)

  pub played_fits : (w : Wiring) (ss : List S) → AreAsMany 0 ss → Fits m w ss → Fits (or_player m) w (played these rows ss)
  played_fits w ss many fits =
      let long : length (played these rows ss) ≡ length ss = many_played these rows 0 ss in
      let drives : length (drives_of (or_player m) (played these rows ss)) ≡ length (drives_of m ss) =
      sym (ap (λ (l : List (S ⊎ PlayerState)). length (drives_of (or_player m) l)) (take_all (length ss) (played these rows ss) (omega (arith, long))))
      ∙ same_drives 0 (length ss) ss many
      ∙ ap (λ (l : List S). length (drives_of m l)) (take_all (length ss) ss (omega arith)) in
      record {
        parts = fits.parts ∙ sym long;
        chips = fits.chips ∙ sym long;
        pins = fits.pins ∙ sym drives;
        contacts = fits.contacts ∙ sym (same_contacts 0 ss many);
        places = λ i h. fits.places i (omega (arith, h, long)) ∙ sym (same_drives 0 i ss many);
      }
