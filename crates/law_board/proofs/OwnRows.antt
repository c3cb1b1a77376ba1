-- The rows that a run has of a part play its drives.
use Rattle.std.proofs.Common.{◌≡◌, inl, inr, ℕ, zero, suc, ◌<◌, ◌≤◌, List, [], ◌∷◌, ◌++◌, ◌∙◌, length, map, Bool, true, false, Option, None, Some, refl, ap, sym, arith, get_or}
use Rattle.std.specs.Prelude.{slice_get, unwrap_or, nat_le, if◌then◌else◌}
use Rattle.std.specs.Option.{option_map}
use Rattle.std.proofs.lemmas.Bool.Decides.{nat_tests}
use Rattle.std.proofs.lemmas.Option.{slice_get_within}
use Rattle.std.proofs.lemmas.List.{length-map, map-append}
use Rattle.sim_base.specs.declared.signal.Drive.{Drive}
use Rattle.sim_base.specs.declared.signal.Drive.TheVariants as drives
use Rattle.sim_base.specs.declared.wiring.Wiring.{Wiring}
use Rattle.sim_base.specs.declared.wiring.Input.{Input}
use Rattle.part_law.specs.Machine.{Machine, Laws}
use Rattle.board_model.specs.Walks.{below}
use Rattle.board_model.specs.Board.{states, bytes}
use Rattle.board_model.specs.Rows.{Shown, rows}
use Rattle.board_model.proofs.Lists.{some_same, lt_or_eq, same_lists, get_map_some, get-below, length-below, get_within}
use Rattle.law_board.specs.Alone.{own_drives}
use Rattle.law_board.specs.Player.{DriveRows, drive_from, drive_at}
use Rattle.law_board.specs.Worlds.{IsQuietKind, TheseAre}
use Rattle.law_board.specs.Play.{AreDrives, recorded, or_player, played}
use Rattle.board_model.proofs.Steps.{length-states, pins_of_states}
use Rattle.law_board.proofs.AloneLaw.{state_alone}
use Rattle.law_board.proofs.PlayLaw.{play_rows, play_bytes}

-- one more row
drive_more : (rows : DriveRows) (found : Drive) (row : ℕ × Drive) (t : ℕ) → drive_from found (rows ++ row ∷ []) t ≡ (if nat_le row.0 t then row.1 else drive_from found rows t)
drive_more [] found row t = refl
drive_more (r ∷ rows) found row t = drive_more rows (if nat_le r.0 t then r.1 else found) row t

pub is_le : (a t : ℕ) → a ≤ t → nat_le a t ≡ true
is_le a t h = grind (arith, nat_tests)

pub is_gt : (a t : ℕ) → t < a → nat_le a t ≡ false
is_gt a t h = grind (arith, nat_tests)

-- a row in each cycle
drive_each : (f : ℕ → Drive) (n t : ℕ) → t < n → drive_at (map (λ u. (u, f u)) (below n)) t ≡ f t
drive_each f zero t h = absurd (omega arith)
drive_each f (suc n) t h =
    let more : drive_at (map (λ u. (u, f u)) (below (suc n))) t ≡ (if nat_le n t then f n else drive_at (map (λ u. (u, f u)) (below n)) t) =
    ap (λ (rs : DriveRows). drive_at rs t) (map-append (λ (u : ℕ). (u, f u)) (below n) (n ∷ [])) ∙ drive_more (map (λ u. (u, f u)) (below n)) drives.Z (n, f n) t in
    elim (lt_or_eq t n (omega arith)) [
      | inl less ↦ more ∙ ap (λ (b : Bool). if b then f n else drive_at (map (λ u. (u, f u)) (below n)) t) (is_gt n t less) ∙ drive_each f n t less
      | inr same ↦
          let l : n ≤ t = omega arith in
          more ∙ ap (λ (b : Bool). if b then f n else drive_at (map (λ u. (u, f u)) (below n)) t) (is_le n t l) ∙ ap f (sym same)
    ]

-- a list by its items
items : {A : Type 0} (xs : List A) (d : A) (n : ℕ) → n ≡ length xs → map (λ p. get_or xs p d) (below n) ≡ xs
items {A = A} xs d n e =
    let long : length (map (λ p. get_or xs p d) (below n)) ≡ length xs = simp length-map (length-below n ∙ e) in
    same_lists (map (λ p. get_or xs p d) (below n)) xs long (λ k x y ex ey.
    let a = get_map_some (λ p. get_or xs p d) (below n) k x ex in
    let within : k < n = at_most n k a.0 a.1 in
    let is : k ≡ a.0 = some_same (sym (get-below n k within) ∙ a.1) in
    let inside : k < length xs = omega (arith, within, e) in
    sym a.2 ∙ ap (λ (p : ℕ). get_or xs p d) (sym is) ∙ some_same (sym (get_within xs k d inside) ∙ ey))
  where
    at_most : (n k q : ℕ) → slice_get (below n) k ≡ Some q → k < n
    at_most n k q e = omega (arith, slice_get_within (below n) k q e, length-below n)

map_items : (ds : ℕ → List Drive) (n t : ℕ) (ps : List ℕ) → t < n → map (λ r. drive_at r t) (map (λ p. map (λ u. (u, get_or (ds u) p drives.Z)) (below n)) ps) ≡ map (λ p. get_or (ds t) p drives.Z) ps
map_items ds n t [] h = refl
map_items ds n t (p ∷ ps) h =
    let a : drive_at (map (λ u. (u, get_or (ds u) p drives.Z)) (below n)) t ≡ get_or (ds t) p drives.Z = drive_each (λ u. get_or (ds u) p drives.Z) n t h in
    let b : map (λ r. drive_at r t) (map (λ p. map (λ u. (u, get_or (ds u) p drives.Z)) (below n)) ps) ≡ map (λ p. get_or (ds t) p drives.Z) ps = map_items ds n t ps h in
    ap (λ (x : Drive). x ∷ map (λ r. drive_at r t) (map (λ p. map (λ u. (u, get_or (ds u) p drives.Z)) (below n)) ps)) a
    ∙ ap (λ (l : List Drive). get_or (ds t) p drives.Z ∷ l) b

none_there : {A B : Type 0} (xs : List A) (ys : List B) (k : ℕ) → length xs ≡ length ys → slice_get xs k ≡ None → slice_get ys k ≡ None
none_there [] [] k l e = refl
none_there [] (y ∷ ys) k l e = absurd (omega arith)
none_there (x ∷ xs) [] k l e = absurd (omega arith)
none_there (x ∷ xs) (y ∷ ys) zero l e = absurd cc
none_there (x ∷ xs) (y ∷ ys) (suc k) l e = none_there xs ys k (omega arith) e

module _ {S : Type 0} (m : Machine S) (laws : Laws m) (w : Wiring) (inputs : List Input) (ss : List S) where
  own_long : (k t : ℕ) (o : Option S) → slice_get ss k ≡ o → length (own_drives m w inputs ss 0 k 0) ≡ length (own_drives m w inputs ss 0 k t)
  unfolding states
  own_long k t None e =
      let there : slice_get (states m w inputs ss 0 t) k ≡ None = none_there ss (states m w inputs ss 0 t) k (sym (length-states m w inputs ss 0 t)) e in
      ap (λ (o : Option S). length (unwrap_or (option_map m.drives o) [])) (e ∙ sym there)
  own_long k t (Some s) e =
      let there = state_alone m laws w inputs ss 0 k s e t in
      ap (λ (o : Option S). length (unwrap_or (option_map m.drives o) [])) e
      ∙ sym (pins_of_states m w inputs laws ss 0 t k s _ e there)
      ∙ sym (ap (λ (o : Option S). length (unwrap_or (option_map m.drives o) [])) there)

  pub own_rows : (these : ℕ → Bool) (n : ℕ) → AreDrives m w inputs ss n these (recorded m w inputs ss n)
  own_rows these n k t is h =
      map_items (own_drives m w inputs ss 0 k) n t (below (length (own_drives m w inputs ss 0 k 0))) h
      ∙ items (own_drives m w inputs ss 0 k t) drives.Z (length (own_drives m w inputs ss 0 k 0)) (own_long k t (slice_get ss k) refl)

  -- A board in which each chip is replaced by a player of the drives that it has in the run shows the same rows and sends the same bytes.
  module _ (IsOf : S → Type 0) (kind : IsQuietKind m IsOf) (these : ℕ → Bool) (chips : TheseAre IsOf these ss) (before : Option Shown) (n : ℕ) where
    pub rows_of_play : rows m w inputs before ss 0 n ≡ rows (or_player m) w inputs before (played these (recorded m w inputs ss n) ss) 0 n
    rows_of_play = play_rows m IsOf kind w inputs ss n these (recorded m w inputs ss n) chips (own_rows these n) before

    pub bytes_of_play : bytes m w inputs ss 0 n ≡ bytes (or_player m) w inputs (played these (recorded m w inputs ss n) ss) 0 n
    bytes_of_play = play_bytes m IsOf kind w inputs ss n these (recorded m w inputs ss n) chips (own_rows these n)
