-- Two boards beside each other show the same.
use Rattle.std.proofs.Common.{◌≡◌, ℕ, zero, suc, ◌+◌, ◌<◌, ◌≤◌, List, [], ◌∷◌, ◌++◌, ◌∙◌, map, Bool, Option, Some, refl, ap, sym, arith, subst}
use Rattle.std.specs.Prelude.{slice_get, if◌then◌else◌}
use Rattle.sim_base.specs.declared.signal.Level.{Level}
use Rattle.sim_base.specs.declared.signal.Drive.{Drive}
use Rattle.sim_base.specs.declared.wiring.Wiring.{Wiring}
use Rattle.sim_base.specs.declared.wiring.Input.{Input}
use Rattle.sim_base.specs.Rows.{Row}
use Rattle.part_law.specs.Machine.{Machine}
use Rattle.board_model.specs.Resolve.{resolve}
use Rattle.board_model.specs.Board.{drives_of, contacts_of, part_step, steps_from, board_step, levels_of, states, options, bytes_of, bytes}
use Rattle.board_model.specs.Rows.{Shown, shown_of, row_of, row_if, shown_before, rows, chip_drives_of, is_new}
use Rattle.law_board.specs.Alike.{Alike, SameShow}
use Rattle.law_board.proofs.Beside.{Beside, EmitSame}
use Rattle.law_board.proofs.AlikeLemmas.{alike_weaker, map_alike, flat_map_alike, chip_drives_alike}
use Rattle.board_model.proofs.Steps.{get_step, length-steps_from, length-board_step, get_from}

module _ {A B : Type 0} (m : Machine A) (n : Machine B) (w : Wiring) where
  abbrev AreSame : List A → List B → Type 0
  AreSame xs ys = Alike (λ k a b. SameShow m n a b) xs ys

  pub same_drives : (xs : List A) (ys : List B) → AreSame xs ys → drives_of m xs ≡ drives_of n ys
  same_drives xs ys h = flat_map_alike m.drives n.drives xs ys (alike_weaker (λ k a b. SameShow m n a b) (λ k a b. m.drives a ≡ n.drives b) xs ys h (λ k a b ea eb s. s.drives))

  pub same_levels : (xs : List A) (ys : List B) → AreSame xs ys → levels_of m w xs ≡ levels_of n w ys
  same_levels xs ys h =
      let c : contacts_of m xs ≡ contacts_of n ys = flat_map_alike m.contacts n.contacts xs ys (alike_weaker (λ k a b. SameShow m n a b) (λ k a b. m.contacts a ≡ n.contacts b) xs ys h (λ k a b ea eb s. s.contacts)) in
      ap (λ (x : List Bool). resolve w.nets w.net_of w.contacts w.resistors x (drives_of m xs)) c
      ∙ ap (λ (x : List Drive). resolve w.nets w.net_of w.contacts w.resistors (contacts_of n ys) x) (same_drives xs ys h)

  pub same_chips : (xs : List A) (ys : List B) → AreSame xs ys → chip_drives_of m w.chip xs ≡ chip_drives_of n w.chip ys
  same_chips xs ys h = chip_drives_alike m n w.chip xs ys (alike_weaker (λ k a b. SameShow m n a b) (λ k a b. m.drives a ≡ n.drives b) xs ys h (λ k a b ea eb s. s.drives))

  pub same_shown : (xs : List A) (ys : List B) → AreSame xs ys → shown_of m w xs ≡ shown_of n w ys
  same_shown xs ys h =
      let a : levels_of m w xs ≡ levels_of n w ys = same_levels xs ys h in
      let b : chip_drives_of m w.chip xs ≡ chip_drives_of n w.chip ys = same_chips xs ys h in
      cc

  pub same_row : (xs : List A) (ys : List B) (t : ℕ) → AreSame xs ys → row_of m w xs t ≡ row_of n w ys t
  same_row xs ys t h =
      let a : levels_of m w xs ≡ levels_of n w ys = same_levels xs ys h in
      let b : drives_of m xs ≡ drives_of n ys = same_drives xs ys h in
      cc

module _ {A B : Type 0} (m : Machine A) (n : Machine B) (w : Wiring) (inputs : List Input) where
  -- each part takes its step on the same levels
  steps_alike : (R Q : ℕ → A → B → Type 0) (xs : List A) (ys : List B) (t : ℕ) → levels_of m w xs ≡ levels_of n w ys → Alike R xs ys →
      ((k : ℕ) (a : A) (b : B) → slice_get xs k ≡ Some a → slice_get ys k ≡ Some b → R k a b →
      Q k (part_step m w inputs (levels_of m w xs) t k a).0 (part_step n w inputs (levels_of m w xs) t k b).0) →
      Alike Q (board_step m w inputs xs t) (board_step n w inputs ys t)
  steps_alike R Q xs ys t same h to = record {
    long = length-board_step m w inputs xs t ∙ h.long ∙ sym (length-board_step n w inputs ys t);
    each = λ k p q ep eq.
        let f = get_from m w inputs xs t k p ep in
        let g = get_from n w inputs ys t k q eq in
        let r : Q k (part_step m w inputs (levels_of m w xs) t k f.0).0 (part_step n w inputs (levels_of m w xs) t k g.0).0 = to k f.0 g.0 f.1 g.1 (h.each k f.0 g.0 f.1 g.1) in
        let gy : (part_step n w inputs (levels_of m w xs) t k g.0).0 ≡ q = ap (λ (ls : List Level). (part_step n w inputs ls t k g.0).0) same ∙ g.2 in
        subst (λ (z : A). Q k z q) f.2 (subst (λ (z : B). Q k (part_step m w inputs (levels_of m w xs) t k f.0).0 z) gy r);
  }

  bytes_alike : (R : ℕ → A → B → Type 0) (xs : List A) (ys : List B) (t : ℕ) → levels_of m w xs ≡ levels_of n w ys → Alike R xs ys →
      ((k : ℕ) (a : A) (b : B) → slice_get xs k ≡ Some a → slice_get ys k ≡ Some b → R k a b →
      (part_step m w inputs (levels_of m w xs) t k a).1 ≡ (part_step n w inputs (levels_of m w xs) t k b).1) →
      bytes_of m w inputs xs t ≡ bytes_of n w inputs ys t
  bytes_alike R xs ys t same h to =
      let ra = steps_from m w inputs (levels_of m w xs) t 0 xs in
      let rb = steps_from n w inputs (levels_of n w ys) t 0 ys in
      let e : map (λ (r : A × Option ℕ). r.1) ra ≡ map (λ (r : B × Option ℕ). r.1) rb = map_alike (λ (r : A × Option ℕ). r.1) (λ (r : B × Option ℕ). r.1) ra rb (record {
        long = length-steps_from m w inputs (levels_of m w xs) t 0 xs ∙ h.long ∙ sym (length-steps_from n w inputs (levels_of n w ys) t 0 ys);
        each = λ k p q ep eq.
            let f = get_step m w inputs (levels_of m w xs) t k xs p ep in
            let g = get_step n w inputs (levels_of n w ys) t k ys q eq in
            sym (ap (λ (r : A × Option ℕ). r.1) f.2)
            ∙ to k f.0 g.0 f.1 g.1 (h.each k f.0 g.0 f.1 g.1)
            ∙ ap (λ (ls : List Level). (part_step n w inputs ls t k g.0).1) same
            ∙ ap (λ (r : B × Option ℕ). r.1) g.2;
      }) in
      ap options e

module _ {A B : Type 0} (m : Machine A) (n : Machine B) (w : Wiring) (inputs : List Input) (xs : List A) (ys : List B) (c end : ℕ) (R : ℕ → ℕ → A → B → Type 0) (beside : Beside m n w inputs xs ys c end R) where
  -- where states are related, they show the same
  shows_same : (t : ℕ) → t < end → Alike (R t) (states m w inputs xs c t) (states n w inputs ys c t) → Alike (λ k a b. SameShow m n a b) (states m w inputs xs c t) (states n w inputs ys c t)
  shows_same t h like = alike_weaker (R t) (λ k a b. SameShow m n a b) (states m w inputs xs c t) (states n w inputs ys c t) like (λ k a b ea eb. beside.shows t k a b h ea eb)

  -- the states stay related
  pub beside_states : (t : ℕ) → t ≤ end → Alike (R t) (states m w inputs xs c t) (states n w inputs ys c t)
  unfolding states
  beside_states zero h = beside.starts
  beside_states (suc t) h =
      let before : Alike (R t) (states m w inputs xs c t) (states n w inputs ys c t) = beside_states t (omega arith) in
      let l : t < end = omega arith in
      let same = same_levels m n w (states m w inputs xs c t) (states n w inputs ys c t) (shows_same t l before) in
      steps_alike m n w inputs (R t) (R (suc t)) (states m w inputs xs c t) (states n w inputs ys c t) (c + t) same before (λ k a b ea eb. beside.steps t k a b l ea eb)

  pub beside_shown : (t : ℕ) → t < end → shown_of m w (states m w inputs xs c t) ≡ shown_of n w (states n w inputs ys c t)
  beside_shown t h = same_shown m n w _ _ (shows_same t h (beside_states t (omega arith)))

  pub beside_levels : (t : ℕ) → t < end → levels_of m w (states m w inputs xs c t) ≡ levels_of n w (states n w inputs ys c t)
  beside_levels t h = same_levels m n w _ _ (shows_same t h (beside_states t (omega arith)))

  -- the bytes are the same
  pub beside_bytes : EmitSame m n w inputs xs ys c end R → (t : ℕ) → t ≤ end → bytes m w inputs xs c t ≡ bytes n w inputs ys c t
  unfolding bytes
  beside_bytes emit zero h = refl
  beside_bytes emit (suc t) h =
      let l : t < end = omega arith in
      let like : Alike (R t) (states m w inputs xs c t) (states n w inputs ys c t) = beside_states t (omega arith) in
      let a : bytes m w inputs xs c t ≡ bytes n w inputs ys c t = beside_bytes emit t (omega arith) in
      let b : bytes_of m w inputs (states m w inputs xs c t) (c + t) ≡ bytes_of n w inputs (states n w inputs ys c t) (c + t) =
      bytes_alike m n w inputs (R t) (states m w inputs xs c t) (states n w inputs ys c t) (c + t) (beside_levels t l) like (λ k a b ea eb. emit t k a b l ea eb) in
      ap (λ (x : List ℕ). x ++ bytes_of m w inputs (states m w inputs xs c t) (c + t)) a ∙ ap (λ (x : List ℕ). bytes n w inputs ys c t ++ x) b

  beside_before : (before : Option Shown) (t : ℕ) → t ≤ end → shown_before m w inputs before xs c t ≡ shown_before n w inputs before ys c t
  unfolding shown_before
  beside_before before zero h = refl
  beside_before before (suc t) h = ap (λ (x : Shown). Some x) (beside_shown t (omega arith))

  -- the rows are the same
  pub beside_rows : (before : Option Shown) (t : ℕ) → t ≤ end → rows m w inputs before xs c t ≡ rows n w inputs before ys c t
  unfolding rows
  beside_rows before zero h = refl
  beside_rows before (suc t) h =
      let l : t < end = omega arith in
      let a : rows m w inputs before xs c t ≡ rows n w inputs before ys c t = beside_rows before t (omega arith) in
      let b : shown_before m w inputs before xs c t ≡ shown_before n w inputs before ys c t = beside_before before t (omega arith) in
      let s : shown_of m w (states m w inputs xs c t) ≡ shown_of n w (states n w inputs ys c t) = beside_shown t l in
      let r : row_of m w (states m w inputs xs c t) (c + t) ≡ row_of n w (states n w inputs ys c t) (c + t) = same_row m n w _ _ (c + t) (shows_same t l (beside_states t (omega arith))) in
      ap (λ (x : List Row). x ++ row_if m w (shown_before m w inputs before xs c t) (states m w inputs xs c t) (c + t)) a
      ∙ ap (λ (x : List Row). rows n w inputs before ys c t ++ x) (row_from b s r)
    where
      row_from : {b b' : Option Shown} {s s' : Shown} {r r' : Row} → b ≡ b' → s ≡ s' → r ≡ r' → (if is_new b s then r ∷ [] else []) ≡ (if is_new b' s' then r' ∷ [] else [])
      row_from p q u = cc
