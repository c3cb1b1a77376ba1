-- The row in force in a cycle shows its levels and what the chips drive in it.
use Rattle.std.proofs.Common.{◌≡◌, inl, inr, ℕ, zero, suc, ◌+◌, ◌<◌, ◌≤◌, List, [], ◌∷◌, ◌++◌, ◌∙◌, length, take, drop, Bool, true, false, Option, None, Some, refl, ap, sym, arith, get_or}
use Rattle.std.specs.Prelude.{slice_get, slice_index, unwrap_or, nat_le, if◌then◌else◌}
use Rattle.std.specs.List.{flat_map}
use Rattle.std.proofs.lemmas.Option.{slice_get_within}
use Rattle.sim_base.specs.declared.signal.Level.{Level}
use Rattle.sim_base.specs.declared.signal.Drive.{Drive}
use Rattle.sim_base.specs.declared.wiring.Wiring.{Wiring}
use Rattle.sim_base.specs.declared.wiring.Input.{Input}
use Rattle.sim_base.specs.Rows.{Row}
use Rattle.part_law.specs.Machine.{Machine, Laws}
use Rattle.board_model.specs.Board.{drives_of, levels_of, states}
use Rattle.board_model.specs.Rows.{chip_drives_of, Shown, shown_of, row_of, is_new, shown_before, rows}
use Rattle.board_model.specs.Fits.{Fits}
use Rattle.board_model.proofs.Lists.{some_same, lt_or_eq, get_within}
use Rattle.std.proofs.Math.Seq.{take-append_seam}
use Rattle.law_board.specs.Worlds.{is_chip}
use Rattle.board_model.proofs.Steps.{length-states, pins_of_states, state_before}
use Rattle.law_board.specs.InForce.{row_from, row_at, part_drives}
use Rattle.board_model.proofs.SameLemmas.{levels_mean, drives_mean}
use Rattle.law_board.proofs.OwnRows.{is_le, is_gt}
use Rattle.std.proofs.lemmas.List.{append-nil}
use Rattle.std.proofs.lemmas.Bool.{and_parts, not-false}

-- what is not new is as it was
old_is : (a b : Shown) → is_new (Some a) b ≡ false → a ≡ b
old_is a b h =
    let both = not-false _ h in
    let l : a.levels ≡ b.levels = levels_mean a.levels b.levels (and_parts _ _ both).0 in
    let d : a.chip_drives ≡ b.chip_drives = drives_mean a.chip_drives b.chip_drives (and_parts _ _ both).1 in
    ap (λ (x : List Level). record { levels = x; chip_drives = a.chip_drives }) l ∙ ap (λ (x : List Drive). record { levels = b.levels; chip_drives = x }) d

row_more : (rs : List Row) (found : Option Row) (row : Row) (t : ℕ) → row_from found (rs ++ row ∷ []) t ≡ (if nat_le row.cycle t then Some row else row_from found rs t)
row_more [] found row t = refl
row_more (r ∷ rs) found row t = row_more rs (if nat_le r.cycle t then Some r else found) row t

fronts : {A : Type 0} (a b p q : List A) → length a ≡ length b → a ++ p ≡ b ++ q → (a ≡ b) × (p ≡ q)
fronts [] [] p q l e = (refl, e)
fronts [] (y ∷ b) p q l e = absurd (omega arith)
fronts (x ∷ a) [] p q l e = absurd (omega arith)
fronts (x ∷ a) (y ∷ b) p q l e =
    let heads : x ≡ y = cc in
    let tails : a ++ p ≡ b ++ q = cc in
    let more = fronts a b p q (omega arith) tails in
    let same : a ≡ b = more.0 in
    (cc, more.1)

-- an item's own list among all
own_front : {A B : Type 0} (f : A → List B) (xs : List A) (i : ℕ) (x : A) → slice_get xs i ≡ Some x → take (length (f x)) (drop (length (flat_map f (take i xs))) (flat_map f xs)) ≡ f x
own_front f [] i x e = absurd cc
own_front f (y ∷ xs) zero x e = ap (λ z. take (length (f x)) (f z ++ flat_map f xs)) (some_same e) ∙ take-append_seam (f x) (flat_map f xs)
own_front {B = B} f (y ∷ xs) (suc i) x e =
    ap (λ (l : List B). take (length (f x)) l) (drop_more (f y) (flat_map f (take i xs)) (flat_map f xs)) ∙ own_front f xs i x e
  where
    drop_more : (a b p : List B) → drop (length (a ++ b)) (a ++ p) ≡ drop (length b) p
    drop_more [] b p = refl
    drop_more (z ∷ a) b p = drop_more a b p

chips_apart : {S : Type 0} (m : Machine S) (chips : List Bool) (xs ys : List S) → length xs ≡ length ys →
    ((k : ℕ) (a b : S) → slice_get xs k ≡ Some a → slice_get ys k ≡ Some b → length (m.drives a) ≡ length (m.drives b)) →
    chip_drives_of m chips xs ≡ chip_drives_of m chips ys →
    (k : ℕ) (a b : S) → slice_get xs k ≡ Some a → slice_get ys k ≡ Some b → unwrap_or (slice_get chips k) false ≡ true → m.drives a ≡ m.drives b
chips_apart m [] xs ys l pins e k a b ea eb is = absurd cc
chips_apart m (c ∷ chips) [] ys l pins e k a b ea eb is = absurd cc
chips_apart m (c ∷ chips) (x ∷ xs) [] l pins e k a b ea eb is = absurd cc
chips_apart {S = S} m (c ∷ chips) (x ∷ xs) (y ∷ ys) l pins e k a b ea eb is =
    let split = fronts (if c then m.drives x else []) (if c then m.drives y else []) (chip_drives_of m chips xs) (chip_drives_of m chips ys) (long c) e in
    here c k split.0 ea eb is (λ j fa fb fi. chips_apart m chips xs ys (omega arith) (λ k a b ea eb. pins (suc k) a b ea eb) split.1 j a b fa fb fi)
  where
    long : (c : Bool) → length (if c then m.drives x else []) ≡ length (if c then m.drives y else [])
    long true = pins 0 x y refl refl
    long false = refl

    here : (c : Bool) (k : ℕ) → (if c then m.drives x else []) ≡ (if c then m.drives y else []) → slice_get (x ∷ xs) k ≡ Some a → slice_get (y ∷ ys) k ≡ Some b → unwrap_or (slice_get (c ∷ chips) k) false ≡ true →
        ((j : ℕ) → slice_get xs j ≡ Some a → slice_get ys j ≡ Some b → unwrap_or (slice_get chips j) false ≡ true → m.drives a ≡ m.drives b) → m.drives a ≡ m.drives b
    here true zero d fa fb fi more = ap m.drives (sym (some_same fa)) ∙ d ∙ ap m.drives (some_same fb)
    here false zero d fa fb fi more = absurd cc
    here c (suc j) d fa fb fi more = more j fa fb fi

module _ {S : Type 0} (m : Machine S) (w : Wiring) (inputs : List Input) (ss : List S) (c : ℕ) where
  -- the row in force at the end of n + 1 cycles comes from a cycle that showed the same
  record Newest (n T : ℕ) : Type 0 where
    since : ℕ
    early : since ≤ n
    row : row_at (rows m w inputs None ss c (suc n)) T ≡ Some (row_of m w (states m w inputs ss c since) (c + since))
    same : shown_of m w (states m w inputs ss c since) ≡ shown_of m w (states m w inputs ss c n)

  newest : (n T : ℕ) → c + n ≤ T → Newest n T
  unfolding rows shown_before
  newest zero T l = record {
    since = 0;
    early = omega arith;
    row = ap (λ (b : Bool). if b then Some (row_of m w (states m w inputs ss c 0) (c + 0)) else None) (is_le (c + 0) T l);
    same = refl;
  }
  newest (suc n) T l = here (is_new (Some (shown_of m w (states m w inputs ss c n))) (shown_of m w (states m w inputs ss c (suc n)))) refl (newest n T (omega arith))
    where
      this : Row
      this = row_of m w (states m w inputs ss c (suc n)) (c + suc n)

      here : (b : Bool) → is_new (Some (shown_of m w (states m w inputs ss c n))) (shown_of m w (states m w inputs ss c (suc n))) ≡ b → Newest n T → Newest (suc n) T
      here true e before = record {
        since = suc n;
        early = omega arith;
        row = ap (λ (b : Bool). row_at (rows m w inputs None ss c (suc n) ++ (if b then row_of m w (states m w inputs ss c (suc n)) (c + suc n) ∷ [] else [])) T) e
            ∙ row_more (rows m w inputs None ss c (suc n)) None (row_of m w (states m w inputs ss c (suc n)) (c + suc n)) T
            ∙ ap (λ (b : Bool). if b then Some (row_of m w (states m w inputs ss c (suc n)) (c + suc n)) else row_at (rows m w inputs None ss c (suc n)) T) (is_le (c + suc n) T l);
        same = refl;
      }
      here false e before = record {
        since = before.since;
        early = let h = before.early in omega (arith, h);
        row = ap (λ (b : Bool). row_at (rows m w inputs None ss c (suc n) ++ (if b then row_of m w (states m w inputs ss c (suc n)) (c + suc n) ∷ [] else [])) T) e
            ∙ ap (λ (rs : List Row). row_at rs T) (append-nil (rows m w inputs None ss c (suc n)))
            ∙ before.row;
        same = before.same ∙ old_is _ _ e;
      }

  -- later rows are not in force yet
  later : (n t : ℕ) → t < n → row_at (rows m w inputs None ss c n) (c + t) ≡ row_at (rows m w inputs None ss c (suc t)) (c + t)
  unfolding rows
  later zero t l = absurd (omega arith)
  later (suc n) t l = elim (lt_or_eq t n (omega arith)) [
    | inl less ↦ drop_row (is_new (shown_before m w inputs None ss c n) (shown_of m w (states m w inputs ss c n))) (omega arith) ∙ later n t less
    | inr same ↦ ap (λ (k : ℕ). row_at (rows m w inputs None ss c (suc k)) (c + t)) (sym same)
  ]
    where
      drop_row : (b : Bool) → c + t < c + n → row_at (rows m w inputs None ss c n ++ (if b then row_of m w (states m w inputs ss c n) (c + n) ∷ [] else [])) (c + t) ≡ row_at (rows m w inputs None ss c n) (c + t)
      drop_row true h = row_more (rows m w inputs None ss c n) None (row_of m w (states m w inputs ss c n) (c + n)) (c + t)
          ∙ ap (λ (b : Bool). if b then Some (row_of m w (states m w inputs ss c n) (c + n)) else row_at (rows m w inputs None ss c n) (c + t)) (is_gt (c + n) (c + t) h)
      drop_row false h = ap (λ (rs : List Row). row_at rs (c + t)) (append-nil (rows m w inputs None ss c n))

  -- In each cycle of a run the row in force has the cycle's levels, and what the chips drive in it.
  pub in_force : Laws m → ((u : ℕ) → Fits m w (states m w inputs ss c u)) → (n t : ℕ) → t < n → (row : Row) × (row_at (rows m w inputs None ss c n) (c + t) ≡ Some row)
      × (row.levels ≡ levels_of m w (states m w inputs ss c t))
      × ((k : ℕ) (s : S) → is_chip w k ≡ true → slice_get (states m w inputs ss c t) k ≡ Some s → part_drives w k (length (m.drives s)) row ≡ m.drives s)
  in_force laws fits n t l =
      let found = newest t (c + t) (omega arith) in
      let u = found.since in
      let row = row_of m w (states m w inputs ss c u) (c + u) in
      let levels : row.levels ≡ levels_of m w (states m w inputs ss c t) = ap (λ (x : Shown). x.levels) found.same in (
        row,
        later n t l ∙ found.row,
        levels,
        λ k s is e.
            let within : k < length ss = omega (arith, slice_get_within (states m w inputs ss c t) k s e, length-states m w inputs ss c t) in
            let inside : k < length (states m w inputs ss c u) = omega (arith, within, length-states m w inputs ss c u) in
            let v = get_or (states m w inputs ss c u) k s in
            let ev : slice_get (states m w inputs ss c u) k ≡ Some v = get_within (states m w inputs ss c u) k s inside in
            let pins : (k : ℕ) (a b : S) → slice_get (states m w inputs ss c u) k ≡ Some a → slice_get (states m w inputs ss c t) k ≡ Some b → length (m.drives a) ≡ length (m.drives b) = λ (k : ℕ) (a b : S) ea eb.
            let a0 = state_before m w inputs ss c u k a ea in
            pins_of_states m w inputs laws ss c u k a0.0 a a0.1 ea ∙ sym (pins_of_states m w inputs laws ss c t k a0.0 b a0.1 eb) in
            let long : length (states m w inputs ss c u) ≡ length (states m w inputs ss c t) = length-states m w inputs ss c u ∙ sym (length-states m w inputs ss c t) in
            let drives : m.drives v ≡ m.drives s = chips_apart m w.chip (states m w inputs ss c u) (states m w inputs ss c t) long pins (ap (λ (x : Shown). x.chip_drives) found.same) k v s ev e is in
            let place : slice_index w.first_pin k ≡ length (drives_of m (take k (states m w inputs ss c u))) = (fits u).places k inside in
            ap (λ (p : ℕ). take (length (m.drives s)) (drop p (drives_of m (states m w inputs ss c u)))) place
            ∙ ap (λ (ds : List Drive). take (length ds) (drop (length (drives_of m (take k (states m w inputs ss c u)))) (drives_of m (states m w inputs ss c u)))) (sym drives)
            ∙ own_front m.drives (states m w inputs ss c u) k v ev ∙ drives,
      )
