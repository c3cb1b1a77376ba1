-- In a board's run each part does what it does alone, on the levels of its own pins.
use Rattle.std.proofs.Common.{◌≡◌, ℕ, zero, suc, ◌+◌, ◌<◌, List, [], ◌∷◌, ◌++◌, ◌∙◌, length, map, Option, None, Some, refl, ap, sym, arith}
use Rattle.std.specs.Prelude.{slice_get, unwrap_or}
use Rattle.std.specs.Option.{option_map}
use Rattle.std.proofs.lemmas.List.{length-map, map-append}
use Rattle.sim_base.specs.declared.signal.Level.{Level}
use Rattle.sim_base.specs.declared.signal.Drive.{Drive}
use Rattle.sim_base.specs.declared.wiring.Wiring.{Wiring}
use Rattle.sim_base.specs.declared.wiring.Input.{Input}
use Rattle.part_law.specs.Machine.{Machine, Laws}
use Rattle.board_model.specs.Board.{level_at, own_nets, levels_of, states, input_at}
use Rattle.board_model.specs.Walks.{below}
use Rattle.board_model.proofs.Lists.{length-below}
use Rattle.law_board.specs.Alone.{part_run, drive_rows, own_levels, own_drives}
use Rattle.board_model.proofs.Steps.{get-board_step, pins_of_states}

-- what a part did does not depend on what comes later
pub run_same : {S : Type 0} (m : Machine S) (l l' : ℕ → List Level) (i i' : ℕ → Option ℕ) (s : S) (c n : ℕ) → ((k : ℕ) → k < n → (l k ≡ l' k) × (i k ≡ i' k)) → part_run m l i s c n ≡ part_run m l' i' s c n
unfolding part_run
run_same m l l' i i' s c zero each = refl
run_same m l l' i i' s c (suc n) each =
    let before : part_run m l i s c n ≡ part_run m l' i' s c n = run_same m l l' i i' s c n (λ k (h : k < n). each k (omega arith)) in
    let now = each n (omega arith) in
    let a : l n ≡ l' n = now.0 in
    let b : i n ≡ i' n = now.1 in
    cc

map_below : {A : Type 0} (f g : ℕ → A) (n : ℕ) → ((k : ℕ) → k < n → f k ≡ g k) → map f (below n) ≡ map g (below n)
map_below f g zero same = refl
map_below f g (suc n) same =
    let a : map f (below n) ≡ map g (below n) = map_below f g n (λ k (h : k < n). same k (omega arith)) in
    let b : f n ≡ g n = same n (omega arith) in
    map-append f (below n) (n ∷ []) ∙ ap (λ l. l ++ f n ∷ []) a ∙ ap (λ x. map g (below n) ++ x ∷ []) b ∙ sym (map-append g (below n) (n ∷ []))

module _ {S : Type 0} (m : Machine S) where
  end_of : S → ℕ → List (List Level) → S
  end_of s c [] = s
  end_of s c (l ∷ ls) = end_of (m.step s c l None).0 (c + 1) ls

  end_more : (s : S) (c : ℕ) (ls : List (List Level)) (l : List Level) → end_of s c (ls ++ l ∷ []) ≡ (m.step (end_of s c ls) (c + length ls) l None).0
  unfolding end_of
  end_more s c [] l = let e : c ≡ c + 0 = omega arith in ap (λ (k : ℕ). (m.step s k l None).0) e
  end_more s c (x ∷ ls) l =
      let e : c + 1 + length ls ≡ c + suc (length ls) = omega arith in
      end_more (m.step s c x None).0 (c + 1) ls l ∙ ap (λ (k : ℕ). (m.step (end_of (m.step s c x None).0 (c + 1) ls) k l None).0) e

  rows_more : (s : S) (c : ℕ) (ls : List (List Level)) (l : List Level) → drive_rows m s c (ls ++ l ∷ []) ≡ drive_rows m s c ls ++ m.drives (end_of s c ls) ∷ []
  unfolding end_of
  rows_more s c [] l = refl
  rows_more s c (x ∷ ls) l = ap (λ (r : List (List Drive)). m.drives s ∷ r) (rows_more (m.step s c x None).0 (c + 1) ls l)

  end_run : (levels : ℕ → List Level) (s : S) (c n : ℕ) → end_of s c (map levels (below n)) ≡ part_run m levels (λ k. None) s c n
  unfolding end_of part_run
  end_run levels s c zero = refl
  end_run levels s c (suc n) =
      let e : length (map levels (below n)) ≡ n = simp length-map (length-below n) in
      let before : end_of s c (map levels (below n)) ≡ part_run m levels (λ k. None) s c n = end_run levels s c n in
      rw map-append (end_more s c (map levels (below n)) (levels n)
      ∙ ap (λ (k : ℕ). (m.step (end_of s c (map levels (below n))) (c + k) (levels n) None).0) e
      ∙ ap (λ (x : S). (m.step x (c + n) (levels n) None).0) before)

  -- the drive rows of a part that runs alone
  pub rows_run : (levels : ℕ → List Level) (s : S) (c n : ℕ) → drive_rows m s c (map levels (below n)) ≡ map (λ k. m.drives (part_run m levels (λ j. None) s c k)) (below n)
  rows_run levels s c zero = refl
  rows_run levels s c (suc n) =
      let before : drive_rows m s c (map levels (below n)) ≡ map (λ k. m.drives (part_run m levels (λ j. None) s c k)) (below n) = rows_run levels s c n in
      let last : end_of s c (map levels (below n)) ≡ part_run m levels (λ j. None) s c n = end_run levels s c n in
      rw map-append (rw map-append (rows_more s c (map levels (below n)) (levels n)
      ∙ ap (λ (r : List (List Drive)). r ++ m.drives (end_of s c (map levels (below n))) ∷ []) before
      ∙ ap (λ (x : S). map (λ k. m.drives (part_run m levels (λ j. None) s c k)) (below n) ++ m.drives x ∷ []) last))

module _ {S : Type 0} (m : Machine S) (laws : Laws m) (w : Wiring) (inputs : List Input) (ss : List S) (c i : ℕ) (s : S) (here : slice_get ss i ≡ Some s) where
  -- its state
  pub state_alone : (n : ℕ) → slice_get (states m w inputs ss c n) i ≡ Some (part_run m (own_levels m w inputs ss c i (length (m.drives s))) (λ k. input_at inputs (c + k) i) s c n)
  unfolding states part_run
  state_alone zero = here
  state_alone (suc n) =
      let u = part_run m (own_levels m w inputs ss c i (length (m.drives s))) (λ k. input_at inputs (c + k) i) s c n in
      let was : slice_get (states m w inputs ss c n) i ≡ Some u = state_alone n in
      let p : length (m.drives u) ≡ length (m.drives s) = pins_of_states m w inputs laws ss c n i s u here was in
      get-board_step m w inputs (states m w inputs ss c n) (c + n) i u was
      ∙ ap (λ (k : ℕ). Some (m.step u (c + n) (map (level_at (levels_of m w (states m w inputs ss c n))) (own_nets w i k)) (input_at inputs (c + n) i)).0) p

  -- where the script gives it nothing, its drive rows are those that it has alone on the level rows of its own pins
  pub drives_alone : (n : ℕ) → ((k : ℕ) → k < n → input_at inputs (c + k) i ≡ None) →
      drive_rows m s c (map (own_levels m w inputs ss c i (length (m.drives s))) (below n)) ≡ map (own_drives m w inputs ss c i) (below n)
  drives_alone n none =
      rows_run m (own_levels m w inputs ss c i (length (m.drives s))) s c n
      ∙ map_below (λ k. m.drives (part_run m (own_levels m w inputs ss c i (length (m.drives s))) (λ j. None) s c k)) (own_drives m w inputs ss c i) n
      (λ k (h : k < n).
      let same : part_run m (own_levels m w inputs ss c i (length (m.drives s))) (λ j. None) s c k ≡ part_run m (own_levels m w inputs ss c i (length (m.drives s))) (λ j. input_at inputs (c + j) i) s c k =
      run_same m _ _ (λ j. None) (λ j. input_at inputs (c + j) i) s c k (λ j (l : j < k). (refl, sym (none j (omega arith)))) in
      ap m.drives same ∙ ap (λ (x : Option S). unwrap_or (option_map m.drives x) []) (sym (state_alone k)))
