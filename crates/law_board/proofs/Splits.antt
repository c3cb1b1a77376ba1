-- A run of a + b cycles is one of a, and one of b from there.
use Rattle.std.proofs.Common.{◌≡◌, ℕ, zero, suc, ◌+◌, List, ◌++◌, ◌∙◌, length, Option, None, Some, refl, ap, sym, arith, append_assoc}
use Rattle.std.specs.Prelude.{slice_get}
use Rattle.std.specs.Option.{option_or}
use Rattle.sim_base.specs.declared.wiring.Wiring.{Wiring}
use Rattle.sim_base.specs.declared.wiring.Input.{Input}
use Rattle.sim_base.specs.Rows.{Row}
use Rattle.part_law.specs.Machine.{Machine}
use Rattle.board_model.specs.Board.{board_step, bytes_of, levels_of, states, bytes}
use Rattle.board_model.specs.Rows.{Shown, shown_of, row_if, shown_before, rows}
use Rattle.law_board.specs.FirstDiff.{Difference, part_diff, first_diff}
use Rattle.law_board.specs.Active.{sum_below, active_in, active_at, active_cycles, active_pairs}
use Rattle.board_model.proofs.Steps.{length-states}
use Rattle.std.proofs.lemmas.List.{append-nil}

or_none : {A : Type 0} (o : Option A) → o ≡ option_or o None
or_none None = refl
or_none (Some x) = refl

or_assoc : {A : Type 0} (o p q : Option A) → option_or (option_or o p) q ≡ option_or o (option_or p q)
or_assoc None p q = refl
or_assoc (Some x) p q = refl

module _ {S : Type 0} (m : Machine S) (w : Wiring) (inputs : List Input) where
  pub states_split : (ss : List S) (c a b : ℕ) → states m w inputs ss c (a + b) ≡ states m w inputs (states m w inputs ss c a) (c + a) b
  unfolding states
  states_split ss c a zero = let e : a + 0 ≡ a = omega arith in ap (states m w inputs ss c) e
  states_split ss c a (suc b) =
      let e : a + suc b ≡ suc (a + b) = omega arith in
      let f : c + (a + b) ≡ c + a + b = omega arith in
      ap (states m w inputs ss c) e ∙ ap (λ (l : List S). board_step m w inputs l (c + (a + b))) (states_split ss c a b)
      ∙ ap (board_step m w inputs (states m w inputs (states m w inputs ss c a) (c + a) b)) f

  pub bytes_split : (ss : List S) (c a b : ℕ) → bytes m w inputs ss c (a + b) ≡ bytes m w inputs ss c a ++ bytes m w inputs (states m w inputs ss c a) (c + a) b
  unfolding bytes
  bytes_split ss c a zero = let e : a + 0 ≡ a = omega arith in ap (bytes m w inputs ss c) e ∙ sym (append-nil (bytes m w inputs ss c a))
  bytes_split ss c a (suc b) =
      let e : a + suc b ≡ suc (a + b) = omega arith in
      let f : c + (a + b) ≡ c + a + b = omega arith in
      ap (bytes m w inputs ss c) e
      ∙ ap (λ (l : List ℕ). l ++ bytes_of m w inputs (states m w inputs ss c (a + b)) (c + (a + b))) (bytes_split ss c a b)
      ∙ ap (λ (l : List S). (bytes m w inputs ss c a ++ bytes m w inputs (states m w inputs ss c a) (c + a) b) ++ bytes_of m w inputs l (c + (a + b))) (states_split ss c a b)
      ∙ ap (λ (k : ℕ). (bytes m w inputs ss c a ++ bytes m w inputs (states m w inputs ss c a) (c + a) b) ++ bytes_of m w inputs (states m w inputs (states m w inputs ss c a) (c + a) b) k) f
      ∙ append_assoc (bytes m w inputs ss c a) (bytes m w inputs (states m w inputs ss c a) (c + a) b) _

  pub shown_split : (before : Option Shown) (ss : List S) (c a b : ℕ) → shown_before m w inputs before ss c (a + b) ≡ shown_before m w inputs (shown_before m w inputs before ss c a) (states m w inputs ss c a) (c + a) b
  unfolding shown_before
  shown_split before ss c a zero = let e : a + 0 ≡ a = omega arith in ap (shown_before m w inputs before ss c) e
  shown_split before ss c a (suc b) =
      let e : a + suc b ≡ suc (a + b) = omega arith in
      ap (shown_before m w inputs before ss c) e ∙ ap (λ (l : List S). Some (shown_of m w l)) (states_split ss c a b)

  pub rows_split : (before : Option Shown) (ss : List S) (c a b : ℕ) → rows m w inputs before ss c (a + b) ≡ rows m w inputs before ss c a ++ rows m w inputs (shown_before m w inputs before ss c a) (states m w inputs ss c a) (c + a) b
  unfolding rows
  rows_split before ss c a zero = let e : a + 0 ≡ a = omega arith in ap (rows m w inputs before ss c) e ∙ sym (append-nil (rows m w inputs before ss c a))
  rows_split before ss c a (suc b) =
      let e : a + suc b ≡ suc (a + b) = omega arith in
      let f : c + (a + b) ≡ c + a + b = omega arith in
      let first = rows m w inputs before ss c a in
      let then = rows m w inputs (shown_before m w inputs before ss c a) (states m w inputs ss c a) (c + a) b in
      ap (rows m w inputs before ss c) e
      ∙ ap (λ (l : List Row). l ++ row_if m w (shown_before m w inputs before ss c (a + b)) (states m w inputs ss c (a + b)) (c + (a + b))) (rows_split before ss c a b)
      ∙ ap (λ (o : Option Shown). (first ++ then) ++ row_if m w o (states m w inputs ss c (a + b)) (c + (a + b))) (shown_split before ss c a b)
      ∙ ap (λ (l : List S). (first ++ then) ++ row_if m w (shown_before m w inputs (shown_before m w inputs before ss c a) (states m w inputs ss c a) (c + a) b) l (c + (a + b))) (states_split ss c a b)
      ∙ ap (λ (k : ℕ). (first ++ then) ++ row_if m w (shown_before m w inputs (shown_before m w inputs before ss c a) (states m w inputs ss c a) (c + a) b) (states m w inputs (states m w inputs ss c a) (c + a) b) k) f
      ∙ append_assoc first then _

  pub diff_split : (xs ys : List S) (c a b : ℕ) → first_diff m w inputs xs ys c (a + b) ≡ option_or (first_diff m w inputs xs ys c a) (first_diff m w inputs (states m w inputs xs c a) (states m w inputs ys c a) (c + a) b)
  unfolding first_diff
  diff_split xs ys c a zero = let e : a + 0 ≡ a = omega arith in ap (first_diff m w inputs xs ys c) e ∙ or_none _
  diff_split xs ys c a (suc b) =
      let e : a + suc b ≡ suc (a + b) = omega arith in
      let f : c + (a + b) ≡ c + a + b = omega arith in
      let first = first_diff m w inputs xs ys c a in
      let then = first_diff m w inputs (states m w inputs xs c a) (states m w inputs ys c a) (c + a) b in
      ap (first_diff m w inputs xs ys c) e
      ∙ ap (λ (o : Option Difference). option_or o (part_diff m w (c + (a + b)) 0 (states m w inputs xs c (a + b)) (states m w inputs ys c (a + b)))) (diff_split xs ys c a b)
      ∙ ap (λ (l : List S). option_or (option_or first then) (part_diff m w (c + (a + b)) 0 l (states m w inputs ys c (a + b)))) (states_split xs c a b)
      ∙ ap (λ (l : List S). option_or (option_or first then) (part_diff m w (c + (a + b)) 0 (states m w inputs (states m w inputs xs c a) (c + a) b) l)) (states_split ys c a b)
      ∙ ap (λ (k : ℕ). option_or (option_or first then) (part_diff m w k 0 (states m w inputs (states m w inputs xs c a) (c + a) b) (states m w inputs (states m w inputs ys c a) (c + a) b))) f
      ∙ or_assoc first then _

  pub sum_same : (n : ℕ) (f g : ℕ → ℕ) → ((k : ℕ) → f k ≡ g k) → sum_below n f ≡ sum_below n g
  sum_same zero f g same = refl
  sum_same (suc n) f g same = omega (arith, sum_same n f g same, same n)

  pub sum_split : (f : ℕ → ℕ) (a b : ℕ) → sum_below (a + b) f ≡ sum_below a f + sum_below b (λ k. f (a + k))
  sum_split f a zero = let e : a + 0 ≡ a = omega arith in rw e (omega arith)
  sum_split f a (suc b) =
      let e : a + suc b ≡ suc (a + b) = omega arith in
      rw e (omega (arith, sum_split f a b))

  pub pairs_split : (ss : List S) (c a b : ℕ) → active_pairs m w inputs ss c (a + b) ≡ active_pairs m w inputs ss c a + active_pairs m w inputs (states m w inputs ss c a) (c + a) b
  pairs_split ss c a b =
      let here = λ (k : ℕ). sum_below (length ss) (λ i. active_at m w inputs ss c i k) in
      let there = λ (k : ℕ). sum_below (length (states m w inputs ss c a)) (λ i. active_at m w inputs (states m w inputs ss c a) (c + a) i k) in
      let same : (k : ℕ) → here (a + k) ≡ there k = λ (k : ℕ).
      sum_same (length ss) (λ i. active_at m w inputs ss c i (a + k)) (λ i. active_at m w inputs (states m w inputs ss c a) (c + a) i k) (λ (i : ℕ).
      let f : c + (a + k) ≡ c + a + k = omega arith in
      ap (λ (l : List S). active_in m w inputs (levels_of m w l) (c + (a + k)) i (slice_get l i)) (states_split ss c a k)
      ∙ ap (λ (t : ℕ). active_in m w inputs (levels_of m w (states m w inputs (states m w inputs ss c a) (c + a) k)) t i (slice_get (states m w inputs (states m w inputs ss c a) (c + a) k) i)) f)
      ∙ ap (λ (n : ℕ). sum_below n (λ i. active_at m w inputs (states m w inputs ss c a) (c + a) i k)) (sym (length-states m w inputs ss c a)) in
      sum_split here a b ∙ ap (λ (x : ℕ). sum_below a here + x) (sum_same b (λ k. here (a + k)) there same)

  pub cycles_split : (ss : List S) (c a b i : ℕ) → active_cycles m w inputs ss c (a + b) i ≡ active_cycles m w inputs ss c a i + active_cycles m w inputs (states m w inputs ss c a) (c + a) b i
  cycles_split ss c a b i =
      let same : (k : ℕ) → active_at m w inputs ss c i (a + k) ≡ active_at m w inputs (states m w inputs ss c a) (c + a) i k = λ (k : ℕ).
      let f : c + (a + k) ≡ c + a + k = omega arith in
      ap (λ (l : List S). active_in m w inputs (levels_of m w l) (c + (a + k)) i (slice_get l i)) (states_split ss c a k)
      ∙ ap (λ (t : ℕ). active_in m w inputs (levels_of m w (states m w inputs (states m w inputs ss c a) (c + a) k)) t i (slice_get (states m w inputs (states m w inputs ss c a) (c + a) k) i)) f in
      sum_split (active_at m w inputs ss c i) a b ∙ ap (λ (x : ℕ). active_cycles m w inputs ss c a i + x) (sum_same b (λ k. active_at m w inputs ss c i (a + k)) (active_at m w inputs (states m w inputs ss c a) (c + a) i) same)
