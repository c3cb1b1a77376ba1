-- What a script says from a cycle on has no effect before it.
use Rattle.std.proofs.Common.{◌≡◌, ◌≢◌, inl, inr, ℕ, zero, suc, ◌+◌, ◌<◌, ◌≤◌, List, [], ◌∷◌, ◌++◌, ◌∙◌, map, length, Bool, true, false, Option, None, Some, refl, ap, sym, arith, subst}
use Rattle.std.specs.Prelude.{slice_get, nat_le, ◌==◌, ◌&&◌, if◌then◌else◌}
use Rattle.std.proofs.lemmas.Bool.Decides.{nat_tests, eqb_tells}
use Rattle.sim_base.specs.declared.signal.Level.{Level}
use Rattle.sim_base.specs.declared.wiring.Wiring.{Wiring}
use Rattle.sim_base.specs.declared.wiring.Input.{Input}
use Rattle.sim_base.specs.Rows.{Row}
use Rattle.part_law.specs.Machine.{Machine}
use Rattle.board_model.specs.Board.{level_at, own_nets, levels_of, input_from, input_at, part_step, steps_from, board_step, options, bytes_of, states, bytes}
use Rattle.board_model.specs.Rows.{Shown, shown_of, row_if, shown_before, rows}
use Rattle.board_model.specs.Fits.{AreInputs}
use Rattle.board_model.proofs.Lists.{some_same}
use Rattle.law_board.specs.Active.{sum_below, active_in, active_at, active_cycles, active_pairs}
use Rattle.law_board.specs.Scripts.{with_input, SaySame, SameRun}

not_here : (a b : ℕ) (c : Bool) → a ≢ b → (a == b && c) ≡ false
not_here a b c other = elim (eqb_tells a b) [ inl same ↦ absurd (other same.1) | inr different ↦ ap (λ (x : Bool). x && c) different.0 ]

-- a value of another cycle leaves what was found
passed : (x : Input) (found : Option ℕ) (xs : List Input) (t i : ℕ) → x.cycle ≢ t → input_from found (x ∷ xs) t i ≡ input_from found xs t i
passed x found xs t i other = ap (λ (b : Bool). input_from (if b then Some x.value else found) xs t i) (not_here x.cycle t (x.part == i) other)

-- one more value says nothing in other cycles
more_from : (xs : List Input) (x : Input) (found : Option ℕ) (t i : ℕ) → x.cycle ≢ t → input_from found (with_input xs x) t i ≡ input_from found xs t i
more_from [] x found t i other = passed x found [] t i other
more_from (y ∷ ys) x found t i other = here (nat_le y.cycle x.cycle) (more_from ys x (if y.cycle == t && y.part == i then Some y.value else found) t i other)
  where
    here : (b : Bool) → input_from found (y ∷ with_input ys x) t i ≡ input_from found (y ∷ ys) t i → input_from found (if b then y ∷ with_input ys x else x ∷ (y ∷ ys)) t i ≡ input_from found (y ∷ ys) t i
    here true same = same
    here false same = passed x found (y ∷ ys) t i other

-- before its cycle the script says what it did
pub says_same : (xs : List Input) (x : Input) (c n : ℕ) → c + n ≤ x.cycle → SaySame xs (with_input xs x) c n
says_same xs x c n h = λ t i (l : t < n). more_from xs x None (c + t) i (λ same. absurd (omega (arith, h, l, same)))

-- what holds of all values holds of one more, if it holds of that one
pub each_more : (Q : Input → Type 0) (xs : List Input) (x : Input) → Q x → ((k : ℕ) (y : Input) → slice_get xs k ≡ Some y → Q y) → (k : ℕ) (y : Input) → slice_get (with_input xs x) k ≡ Some y → Q y
each_more Q [] x q all zero y e = subst Q (some_same e) q
each_more Q [] x q all (suc k) y e = absurd cc
each_more Q (z ∷ zs) x q all k y e = here (nat_le z.cycle x.cycle) k (λ j ej. each_more Q zs x q (λ i v ev. all (suc i) v ev) j y ej) e
  where
    here : (b : Bool) (k : ℕ) → ((j : ℕ) → slice_get (with_input zs x) j ≡ Some y → Q y) → slice_get (if b then z ∷ with_input zs x else x ∷ (z ∷ zs)) k ≡ Some y → Q y
    here true zero more e = all 0 y e
    here true (suc k) more e = more k e
    here false zero more e = subst Q (some_same e) q
    here false (suc k) more e = all k y e

le_of : (a b : ℕ) → nat_le a b ≡ true → a ≤ b
le_of a b h = grind (arith, nat_tests)

gt_of : (a b : ℕ) → nat_le a b ≡ false → b < a
gt_of a b h = grind (arith, nat_tests)

-- cycles that do not fall
abbrev pub DoNotFall : List Input → Type 0
DoNotFall xs = (j k : ℕ) (a b : Input) → j ≤ k → slice_get xs j ≡ Some a → slice_get xs k ≡ Some b → a.cycle ≤ b.cycle

first_least : (y : Input) (ys : List Input) → ((k : ℕ) (b : Input) → slice_get ys k ≡ Some b → y.cycle ≤ b.cycle) → DoNotFall ys → DoNotFall (y ∷ ys)
first_least y ys least order zero zero a b l ea eb = let e : a.cycle ≡ b.cycle = ap (λ (z : Input). z.cycle) (some_same (sym ea ∙ eb)) in omega (arith, e)
first_least y ys least order zero (suc k) a b l ea eb = subst (λ (z : Input). z.cycle ≤ b.cycle) (some_same ea) (least k b eb)
first_least y ys least order (suc j) zero a b l ea eb = absurd (omega arith)
first_least y ys least order (suc j) (suc k) a b l ea eb = order j k a b (omega arith) ea eb

pub order_more : (xs : List Input) (x : Input) → DoNotFall xs → DoNotFall (with_input xs x)
order_more [] x order = first_least x [] (λ k b e. absurd cc) (λ j k a b l ea eb. absurd cc)
order_more (y ∷ ys) x order = here (nat_le y.cycle x.cycle) refl (order_more ys x (λ j k a b l ea eb. order (suc j) (suc k) a b (omega arith) ea eb))
  where
    least : (k : ℕ) (b : Input) → slice_get ys k ≡ Some b → y.cycle ≤ b.cycle
    least = λ k b e. order 0 (suc k) y b (omega arith) refl e

    above : x.cycle < y.cycle → (k : ℕ) (b : Input) → slice_get (y ∷ ys) k ≡ Some b → x.cycle ≤ b.cycle
    above less = λ k b e. let l : y.cycle ≤ b.cycle = order 0 k y b (omega arith) refl e in omega (arith, l, less)

    here : (b : Bool) → nat_le y.cycle x.cycle ≡ b → DoNotFall (with_input ys x) → DoNotFall (if b then y ∷ with_input ys x else x ∷ (y ∷ ys))
    here true is more = first_least y (with_input ys x) (each_more (λ (z : Input). y.cycle ≤ z.cycle) ys x (le_of y.cycle x.cycle is) least) more
    here false is more = first_least x (y ∷ ys) (above (gt_of y.cycle x.cycle is)) order

-- A script with one more value is one.
pub inputs_more : (count : ℕ) (xs : List Input) (x : Input) → AreInputs count xs → x.part < count → AreInputs count (with_input xs x)
inputs_more count xs x are here = record {
  in_order = order_more xs x are.in_order;
  for_parts = each_more (λ (y : Input). y.part < count) xs x here are.for_parts;
}

-- after values of later cycles that value still counts
later_leave : (xs : List Input) (found : Option ℕ) (t i : ℕ) → ((k : ℕ) (y : Input) → slice_get xs k ≡ Some y → t < y.cycle) → input_from found xs t i ≡ found
later_leave [] found t i later = refl
later_leave (y ∷ ys) found t i later =
    let l : t < y.cycle = later 0 y refl in
    passed y found ys t i (λ same. absurd (omega (arith, l, same))) ∙ later_leave ys found t i (λ k z e. later (suc k) z e)

same_here : (x : Input) → (x.cycle == x.cycle && x.part == x.part) ≡ true
same_here x = grind (arith, nat_tests)

last_from : (xs : List Input) (x : Input) (found : Option ℕ) → DoNotFall xs → input_from found (with_input xs x) x.cycle x.part ≡ Some x.value
last_from [] x found order = ap (λ (b : Bool). if b then Some x.value else found) (same_here x)
last_from (y ∷ ys) x found order =
    here (nat_le y.cycle x.cycle) refl (last_from ys x (if y.cycle == x.cycle && y.part == x.part then Some y.value else found) (λ j k a b l ea eb. order (suc j) (suc k) a b (omega arith) ea eb))
  where
    here : (b : Bool) → nat_le y.cycle x.cycle ≡ b → input_from found (y ∷ with_input ys x) x.cycle x.part ≡ Some x.value →
        input_from found (if b then y ∷ with_input ys x else x ∷ (y ∷ ys)) x.cycle x.part ≡ Some x.value
    here true is more = more
    here false is more =
        ap (λ (b : Bool). input_from (if b then Some x.value else found) (y ∷ ys) x.cycle x.part) (same_here x)
        ∙ later_leave (y ∷ ys) (Some x.value) x.cycle x.part (λ k z e. let l : y.cycle ≤ z.cycle = order 0 k y z (omega arith) refl e in omega (arith, l, gt_of y.cycle x.cycle is))

-- The value that was added is the one that counts in its cycle.
pub says_last : (xs : List Input) (x : Input) → DoNotFall xs → input_at (with_input xs x) x.cycle x.part ≡ Some x.value
says_last xs x order = last_from xs x None order

module _ {S : Type 0} (m : Machine S) (w : Wiring) (one other : List Input) where
  steps_same : (ls : List Level) (t i : ℕ) (ss : List S) → ((k : ℕ) → input_at other t k ≡ input_at one t k) → steps_from m w other ls t i ss ≡ steps_from m w one ls t i ss
  steps_same ls t i [] same = refl
  steps_same ls t i (s ∷ ss) same =
      let first : part_step m w other ls t i s ≡ part_step m w one ls t i s = ap (m.step s t (map (level_at ls) (own_nets w i (length (m.drives s))))) (same i) in
      let rest : steps_from m w other ls t (i + 1) ss ≡ steps_from m w one ls t (i + 1) ss = steps_same ls t (i + 1) ss same in
      cc

  step_same : (ss : List S) (t : ℕ) → ((k : ℕ) → input_at other t k ≡ input_at one t k) → board_step m w other ss t ≡ board_step m w one ss t
  step_same ss t same = ap (map (λ (r : S × Option ℕ). r.0)) (steps_same (levels_of m w ss) t 0 ss same)

  sent_same : (ss : List S) (t : ℕ) → ((k : ℕ) → input_at other t k ≡ input_at one t k) → bytes_of m w other ss t ≡ bytes_of m w one ss t
  sent_same ss t same = ap (λ (rs : List (S × Option ℕ)). options (map (λ (r : S × Option ℕ). r.1) rs)) (steps_same (levels_of m w ss) t 0 ss same)

  module _ (ss : List S) (c : ℕ) where
    script_states : (n : ℕ) → SaySame one other c n → states m w other ss c n ≡ states m w one ss c n
    unfolding states
    script_states zero same = refl
    script_states (suc n) same =
        ap (λ (l : List S). board_step m w other l (c + n)) (script_states n (λ t i (l : t < n). same t i (omega arith)))
        ∙ step_same (states m w one ss c n) (c + n) (λ i. same n i (omega arith))

    script_bytes : (n : ℕ) → SaySame one other c n → bytes m w other ss c n ≡ bytes m w one ss c n
    unfolding bytes
    script_bytes zero same = refl
    script_bytes (suc n) same =
        let less : SaySame one other c n = λ t i (l : t < n). same t i (omega arith) in
        ap (λ (l : List ℕ). l ++ bytes_of m w other (states m w other ss c n) (c + n)) (script_bytes n less)
        ∙ ap (λ (l : List S). bytes m w one ss c n ++ bytes_of m w other l (c + n)) (script_states n less)
        ∙ ap (λ (l : List ℕ). bytes m w one ss c n ++ l) (sent_same (states m w one ss c n) (c + n) (λ i. same n i (omega arith)))

    script_shown : (before : Option Shown) (n : ℕ) → SaySame one other c n → shown_before m w other before ss c n ≡ shown_before m w one before ss c n
    unfolding shown_before
    script_shown before zero same = refl
    script_shown before (suc n) same = ap (λ (l : List S). Some (shown_of m w l)) (script_states n (λ t i (l : t < n). same t i (omega arith)))

    script_rows : (before : Option Shown) (n : ℕ) → SaySame one other c n → rows m w other before ss c n ≡ rows m w one before ss c n
    unfolding rows
    script_rows before zero same = refl
    script_rows before (suc n) same =
        let less : SaySame one other c n = λ t i (l : t < n). same t i (omega arith) in
        ap (λ (l : List Row). l ++ row_if m w (shown_before m w other before ss c n) (states m w other ss c n) (c + n)) (script_rows before n less)
        ∙ ap (λ (o : Option Shown). rows m w one before ss c n ++ row_if m w o (states m w other ss c n) (c + n)) (script_shown before n less)
        ∙ ap (λ (l : List S). rows m w one before ss c n ++ row_if m w (shown_before m w one before ss c n) l (c + n)) (script_states n less)

    active_same : (ls : List Level) (t i : ℕ) (o : Option S) → input_at other t i ≡ input_at one t i → active_in m w other ls t i o ≡ active_in m w one ls t i o
    active_same ls t i None same = refl
    active_same ls t i (Some s) same = cc

    at_same : (n k i : ℕ) → k < n → SaySame one other c n → active_at m w other ss c i k ≡ active_at m w one ss c i k
    at_same n k i l same =
        ap (λ (q : List S). active_in m w other (levels_of m w q) (c + k) i (slice_get q i)) (script_states k (λ t j (h : t < k). same t j (omega arith)))
        ∙ active_same (levels_of m w (states m w one ss c k)) (c + k) i (slice_get (states m w one ss c k) i) (same k i l)

  sum_same : (n : ℕ) (f g : ℕ → ℕ) → ((k : ℕ) → k < n → f k ≡ g k) → sum_below n f ≡ sum_below n g
  sum_same zero f g same = refl
  sum_same (suc n) f g same = omega (arith, sum_same n f g (λ k (l : k < n). same k (omega arith)), same n (omega arith))

  -- Where two scripts say the same, a board runs alike.
  pub script_run : (before : Option Shown) (ss : List S) (c n : ℕ) → SaySame one other c n → SameRun m w one other before ss c n
  script_run before ss c n same = record {
    same_states = script_states ss c n same;
    same_shown = script_shown ss c before n same;
    same_rows = script_rows ss c before n same;
    same_bytes = script_bytes ss c n same;
    same_cycles = λ i. sum_same n (active_at m w other ss c i) (active_at m w one ss c i) (λ k l. at_same ss c n k i l same);
    same_pairs = sum_same n _ _ (λ k l. sum_same (length ss) (λ i. active_at m w other ss c i k) (λ i. active_at m w one ss c i k) (λ i h. at_same ss c n k i l same));
  }

-- A value that is given at a cycle or later has no effect on the cycles before.
pub given_later : {S : Type 0} (m : Machine S) (w : Wiring) (inputs : List Input) (x : Input) (before : Option Shown) (ss : List S) (c n : ℕ) → c + n ≤ x.cycle → SameRun m w inputs (with_input inputs x) before ss c n
given_later m w inputs x before ss c n h = script_run m w inputs (with_input inputs x) before ss c n (says_same inputs x c n h)
