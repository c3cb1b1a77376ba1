-- It does not matter in which order parts are moved.
use Rattle.std.proofs.Common.{◌≡◌, ◌≢◌, inl, inr, ℕ, zero, suc, ◌+◌, ◌<◌, List, [], ◌∷◌, ◌++◌, ◌∙◌, length, map, Bool, true, false, Option, None, Some, refl, ap, sym, arith, subst, get_or, length-set}
use Rattle.std.specs.Prelude.{slice_get, ◌==◌, ◌||◌}
use Rattle.std.specs.List.{list_any, IsDistinct, AllByRecursion}
use Rattle.std.proofs.lemmas.Bool.Decides.{nat_tests, eqb_tells}
use Rattle.std.proofs.lemmas.Option.{slice_get_within}
use Rattle.std.proofs.lemmas.List.{length-map}
use Rattle.std.proofs.lemmas.List.Sorted.{list_any-IsPermutation}
use Rattle.std.proofs.lemmas.Map.Keys.{IsDistinct-IsPermutation, IsDistinct-from_apart, IsDistinct-head, IsDistinct-tail}
use Rattle.std.proofs.Math.Bool.{or-true}
use Rattle.sim_base.specs.declared.signal.Level.{Level}
use Rattle.sim_base.specs.declared.wiring.Wiring.{Wiring}
use Rattle.sim_base.specs.declared.wiring.Input.{Input}
use Rattle.sim_base.specs.Rows.{Row}
use Rattle.part_law.specs.Machine.{Machine}
use Rattle.board_model.specs.Walks.{below}
use Rattle.board_model.specs.Board.{levels_of, part_step, steps_from, options, states, bytes}
use Rattle.board_model.specs.Rows.{Shown, shown_of, row_if, shown_before, rows}
use Rattle.board_model.proofs.Lists.{some_same, some_map, get_within, get_set_same, get_set_other, same_lists, get-below, length-below}
use Rattle.law_board.specs.Orders.{IsOrder, move_part, move_parts, moved_in, states_in, bytes_in, shown_before_in, rows_in, SameInOrders}
use Rattle.board_model.proofs.Steps.{length-steps_from, get-steps_from, length-states}

-- whether k is among these
abbrev has : ℕ → List ℕ → Bool
has k xs = list_any (λ j. k == j) xs

same_number : (k : ℕ) → (k == k) ≡ true
same_number k = grind (arith, nat_tests)

flips : (x y : ℕ) → (x == y) ≡ (y == x)
flips x y = grind (arith, nat_tests)

less_differ : (x y : ℕ) → x < y → (x == y) ≡ false
less_differ x y h = grind (arith, nat_tests)

has_at : (xs : List ℕ) (j k : ℕ) → slice_get xs j ≡ Some k → has k xs ≡ true
has_at [] j k e = absurd cc
has_at (x ∷ xs) zero k e = ap (λ (b : Bool). b || has k xs) (ap (λ (y : ℕ). k == y) (some_same e) ∙ same_number k)
has_at (x ∷ xs) (suc j) k e = ap (λ (b : Bool). (k == x) || b) (has_at xs j k e) ∙ or-true (k == x)

absent : (k : ℕ) (xs : List ℕ) → AllByRecursion (λ y. (k == y) ≡ false) xs → has k xs ≡ false
absent k [] h = refl
absent k (x ∷ xs) h = ap (λ (b : Bool). b || has k xs) h.0 ∙ absent k xs h.1

distinct_below : (n : ℕ) → IsDistinct (λ x y. x == y) (below n)
distinct_below n = IsDistinct-from_apart (λ x y. x == y) (below n) (λ i j d ij lj.
    let l : j < n = omega (arith, lj, length-below n) in
    let li : i < length (below n) = omega (arith, ij, lj) in
    let lj' : j < length (below n) = lj in
    let ei : get_or (below n) i d ≡ i = some_same (sym (get_within (below n) i d li) ∙ get-below n i (omega (arith, ij, l))) in
    let ej : get_or (below n) j d ≡ j = some_same (sym (get_within (below n) j d lj') ∙ get-below n j l) in
    ap (λ (x : ℕ). x == get_or (below n) j d) ei ∙ ap (λ (y : ℕ). i == y) ej ∙ less_differ i j ij)

order_distinct : (n : ℕ) (order : List ℕ) → IsOrder n order → IsDistinct (λ x y. x == y) order
order_distinct n order is = IsDistinct-IsPermutation (λ x y. x == y) flips (below n) order is (distinct_below n)

order_has : (n : ℕ) (order : List ℕ) → IsOrder n order → (k : ℕ) → k < n → has k order ≡ true
order_has n order is k h = sym (list_any-IsPermutation (λ j. k == j) (below n) order is) ∙ has_at (below n) k k (get-below n k h)

module _ {S : Type 0} (m : Machine S) (w : Wiring) (inputs : List Input) (ls : List Level) (t : ℕ) (ss : List S) where
  -- what part k is where it waits, and where it was moved
  on_way : Bool → ℕ → S → S × Option ℕ
  on_way true k s = (s, None)
  on_way false k s = part_step m w inputs ls t k s

  -- the parts in this list wait, and the others were moved
  record Midway (order : List ℕ) (parts : List (S × Option ℕ)) : Type 0 where
    long : length parts ≡ length ss
    each : (k : ℕ) (s : S) → slice_get ss k ≡ Some s → slice_get parts k ≡ Some (on_way (has k order) k s)

  long_move : (i : ℕ) (o : Option (S × Option ℕ)) (parts : List (S × Option ℕ)) → length (move_part m w inputs ls t i o parts) ≡ length parts
  long_move i None parts = refl
  long_move i (Some p) parts = length-set parts i _

  other_move : (i k : ℕ) (o : Option (S × Option ℕ)) (parts : List (S × Option ℕ)) → k ≢ i → slice_get (move_part m w inputs ls t i o parts) k ≡ slice_get parts k
  other_move i k None parts h = refl
  other_move i k (Some p) parts h = get_set_other parts i k _ h

  midway_more : (i : ℕ) (order : List ℕ) (parts : List (S × Option ℕ)) → has i order ≡ false → Midway (i ∷ order) parts → Midway order (move_part m w inputs ls t i (slice_get parts i) parts)
  unfolding on_way
  midway_more i order parts once mid = record {
    long = long_move i (slice_get parts i) parts ∙ mid.long;
    each = λ k s e. elim (eqb_tells k i) [
      | inl same ↦
          let ek : k ≡ i = same.1 in
          let waits : slice_get parts k ≡ Some (s, None) = mid.each k s e ∙ ap (λ (b : Bool). Some (on_way (b || has k order) k s)) same.0 in
          let waits_i : slice_get parts i ≡ Some (s, None) = subst (λ (j : ℕ). slice_get parts j ≡ Some (s, None)) ek waits in
          let within : i < length parts = slice_get_within parts i (s, None) waits_i in
          let after : slice_get (move_part m w inputs ls t i (slice_get parts i) parts) i ≡ Some (part_step m w inputs ls t i s) =
          ap (λ (o : Option (S × Option ℕ)). slice_get (move_part m w inputs ls t i o parts) i) waits_i ∙ get_set_same parts i (part_step m w inputs ls t i s) within in
          let none : has k order ≡ false = ap (λ (j : ℕ). has j order) ek ∙ once in
          subst (λ (j : ℕ). slice_get (move_part m w inputs ls t i (slice_get parts i) parts) j ≡ Some (part_step m w inputs ls t j s)) (sym ek) after
          ∙ ap (λ (b : Bool). Some (on_way b k s)) (sym none)
      | inr differ ↦ other_move i k (slice_get parts i) parts differ.1 ∙ mid.each k s e ∙ ap (λ (b : Bool). Some (on_way (b || has k order) k s)) differ.0
    ];
  }

  midway_all : (order : List ℕ) (parts : List (S × Option ℕ)) → IsDistinct (λ x y. x == y) order → Midway order parts → Midway [] (move_parts m w inputs ls t order parts)
  midway_all [] parts distinct mid = mid
  midway_all (i ∷ order) parts distinct mid =
      midway_all order (move_part m w inputs ls t i (slice_get parts i) parts) (IsDistinct-tail (λ x y. x == y) i order distinct)
      (midway_more i order parts (absent i order (IsDistinct-head (λ x y. x == y) i order distinct)) mid)

  -- In every order the parts end as their steps.
  pub moved_all : (order : List ℕ) → IsOrder (length ss) order → move_parts m w inputs ls t order (map (λ s. (s, None)) ss) ≡ steps_from m w inputs ls t 0 ss
  unfolding on_way
  moved_all order is =
      let start : Midway order (map (λ s. (s, None)) ss) = record {
        long = simp length-map refl;
        each = λ k s e. some_map (λ s. (s, None)) ss k s e ∙ ap (λ (b : Bool). Some (on_way b k s)) (sym (order_has (length ss) order is k (slice_get_within ss k s e)));
      } in
      let end = midway_all order (map (λ s. (s, None)) ss) (order_distinct (length ss) order is) start in
      same_lists (move_parts m w inputs ls t order (map (λ s. (s, None)) ss)) (steps_from m w inputs ls t 0 ss) (end.long ∙ sym (length-steps_from m w inputs ls t 0 ss)) (λ k x y ex ey.
      let within : k < length ss = omega (arith, slice_get_within (steps_from m w inputs ls t 0 ss) k y ey, length-steps_from m w inputs ls t 0 ss) in
      let s = get_or ss k x.0 in
      let here : slice_get ss k ≡ Some s = get_within ss k x.0 within in
      some_same (sym ex ∙ end.each k s here ∙ sym (get-steps_from m w inputs ls t k ss s here) ∙ ey))

module _ {S : Type 0} (m : Machine S) (w : Wiring) (inputs : List Input) (orders : ℕ → List ℕ) (ss : List S) (c : ℕ) where
  same_moved : (n : ℕ) → states_in m w inputs orders ss c n ≡ states m w inputs ss c n → IsOrder (length ss) (orders n) →
      moved_in m w inputs (orders n) (states_in m w inputs orders ss c n) (c + n) ≡ steps_from m w inputs (levels_of m w (states m w inputs ss c n)) (c + n) 0 (states m w inputs ss c n)
  same_moved n same is =
      ap (λ (l : List S). moved_in m w inputs (orders n) l (c + n)) same
      ∙ moved_all m w inputs (levels_of m w (states m w inputs ss c n)) (c + n) (states m w inputs ss c n) (orders n) (subst (λ (k : ℕ). IsOrder k (orders n)) (sym (length-states m w inputs ss c n)) is)

  pub states_in_orders : (n : ℕ) → ((k : ℕ) → k < n → IsOrder (length ss) (orders k)) → states_in m w inputs orders ss c n ≡ states m w inputs ss c n
  unfolding states_in states
  states_in_orders zero are = refl
  states_in_orders (suc n) are =
      ap (λ (l : List (S × Option ℕ)). map (λ r. r.0) l) (same_moved n (states_in_orders n (λ k (h : k < n). are k (omega arith))) (are n (omega arith)))

  pub bytes_in_orders : (n : ℕ) → ((k : ℕ) → k < n → IsOrder (length ss) (orders k)) → bytes_in m w inputs orders ss c n ≡ bytes m w inputs ss c n
  unfolding bytes_in bytes
  bytes_in_orders zero are = refl
  bytes_in_orders (suc n) are =
      let before : (k : ℕ) → k < n → IsOrder (length ss) (orders k) = λ k (h : k < n). are k (omega arith) in
      let moved = same_moved n (states_in_orders n before) (are n (omega arith)) in
      ap (λ (l : List ℕ). l ++ options (map (λ r. r.1) (moved_in m w inputs (orders n) (states_in m w inputs orders ss c n) (c + n)))) (bytes_in_orders n before)
      ∙ ap (λ (l : List (S × Option ℕ)). bytes m w inputs ss c n ++ options (map (λ r. r.1) l)) moved

  shown_in_orders : (before : Option Shown) (n : ℕ) → ((k : ℕ) → k < n → IsOrder (length ss) (orders k)) → shown_before_in m w inputs orders before ss c n ≡ shown_before m w inputs before ss c n
  unfolding shown_before_in shown_before
  shown_in_orders before zero are = refl
  shown_in_orders before (suc n) are = ap (λ (l : List S). Some (shown_of m w l)) (states_in_orders n (λ k (h : k < n). are k (omega arith)))

  pub rows_in_orders : (before : Option Shown) (n : ℕ) → ((k : ℕ) → k < n → IsOrder (length ss) (orders k)) → rows_in m w inputs orders before ss c n ≡ rows m w inputs before ss c n
  unfolding rows_in rows
  rows_in_orders before zero are = refl
  rows_in_orders before (suc n) are =
      let first : (k : ℕ) → k < n → IsOrder (length ss) (orders k) = λ k (h : k < n). are k (omega arith) in
      ap (λ (l : List Row). l ++ row_if m w (shown_before_in m w inputs orders before ss c n) (states_in m w inputs orders ss c n) (c + n)) (rows_in_orders before n first)
      ∙ ap (λ (b : Option Shown). rows m w inputs before ss c n ++ row_if m w b (states_in m w inputs orders ss c n) (c + n)) (shown_in_orders before n first)
      ∙ ap (λ (l : List S). rows m w inputs before ss c n ++ row_if m w (shown_before m w inputs before ss c n) l (c + n)) (states_in_orders n first)

  pub in_orders : (before : Option Shown) (n : ℕ) → ((k : ℕ) → k < n → IsOrder (length ss) (orders k)) → SameInOrders m w inputs orders before ss c n
  in_orders before n are = record { same_states = states_in_orders n are; same_rows = rows_in_orders before n are; same_bytes = bytes_in_orders n are }
