-- Sets of parts, and the parts that have a pin on nets whose levels changed.
use Rattle.board_run.proofs.Common.{◌≡◌, ◌≢◌, ℕ, zero, suc, ◌+◌, ◌-◌, ◌*◌, ◌/◌, ◌%◌, ◌^◌, ◌<◌, ◌≤◌, max, List, [], ◌∷◌, length, map, take, drop, Bool, true}
use Rattle.board_run.proofs.Common.{false, not, Option, None, Some, refl, ap, sym, ◌∙◌, arith, subst, inl, inr, get_or, ◌||◌, ◌&&◌, ◌==◌, eqb, slice_get}
use Rattle.board_run.proofs.Common.{slice_index, slice_set, unwrap_or, bit_or, if◌then◌else◌, list_any, flat_map, bit_at, w64, eqb_tells, list_any_more}
use Rattle.board_run.proofs.Common.{bit_at_or, bit_at-zero, bit_at-lt, bit_at_set_same, bit_at_set_other, drop_more, slice_get_within, slice_get_past}
use Rattle.board_run.proofs.Common.{get_or_from_slice_get, Level, Wiring, Machine, Input, level_at, own_nets, input_from, same_list, same_level, Fits}
use Rattle.board_run.proofs.Common.{some_same, get_within, get_set_same, get_set_other, some_map, take_whole, level_same, list_same, levels_mean, AreChanged}
use Rattle.board_run.proofs.Common.{has, PartSet, has_part, end_of, part_nets, AreOn, levels_on, any_at, any_some}
use Rattle.std.proofs.lemmas.Nat.{shr-shr}
use Rattle.std.proofs.lemmas.Bool.{or_parts, and_right, eqb-true, eq-eqb}
use Rattle.std.proofs.Math.Bool.{or-true, or-false}
use Rattle.sim_base.specs.declared.signal.Level.TheVariants as levels
use Rattle.board_run.proofs.ReadLemmas.{less_or, place_more}

or_bits : (a b : ℕ) → a < 2 → b < 2 → (max a b == 1) ≡ ((a == 1) || (b == 1))
or_bits zero zero ha hb = refl
or_bits zero (suc zero) ha hb = refl
or_bits (suc zero) zero ha hb = refl
or_bits (suc zero) (suc zero) ha hb = refl
or_bits a b ha hb = absurd (omega arith)

-- the bits of two sets
pub and_is : (a b k : ℕ) → (bit_at (bit_or a b) k == 1) ≡ ((bit_at a k == 1) || (bit_at b k == 1))
and_is a b k = ap (λ (n : ℕ). n == 1) (bit_at_or a b k) ∙ or_bits (bit_at a k) (bit_at b k) (bit_at-lt a k) (bit_at-lt b k)

-- a set and one part
pub with_is : (n i k : ℕ) → i < 64 → (bit_at (bit_or n (1 * 2 ^ i % 2 ^ 64)) k == 1) ≡ ((bit_at n k == 1) || (k == i))
with_is n i k within = elim (eqb_tells k i) [
  | inl same ↦
      let set : bit_at (bit_or n (1 * 2 ^ i % 2 ^ 64)) k ≡ 1 = ap (bit_at (bit_or n (1 * 2 ^ i % 2 ^ 64))) same.1 ∙ bit_at_set_same w64 n i within in
      ap (λ (b : ℕ). b == 1) set ∙ sym (ap (λ (b : Bool). (bit_at n k == 1) || b) same.0 ∙ or-true (bit_at n k == 1))
  | inr other ↦
      ap (λ (b : ℕ). b == 1) (bit_at_set_other w64 n i within k other.1) ∙ sym (ap (λ (b : Bool). (bit_at n k == 1) || b) other.0 ∙ or-false (bit_at n k == 1))
]

pub none_has : (k : ℕ) → (bit_at 0 k == 1) ≡ false
none_has k = ap (λ (b : ℕ). b == 1) (bit_at-zero k)

-- no part is in a set from a number on, where no bit is left
pub none_from : (n from k : ℕ) → n / 2 ^ from ≡ 0 → from ≤ k → (bit_at n k == 1) ≡ false
none_from n from k none least =
    let e : from + (k - from) ≡ k = omega arith in
    let z : bit_at n k ≡ 0 = ap (bit_at n) (sym e) ∙ ap (λ x. x % 2) (sym (shr-shr n from (k - from))) ∙ ap (λ x. bit_at x (k - from)) none ∙ bit_at-zero (k - from) in
    ap (λ (b : ℕ). b == 1) z

-- the part at a place from a number on, where the bit there is set
pub one_at : (n from p : ℕ) → bit_at (n / 2 ^ from) p ≡ 1 → (bit_at n (from + p) == 1) ≡ true
one_at n from p set = ap (λ (b : ℕ). b == 1) (ap (λ (x : ℕ). x % 2) (sym (shr-shr n from p)) ∙ set)

-- and none before the least one that is
pub none_before : (n from p k : ℕ) → ((i : ℕ) → i < p → bit_at (n / 2 ^ from) i ≡ 0) → from ≤ k → k < from + p → (bit_at n k == 1) ≡ false
none_before n from p k none least more =
    let e : from + (k - from) ≡ k = omega arith in
    let z : bit_at n k ≡ 0 = ap (bit_at n) (sym e) ∙ ap (λ x. x % 2) (sym (shr-shr n from (k - from))) ∙ none (k - from) (omega arith) in
    ap (λ (b : ℕ). b == 1) z

any_false : {A : Type 0} (f : A → Bool) (xs : List A) → list_any f xs ≡ false → (j : ℕ) (x : A) → slice_get xs j ≡ Some x → f x ≡ false
any_false f [] e j x ex = absurd cc
any_false f (y ∷ xs) e zero x ex = ap f (sym (some_same ex)) ∙ (or_parts (f y) (list_any f xs) e).0
any_false f (y ∷ xs) e (suc j) x ex = any_false f xs (or_parts (f y) (list_any f xs) e).1 j x ex

-- one more net that part i has a pin on
pub put_more : (on : List PartSet) (nets : List ℕ) (i j n0 n k : ℕ) (a b c d : PartSet) → j < length nets → n0 ≡ get_or nets j 0 → slice_get on n0 ≡ Some c → has_part d k ≡ (has_part c k || (k == i)) →
    ((b : PartSet) → slice_get on n ≡ Some b → has_part b k ≡ (has_part a k || ((k == i) && list_any (eqb n) (take j nets)))) → slice_get (slice_set on n0 d) n ≡ Some b →
    has_part b k ≡ (has_part a k || ((k == i) && list_any (eqb n) (take (j + 1) nets)))
put_more on nets i j n0 n k a b c d within is_net ec ed before eb = elim (eqb_tells n n0) [
  | inl same ↦
      let b_is : d ≡ b = some_same (sym (get_set_same on n0 d (slice_get_within on n0 c ec)) ∙ ap (slice_get (slice_set on n0 d)) (sym same.1) ∙ eb) in
      let was = before c (ap (slice_get on) same.1 ∙ ec) in
      let this : eqb n (get_or nets j 0) ≡ true = eq-eqb n (get_or nets j 0) (same.1 ∙ is_net) in
      ap (λ (s : PartSet). has_part s k) (sym b_is) ∙ ed ∙ ap (λ (x : Bool). x || (k == i)) was ∙ both (has_part a k) (k == i) (list_any (eqb n) (take j nets))
      ∙ sym (ap (λ (x : Bool). has_part a k || ((k == i) && x)) (list_any_more (eqb n) nets j 0 within ∙ ap (λ (x : Bool). list_any (eqb n) (take j nets) || x) this))
  | inr other ↦
      let this : eqb n (get_or nets j 0) ≡ false = ap (eqb n) (sym is_net) ∙ other.0 in
      before b (sym (get_set_other on n0 n d other.1) ∙ eb)
      ∙ sym (ap (λ (x : Bool). has_part a k || ((k == i) && x)) (list_any_more (eqb n) nets j 0 within ∙ ap (λ (x : Bool). list_any (eqb n) (take j nets) || x) this ∙ or-false (list_any (eqb n) (take j nets))))
]
  where
    both : (a i x : Bool) → ((a || (i && x)) || i) ≡ (a || (i && (x || true)))
    both true i x = refl
    both false true x = or-true x ∙ sym (or-true x)
    both false false x = refl

module _ {S : Type 0} (m : Machine S) (w : Wiring) (ss : List S) (fits : Fits m w ss) where
  -- a part's pins end where the next part's begin
  pub end_is : (k : ℕ) (s : S) → slice_get ss k ≡ Some s → end_of w k ≡ slice_index w.first_pin k + length (m.drives s)
  end_is k s es =
      let place = fits.places k (slice_get_within ss k s es) in
      let more = place_more m.drives ss k s es in
      elim (less_or (k + 1) (length ss)) [
        | inl less ↦
            let e : slice_get w.first_pin (k + 1) ≡ Some (slice_index w.first_pin (k + 1)) = get_within w.first_pin (k + 1) 0 (omega (arith, fits.parts, less)) in
            ap (λ (o : Option ℕ). unwrap_or o (length w.net_of)) e ∙ fits.places (k + 1) less ∙ more ∙ ap (λ (n : ℕ). n + length (m.drives s)) (sym place)
        | inr all ↦
            let e : slice_get w.first_pin (k + 1) ≡ None = slice_get_past w.first_pin (k + 1) (omega (arith, fits.parts, all)) in
            let whole = ap (λ (xs : List S). length (flat_map m.drives xs)) (take_whole (k + 1) ss all) in
            ap (λ (o : Option ℕ). unwrap_or o (length w.net_of)) e ∙ fits.pins ∙ sym whole ∙ more ∙ ap (λ (n : ℕ). n + length (m.drives s)) (sym place)
      ]

  pub part_nets_are : (k : ℕ) (s : S) → slice_get ss k ≡ Some s → part_nets w k ≡ own_nets w k (length (m.drives s))
  part_nets_are k s es =
      let e : end_of w k - slice_index w.first_pin k ≡ length (m.drives s) = omega (arith, end_is k s es) in
      ap (λ (n : ℕ). take n (drop (slice_index w.first_pin k) w.net_of)) e

  module _ (before after : List Level) (changed : List ℕ) (on : List PartSet) (long : length before ≡ w.nets) (later : length after ≡ w.nets) (on_long : length on ≡ w.nets) (are : AreOn w on)
      (is : AreChanged before after changed) (valid : (j n : ℕ) → slice_get changed j ≡ Some n → n < w.nets) (none : PartSet) where
    -- the parts on the nets whose levels changed are those a level of whose pins did
    pub differ_is : (k : ℕ) (s : S) → slice_get ss k ≡ Some s → list_any (λ n. has_part (get_or on n none) k) changed ≡ not (same_list same_level (levels_on m w after k s) (levels_on m w before k s))
    differ_is k s es = go (list_any f changed) (same_list same_level (levels_on m w after k s) (levels_on m w before k s)) refl refl
      where
        ns : List ℕ
        ns = own_nets w k (length (m.drives s))

        f : ℕ → Bool
        f n = has_part (get_or on n none) k

        here : (j n : ℕ) → slice_get changed j ≡ Some n → f n ≡ list_any (eqb n) ns
        here j n en =
            let inside : k < length w.first_pin = omega (arith, fits.parts, slice_get_within ss k s es) in
            are n k (get_or on n none) (get_within on n none (omega (arith, on_long, valid j n en))) inside ∙ ap (list_any (eqb n)) (part_nets_are k s es)

        level_of : (ls : List Level) (n : ℕ) → n < length ls → slice_get ls n ≡ Some (level_at ls n)
        level_of ls n h = let e = get_within ls n levels.Z h in e ∙ ap Some (sym (ap (λ (o : Option Level). unwrap_or o levels.Z) e))

        alike : (xs : List ℕ) → ((i x : ℕ) → slice_get xs i ≡ Some x → level_at after x ≡ level_at before x) → map (level_at after) xs ≡ map (level_at before) xs
        alike [] h = refl
        alike (x ∷ xs) h = let a : level_at after x ≡ level_at before x = h 0 x refl in let b : map (level_at after) xs ≡ map (level_at before) xs = alike xs (λ i y e. h (suc i) y e) in cc

        level_kept : list_any f changed ≡ false → (i x : ℕ) → slice_get ns i ≡ Some x → level_at after x ≡ level_at before x
        level_kept e i x ex = by (has changed x) refl
          where
            by : (b : Bool) → has changed x ≡ b → level_at after x ≡ level_at before x
            by false gone = ap (λ (o : Option Level). unwrap_or o levels.Z) (is.others x gone)
            by true there_is =
                let r = any_some (eqb x) changed there_is in
                let there : list_any (eqb r.1) ns ≡ true = any_at (eqb r.1) ns i x ex (eq-eqb r.1 x (sym (eqb-true x r.1 r.3))) in
                absurd (let wrong : true ≡ false = sym there ∙ sym (here r.0 r.1 r.2) ∙ any_false f changed e r.0 r.1 r.2 in cc)

        go : (b c : Bool) → list_any f changed ≡ b → same_list same_level (levels_on m w after k s) (levels_on m w before k s) ≡ c → b ≡ not c
        go true false eb ec = refl
        go false true eb ec = refl
        go false false eb ec =
            let whole = alike ns (level_kept eb) in
            let all : same_list same_level (levels_on m w after k s) (levels_on m w before k s) ≡ true =
            ap (λ (l : List Level). same_list same_level l (map (level_at before) ns)) whole ∙ list_same same_level level_same (map (level_at before) ns) in
            absurd (let wrong : true ≡ false = sym all ∙ ec in cc)
        go true true eb ec =
            let r = any_some f changed eb in
            let n = r.1 in
            let q = any_some (eqb n) ns (sym (here r.0 n r.2) ∙ r.3) in
            let whole = levels_mean (map (level_at after) ns) (map (level_at before) ns) ec in
            let at : level_at after q.1 ≡ level_at before q.1 = some_same (sym (some_map (level_at after) ns q.0 q.1 q.2) ∙ ap (λ (l : List Level). slice_get l q.0) whole ∙ some_map (level_at before) ns q.0 q.1 q.2) in
            let at_n : level_at after n ≡ level_at before n = subst (λ (x : ℕ). level_at after x ≡ level_at before x) (sym (eqb-true n q.1 q.3)) at in
            let within = valid r.0 n r.2 in
            let kept : slice_get after n ≡ slice_get before n = level_of after n (omega (arith, later, within)) ∙ ap Some at_n ∙ sym (level_of before n (omega (arith, long, within))) in
            absurd (is.differ n (any_at (eqb n) changed r.0 n r.2 (eq-eqb n n refl)) kept)

pub drop_item : {A : Type 0} (xs : List A) (j : ℕ) (x : A) → slice_get xs j ≡ Some x → drop j xs ≡ x ∷ drop (j + 1) xs
drop_item {A} xs j x e =
    drop_more xs j x (slice_get_within xs j x e) ∙ ap (λ (z : A). z ∷ drop (j + 1) xs) (get_or_from_slice_get xs j x x e)

-- a script's value for another part
pub given_next : (given : List Input) (j t k : ℕ) (x : Input) → slice_get given j ≡ Some x → x.part ≢ k → input_from None (drop (j + 1) given) t k ≡ input_from None (drop j given) t k
given_next given j t k x e other =
    let apart : (x.part == k) ≡ false = elim (eqb_tells x.part k) [ inl same ↦ absurd (other same.1) | inr different ↦ different.0 ] in
    let none : (x.cycle == t && x.part == k) ≡ false = and_right (x.cycle == t) (x.part == k) apart in
    sym (ap (λ (l : List Input). input_from None l t k) (drop_item given j x e) ∙ ap (λ (b : Bool). input_from (if b then Some x.value else None) (drop (j + 1) given) t k) none)

-- a part that is put or not
pub put_here : (a : Bool) (i : ℕ) (x : Bool) → a ≡ false → (a || ((i == i) && x)) ≡ x
put_here a i x none = ap (λ (b : Bool). b || ((i == i) && x)) none ∙ ap (λ (b : Bool). b && x) (eq-eqb i i refl)

pub put_elsewhere : (a : Bool) (k i : ℕ) (x : Bool) → k ≢ i → (a || ((k == i) && x)) ≡ a
put_elsewhere a k i x other = elim (eqb_tells k i) [
  | inl same ↦ absurd (other same.1)
  | inr apart ↦ ap (λ (b : Bool). a || (b && x)) apart.0 ∙ or-false a
]

-- the nets of part i's pins, as they are read
pub part_nets_from : (w : Wiring) (firsts pins : List ℕ) (i end : ℕ) → firsts ≡ w.first_pin → pins ≡ w.net_of → end ≡ unwrap_or (slice_get firsts (i + 1)) (length pins) →
    take (end - get_or firsts i 0) (drop (get_or firsts i 0) pins) ≡ part_nets w i
part_nets_from w firsts pins i end is_firsts is_pins is_end =
    rw (is_end, is_firsts, is_pins) refl
