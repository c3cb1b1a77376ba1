-- How many rows of each pin are past.
use Rattle.std.proofs.Common.{◌≡◌, ◌≢◌, ◌<◌, ◌≤◌, inl, inr, ℕ, zero, suc, ◌+◌, List, [], ◌∷◌, length, drop, get_or, false, Option, None, Some, refl, sym, ap, ◌∙◌, subst, arith}
use Rattle.std.specs.Prelude.{replicate, slice_get, slice_index, slice_set}
use Rattle.std.proofs.lemmas.Bool.Decides.{eqb_tells}
use Rattle.std.proofs.lemmas.List.{drop_more, get_or-set_other, get_or-set_same, length-set}
use Rattle.std.proofs.lemmas.Option.{get_or_from_slice_get, slice_get_read, slice_get_within}
use Rattle.std.proofs.lemmas.Bool.{or_parts}
use Rattle.part_law.specs.declared.span.Span.{Span}
use Rattle.part_law.specs.Spans.{IsIn, no_pins}
use Rattle.law_board.specs.Player.{DriveRows, has_row}
use Rattle.trace_run.specs.Rows.{AreAllPast, AreCounts, ArePast, IsCount, IsNext, any_row, earlier}
use Rattle.trace_run.proofs.RowLemmas.{count_later, next_earlier}

some_is : (a b : DriveRows) → Some a ≡ Some b → a ≡ b
some_is a b e = cc

zeros : (n i : ℕ) → slice_index (replicate n 0) i ≡ 0
zeros zero zero = refl
zeros zero (suc i) = refl
zeros (suc n) zero = refl
zeros (suc n) (suc i) = zeros n i

-- no rows are past at any cycle
pub none_past : (pins : List DriveRows) (t n : ℕ) → AreAllPast pins t (replicate n 0)
none_past pins t n i rows at = subst (λ (m : ℕ). ArePast rows t m) (sym (zeros n i)) (record { bound = omega arith; past = λ k (l : k < 0). absurd (omega (arith, l)) })

-- those that are past at a cycle are at a later one
pub still_past : (pins : List DriveRows) (c t : ℕ) (counts : List ℕ) → c ≤ t → AreCounts pins c counts → AreAllPast pins t counts
still_past pins c t counts later are i rows at =
    let own = (are i rows at).past in
    record { bound = own.bound; past = λ k l. omega (arith, own.past k l, later) }

-- a pin has no row where none of the pins has
own_none : (pins : List DriveRows) (v i : ℕ) (rows : DriveRows) → slice_get pins i ≡ Some rows → any_row pins v ≡ false → has_row rows v ≡ false
own_none [] v zero rows at none = absurd cc
own_none [] v (suc i) rows at none = absurd cc
own_none (pin ∷ pins) v zero rows at none = ap (λ (x : DriveRows). has_row x v) (sym (some_is pin rows at)) ∙ (or_parts (has_row pin v) (any_row pins v) none).0
own_none (pin ∷ pins) v (suc i) rows at none = own_none pins v i rows at (or_parts (has_row pin v) (any_row pins v) none).1

pub counts_later : (pins : List DriveRows) (c to : ℕ) (counts : List ℕ) → c ≤ to → ((v : ℕ) → c < v → v ≤ to → any_row pins v ≡ false) → AreCounts pins c counts → AreCounts pins to counts
counts_later pins c to counts later none are i rows at = count_later rows c (slice_index counts i) (are i rows at) to later (λ v h l. own_none pins v i rows at (none v h l))

-- that of a pin which was read
pub count_of : (pins : List DriveRows) (t i : ℕ) (counts : List ℕ) (rows : DriveRows) → AreCounts pins t counts → i < length pins → rows ≡ get_or pins i rows → IsCount rows t (slice_index counts i)
count_of pins t i counts rows are less is = are i rows (slice_get_read pins (length pins) i rows refl less is)

-- the pins from i on are counted anew
pub record Counted (pins : List DriveRows) (t : ℕ) (old counts : List ℕ) (next : Option ℕ) (moved : Span) (i : ℕ) : Type 0 where
  pub within : i ≤ length pins
  pub long : length counts ≡ 64
  pub next_is : IsNext (any_row (drop i pins)) t next
  pub rest : (k : ℕ) → k < i → slice_index counts k ≡ slice_index old k
  pub done : (k : ℕ) (rows : DriveRows) → i ≤ k → slice_get pins k ≡ Some rows → IsCount rows t (slice_index counts k)
  pub same : (k : ℕ) → ¬ IsIn moved k → slice_index counts k ≡ slice_index old k

none_left : (pins : List DriveRows) (v : ℕ) → any_row (drop (length pins) pins) v ≡ false
none_left [] v = refl
none_left (pin ∷ pins) v = none_left pins v

pub counted_none : (pins : List DriveRows) (t : ℕ) (counts : List ℕ) → length counts ≡ 64 → Counted pins t counts counts None no_pins (length pins)
counted_none pins t counts long = record {
  within = omega arith;
  long = long;
  next_is = λ v h. none_left pins v;
  rest = λ k l. refl;
  done = λ k rows (h : length pins ≤ k) at. absurd (omega (arith, h, slice_get_within pins k rows at));
  same = λ k out. refl;
}

pub counted_more : (pins : List DriveRows) (t : ℕ) (old counts : List ℕ) (next first : Option ℕ) (moved span : Span) (i n : ℕ) (rows : DriveRows) → length pins ≤ 64 →
    Counted pins t old counts next moved (i + 1) → slice_get pins i ≡ Some rows → IsCount rows t n → IsNext (has_row rows) t first →
    ((k : ℕ) → ¬ IsIn span k → (¬ IsIn moved k) × (k ≡ i → n ≡ slice_index counts i)) → Counted pins t old (slice_set counts i n) (earlier first next) span i
counted_more pins t old counts next first moved span i n rows few was at count own out =
    let less : i < length pins = slice_get_within pins i rows at in
    let room : i < length counts = omega (arith, less, few, was.long) in
    let here : drop i pins ≡ rows ∷ drop (i + 1) pins = drop_more pins i rows less ∙ ap (λ (x : DriveRows). x ∷ drop (i + 1) pins) (get_or_from_slice_get pins i rows rows at) in
    let set : slice_index (slice_set counts i n) i ≡ n = get_or-set_same counts i n 0 room in
    let other : (k : ℕ) → k ≢ i → slice_index (slice_set counts i n) k ≡ slice_index counts k = λ k off. get_or-set_other counts i k n 0 off in
    record {
      within = omega (arith, less);
      long = length-set counts i n ∙ was.long;
      next_is = subst (λ (l : List DriveRows). IsNext (any_row l) t (earlier first next)) (sym here) (next_earlier (has_row rows) (any_row (drop (i + 1) pins)) t first next own was.next_is);
      rest = λ k (l : k < i). other k (λ e. absurd (omega (arith, l, e))) ∙ was.rest k (omega (arith, l));
      done = λ k r (h : i ≤ k) e. elim (eqb_tells k i) [
        | inl same ↦
            let is : rows ≡ r = some_is rows r (sym at ∙ ap (λ (m : ℕ). slice_get pins m) (sym same.1) ∙ e) in
            let now : slice_index (slice_set counts i n) k ≡ n = ap (λ (m : ℕ). slice_index (slice_set counts i n) m) same.1 ∙ set in
            subst (λ (x : DriveRows). IsCount x t (slice_index (slice_set counts i n) k)) is (subst (λ (m : ℕ). IsCount rows t m) (sym now) count)
        | inr off ↦ let apart = off.1 in subst (λ (m : ℕ). IsCount r t m) (sym (other k off.1)) (was.done k r (omega (arith, h, apart)) e)
      ];
      same = λ k un. elim (eqb_tells k i) [
        | inl same ↦
            ap (λ (m : ℕ). slice_index (slice_set counts i n) m) same.1 ∙ set ∙ (out k un).1 same.1
            ∙ ap (λ (m : ℕ). slice_index counts m) (sym same.1) ∙ was.same k (out k un).0
        | inr off ↦ other k off.1 ∙ was.same k (out k un).0
      ];
    }
