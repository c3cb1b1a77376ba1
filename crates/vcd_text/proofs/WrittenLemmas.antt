-- The values of a row, one more written at a time.
use Rattle.std.proofs.Common.{◌≡◌, ◌≢◌, ◌<◌, ◌≤◌, ◌+◌, ◌++◌, ◌∙◌, ◌==◌, ℕ, false, List, [], length, drop, get_or, if◌then◌else◌, refl, ap, sym, subst, inl, inr, arith}
use Rattle.std.specs.Prelude.{slice_set, slice_index}
use Rattle.std.proofs.lemmas.Bool.{cases_lt}
use Rattle.std.proofs.lemmas.Bool.Decides.{eqb_tells}
use Rattle.std.proofs.lemmas.List.{append-nil, get_or-set_same, get_or-set_other, length-set}
use Rattle.text_model.specs.Wave.{value_line, changes, change_count}
use Rattle.vcd_text.specs.Buffers.{BufferState}
use Rattle.vcd_text.specs.Written.{IsWritten}
use Rattle.vcd_text.proofs.WaveLemmas.{changes_more, no_changes, count_more, no_count, changes_to, count_to, same_items, state_is}

pub written_none : (last new : List ℕ) (from : BufferState) → IsWritten last new from 0 0 last from
written_none last new from = record {
  text = refl;
  room = refl;
  short = omega arith;
  counted = omega arith;
  few = omega arith;
  long = refl;
  done = λ k less. absurd (omega (arith, less));
  rest = λ k least. refl;
}

-- values that are what they were are passed over
pub written_far : (last new : List ℕ) (from : BufferState) (i j count : ℕ) (values : List ℕ) (out : BufferState) → i ≤ j → length last ≡ length new →
    ((k : ℕ) → i ≤ k → k < j → slice_index last k ≡ slice_index new k) → IsWritten last new from i count values out → IsWritten last new from j count values out
written_far last new from i j count values out order long same w = record {
  text = ap (λ (l : List ℕ). out.text ++ l) (sym (changes_to i j last new order long same)) ∙ w.text;
  room = w.room;
  short = let short = w.short in omega (arith, short, order);
  counted = let counted = w.counted in omega (arith, counted, count_to i j last new order long same);
  few = let few = w.few in omega (arith, few, order);
  long = w.long;
  done = λ k less. elim (cases_lt k i) [
    | inl under ↦ w.done k under
    | inr over ↦ w.rest k over ∙ same k over less
  ];
  rest = λ k least. w.rest k (omega (arith, least, order));
}

-- a value that is what it was is left
pub written_same : (last new : List ℕ) (from : BufferState) (i count : ℕ) (values : List ℕ) (out : BufferState) → length last ≡ length new → slice_index values i ≡ slice_index new i →
    IsWritten last new from i count values out → IsWritten last new from (i + 1) (count + 0) values out
written_same last new from i count values out long same w =
    let none : count ≡ count + 0 = omega arith in
    let here : (k : ℕ) → i ≤ k → k < i + 1 → slice_index last k ≡ slice_index new k = λ k least less.
    let at : i ≡ k = omega (arith, least, less) in
    subst (λ (m : ℕ). slice_index last m ≡ slice_index new m) at (sym (w.rest i (omega arith)) ∙ same) in
    subst (λ (n : ℕ). IsWritten last new from (i + 1) n values out) none (written_far last new from i (i + 1) count values out (omega arith) long here w)

-- another value is put in place, and its line written
pub written_more : (last new : List ℕ) (from : BufferState) (i count v : ℕ) (values : List ℕ) (a b : BufferState) → i < length values → length last ≡ length new → v ≡ slice_index new i →
    slice_index values i ≢ v → b ≡ record a { text = a.text ++ value_line i v } → length b.text ≤ length a.text + 4 →
    IsWritten last new from i count values a → IsWritten last new from (i + 1) (count + 1) (slice_set values i v) b
written_more last new from i count v values a b less long value other text short w =
    let long_now = w.long in
    let old_long : i < length last = omega (arith, less, long_now) in
    let new_long : i < length new = omega (arith, old_long, long) in
    let before : get_or values i 0 ≡ get_or last i 0 = w.rest i (omega arith) in
    let off : (get_or last i 0 == get_or new i 0) ≡ false = elim (eqb_tells (get_or last i 0) (get_or new i 0)) [
      | inl same ↦ absurd (other (before ∙ same.1 ∙ sym value))
      | inr far ↦ far.0
    ] in
    let one : ◌≡◌ {A = ℕ} 1 (if get_or last i 0 == get_or new i 0 then 0 else 1) = rw off refl in
    let line : value_line i v ≡ (if get_or last i 0 == get_or new i 0 then [] else value_line i (get_or new i 0)) = ap (λ (x : ℕ). value_line i x) value ∙ rw off refl in
    record {
      text = ap (λ (s : BufferState). s.text ++ changes (i + 1) (drop (i + 1) last) (drop (i + 1) new)) text
          ∙ ap (λ (l : List ℕ). (a.text ++ l) ++ changes (i + 1) (drop (i + 1) last) (drop (i + 1) new)) line
          ∙ sym (changes_more a.text i last new old_long new_long)
          ∙ w.text;
      room = ap (λ (s : BufferState). s.room) text ∙ w.room;
      short = let was = w.short in omega (arith, short, was);
      counted = let was = w.counted in omega (arith, one, count_more i last new old_long new_long, was);
      few = let was = w.few in omega (arith, was);
      long = length-set values i v ∙ w.long;
      done = λ k to. elim (eqb_tells k i) [
        | inl at ↦ subst (λ (m : ℕ). slice_index (slice_set values i v) m ≡ slice_index new m) (sym at.1) (get_or-set_same values i v 0 less ∙ value)
        | inr off ↦ let apart = off.1 in get_or-set_other values i k v 0 off.1 ∙ w.done k (omega (arith, to, apart))
      ];
      rest = λ k least. get_or-set_other values i k v 0 (λ (e : k ≡ i). omega (arith, e, least)) ∙ w.rest k (omega (arith, least));
    }

-- all are written
pub written_all : (last new : List ℕ) (from : BufferState) (i count : ℕ) (values : List ℕ) (out : BufferState) → length last ≤ i → length last ≡ length new → IsWritten last new from i count values out →
    (values ≡ new) × (out ≡ record from { text = from.text ++ changes 0 last new }) × (count ≡ change_count last new)
written_all last new from i count values out past long w =
    let values_long = w.long in
    let none : changes i (drop i last) (drop i new) ≡ [] = no_changes i last new (omega (arith, long, past)) in
    let counted = w.counted in (
      same_items values new (values_long ∙ long) (λ k less. w.done k (omega (arith, less, values_long, past))),
      state_is out _ _ (sym (append-nil out.text) ∙ ap (λ (l : List ℕ). out.text ++ l) (sym none) ∙ w.text) w.room,
      omega (arith, no_count i last new (omega (arith, long, past)), counted),
    )
