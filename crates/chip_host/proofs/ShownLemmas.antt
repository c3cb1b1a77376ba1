-- What a chip's pins drive, as it is kept.
use Rattle.std.proofs.Common.{◌≡◌, ◌≢◌, ◌<◌, ◌≤◌, ◌+◌, ◌⊎◌, inl, inr, ℕ, zero, suc, List, [], ◌∷◌, length, map, false, Some, refl, ap, sym, ◌∙◌, arith}
use Rattle.std.proofs.Common.{get_or}
use Rattle.std.specs.Prelude.{min, nat_lt, slice_get, slice_set}
use Rattle.std.specs.List.{range_with_len}
use Rattle.std.proofs.lemmas.Option.{slice_get_past, slice_get_read}
use Rattle.sim_base.specs.declared.signal.Drive.{Drive}
use Rattle.part_law.specs.declared.span.Span.{Span}
use Rattle.sim_base.specs.declared.signal.Level.{Level}
use Rattle.part_law.specs.Spans.{IsIn, is_in}
use Rattle.part_law.proofs.SpanLemmas.{none_in, not_in_span}
use Rattle.chip_host.specs.Chip.{Chip, ChipAt, chip, chip_drive, chip_step}
use Rattle.chip_host.specs.Inventory.{Given}
use Rattle.chip_host.specs.ChipLaws.{Fixed, drive_count, step_fixed}
use Rattle.chip_host.specs.Shown.{Shows, DrivesBut}
use Rattle.chip_host.proofs.HostLemmas.{get_set, length_set}
use Rattle.chip_host.proofs.ChipLemmas.{drive_at, keeping, waking}

get_other : (ds : List Drive) (i k : ℕ) (d : Drive) → k ≢ i → slice_get (slice_set ds i d) k ≡ slice_get ds k
get_other [] i k d other = refl
get_other (x ∷ xs) zero zero d other = absurd (other refl)
get_other (x ∷ xs) zero (suc k) d other = refl
get_other (x ∷ xs) (suc i) zero d other = refl
get_other (x ∷ xs) (suc i) (suc k) d other = get_other xs i k d (λ e. other (ap (λ (n : ℕ). suc n) e))

-- What was kept at first and is now, where the pins of a span are still to be found.
pub record Kept (s : Chip) (old now : List Drive) (moved rest : Span) : Type 0 where
  pub room : length now ≡ length old
  pub found : (k : ℕ) → k < length old → ¬ IsIn rest k → slice_get now k ≡ Some (chip_drive s k)
  pub same : (k : ℕ) → k < length old → ¬ IsIn moved k → slice_get now k ≡ slice_get old k

pub kept_first : (s : Chip) (ds : List Drive) (moved span : Span) (from : ℕ) → ((k : ℕ) → k < length ds → ¬ IsIn span k → slice_get ds k ≡ Some (chip_drive s k)) → from ≡ span.from → Kept s ds ds moved (record { from = from; to = span.to })
kept_first s ds moved span from others first = record {
  room = refl;
  found = λ k (l : k < length ds) (left : ¬ IsIn (record { from = from; to = span.to }) k). others k l (λ (h : IsIn span k). left (omega (arith, first, h.0), h.1));
  same = λ k l out. refl;
}

is_or : (k i : ℕ) → (k ≡ i) ⊎ (k ≢ i)
is_or k i = grind arith

pub kept_more : (s : Chip) (old now after : List Drive) (moved span : Span) (i to : ℕ) (d : Drive) → Kept s old now moved (record { from = i; to = to }) → i < length now → d ≡ chip_drive s i → after ≡ slice_set now i d
    → ((k : ℕ) → ¬ IsIn span k → (¬ IsIn moved k) × (k ≡ i → slice_get now i ≡ Some d)) → Kept s old after span (record { from = i + 1; to = to })
kept_more s old now after moved span i to d kept l is put out =
    let here : slice_get after i ≡ Some d = ap (λ (ds : List Drive). slice_get ds i) put ∙ get_set now i d l in
    let there : (k : ℕ) → k ≢ i → slice_get after k ≡ slice_get now k = λ k other. ap (λ (ds : List Drive). slice_get ds k) put ∙ get_other now i k d other in
    record {
      room = ap (λ (ds : List Drive). length ds) put ∙ length_set now i d ∙ kept.room;
      found = λ k (b : k < length old) (left : ¬ IsIn (record { from = i + 1; to = to }) k). elim (is_or k i) [
        | inl e ↦ ap (λ (n : ℕ). slice_get after n) e ∙ here ∙ ap (λ (x : Drive). Some x) is ∙ ap (λ (n : ℕ). Some (chip_drive s n)) (sym e)
        | inr other ↦ there k other ∙ kept.found k b (λ (h : IsIn (record { from = i; to = to }) k). left (omega (arith, h.0, other), h.1))
      ];
      same = λ k (b : k < length old) un. elim (is_or k i) [
        | inl e ↦ ap (λ (n : ℕ). slice_get after n) e ∙ here ∙ sym ((out k un).1 e) ∙ ap (λ (n : ℕ). slice_get now n) (sym e) ∙ kept.same k b (out k un).0
        | inr other ↦ there k other ∙ kept.same k b (out k un).0
      ];
    }

pub below_both : (i n a b : ℕ) → i < n → n ≡ min a b → i < a
below_both i n a b l e = grind (arith, l, e)

-- pins that drive what they drove are kept well
pub kept_but : (s r : Chip) (ds : List Drive) (span : Span) → Shows s ds → length ds ≤ 64 → DrivesBut span r s → (k : ℕ) → k < length ds → ¬ IsIn span k → slice_get ds k ≡ Some (chip_drive r k)
kept_but s r ds span shows few but k l out = shows k l ∙ ap (λ (d : Drive). Some d) (sym (but k (omega (arith, few, l)) out))

some_same : (a b : Drive) → Some a ≡ Some b → a ≡ b
some_same a b e = cc

-- a pin of which the same is kept drives the same
pub pin_same : (s r : Chip) (ds es : List Drive) (k : ℕ) → Shows s ds → Shows r es → length es ≡ length ds → k < length ds → slice_get es k ≡ slice_get ds k → chip_drive r k ≡ chip_drive s k
pin_same s r ds es k old new room l same = some_same (chip_drive r k) (chip_drive s k) (sym (new k (omega (arith, room, l))) ∙ same ∙ old k l)

same_map : (f g : ℕ → Drive) (a n : ℕ) → ((k : ℕ) → a ≤ k → k < a + n → f k ≡ g k) → map f (range_with_len a n) ≡ map g (range_with_len a n)
same_map f g a zero same = refl
same_map f g a (suc n) same =
    ap (λ (d : Drive). d ∷ map f (range_with_len (a + 1) n)) (same a (omega arith) (omega arith))
    ∙ ap (λ (ds : List Drive). g a ∷ ds) (same_map f g (a + 1) n (λ k (l : a + 1 ≤ k) (h : k < a + 1 + n). same k (omega (arith, l)) (omega (arith, h))))

-- where each pin drives the same, all do
pub drives_same : (s r : Chip) → r.given ≡ s.given → ((k : ℕ) → k < length s.given.names → chip_drive r k ≡ chip_drive s k) → chip.drives r ≡ chip.drives s
drives_same s r given same =
    ap (λ (g : _). map (chip_drive r) (range_with_len 0 (length g.names))) given ∙ same_map (chip_drive r) (chip_drive s) 0 (length s.given.names) (λ k l (h : k < 0 + length s.given.names). same k (omega (arith, h)))

within_or : (k n : ℕ) → (k < n) ⊎ (n ≤ k)
within_or k n = grind arith

-- a pin, or a number behind the pins, of which the same is kept
pub drive_same : (s r : Chip) (k : ℕ) → r.given ≡ s.given → (k < length s.given.names → chip_drive r k ≡ chip_drive s k) → slice_get (chip.drives r) k ≡ slice_get (chip.drives s) k
drive_same s r k given same =
    let names : length r.given.names ≡ length s.given.names = ap (λ (g : _). length g.names) given in
    elim (within_or k (length s.given.names)) [
      | inl l ↦
          drive_at r k (chip_drive r k) (omega (arith, l, names, drive_count r)) refl ∙ ap (λ (d : Drive). Some d) (same l)
          ∙ sym (drive_at s k (chip_drive s k) (omega (arith, l, drive_count s)) refl)
      | inr l ↦ slice_get_past (chip.drives r) k (omega (arith, l, names, drive_count r)) ∙ sym (slice_get_past (chip.drives s) k (omega (arith, l, drive_count s)))
    ]

-- what was read of what is kept
pub shown_at : (s r : Chip) (ds : List Drive) (k : ℕ) (d : Drive) → Shows s ds → k < length ds → d ≡ get_or ds k d → s ≡ r → d ≡ chip_drive r k
shown_at s r ds k d shows l read same =
    some_same d (chip_drive r k) (sym (slice_get_read ds (length ds) k d refl l read) ∙ shows k l ∙ ap (λ (x : Chip). Some (chip_drive x k)) same)

-- ---- behind a wake

module _ (s r : Chip) (t : ℕ) (ls : List Level) (step : r ≡ chip_step s t ls) (ds es : List Drive) (old : Shows s ds) (new : Shows r es) (count : length ds ≡ length s.given.names) (room : length es ≡ length ds) (span : Span)
    (same : (k : ℕ) → k < length ds → ¬ IsIn span k → slice_get es k ≡ slice_get ds k) where
  given_same : r.given ≡ s.given
  given_same = ap (λ (x : Chip). x.given) step ∙ ap (λ (f : Fixed). f.given) (step_fixed s t ls)

  pub room_same : length es ≡ length r.given.names
  room_same = room ∙ count ∙ sym (ap (λ (g : Given). length g.names) given_same)

  pub woken_drives : nat_lt span.from span.to ≡ false → chip.drives r ≡ chip.drives s
  woken_drives none =
      drives_same s r given_same
      (λ k (l : k < length s.given.names). let h : k < length ds = omega (arith, l, count) in pin_same s r ds es k old new room h (same k h (none_in span k none)))

  pub woken_drive : (k : ℕ) → is_in span k ≡ false → slice_get (chip.drives r) k ≡ slice_get (chip.drives s) k
  woken_drive k out =
      drive_same s r k given_same
      (λ (l : k < length s.given.names). let h : k < length ds = omega (arith, l, count) in pin_same s r ds es k old new room h (same k h (not_in_span span k out)))

-- what is kept is what the pins drive on new levels too
pub shows_seen : (a b : ChipAt) (ls : List Level) (ds : List Drive) → b ≡ waking a ls → Shows a.chip ds → Shows b.chip ds
shows_seen a b ls ds p shows k l = shows k l ∙ sym (ap (λ (x : ChipAt). Some (chip_drive x.chip k)) p)

pub shows_held : (a b : ChipAt) (ds : List Drive) → b ≡ keeping a → Shows a.chip ds → Shows b.chip ds
shows_held a b ds p shows k l = shows k l ∙ sym (ap (λ (x : ChipAt). Some (chip_drive x.chip k)) p)
