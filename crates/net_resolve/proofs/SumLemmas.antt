-- Sums of levels, place by place.
use Rattle.net_resolve.proofs.Common.{◌≡◌, ◌≢◌, ℕ, ◌+◌, ◌<◌, ◌≤◌, List, [], ◌∷◌, length, drop, Bool, true, false, not, refl, ap, sym, ◌∙◌, arith, add-one}
use Rattle.net_resolve.proofs.Common.{get_or, get_or-set_other, get_or-set_same, drop-cons, inl, inr, subst, Some, beq, eqb_tells, drop_all, ◌==◌, ◌&&◌, ◌||◌}
use Rattle.net_resolve.proofs.Common.{if◌then◌else◌, slice_get, slice_set, slice_index, zip, ArePairs, Drive, Level, get_set_same, get_set_other, get_within}
use Rattle.std.specs.Cmp.Lexicographic.{pointwise}
use Rattle.sim_base.specs.declared.signal.Drive.TheVariants as drives
use Rattle.sim_base.specs.declared.signal.Level.TheVariants as levels
use Rattle.net_resolve.specs.Sums.{together, sum_at, added, is_loose, over_adds, resistors_add, level_here, is_z}

-- a sum after something was added to one
pub sum_set : (sums : List Level) (k g : ℕ) (r x : Level) → k < length sums → r ≡ together (sum_at sums k) x →
    sum_at (slice_set sums k r) g ≡ (if k == g then together (sum_at sums g) x else sum_at sums g)
sum_set sums k g r x within e = elim (eqb_tells k g) [
  | inl same ↦ rw same.0 (
      ap (sum_at (slice_set sums k r)) (sym same.1)
      ∙ get_or-set_same sums k r levels.Low within ∙ e
      ∙ ap (λ (i : ℕ). together (sum_at sums i) x) same.1)
  | inr ne ↦ rw ne.0 (get_or-set_other sums k g r levels.Low (λ h. ne.1 (sym h)))
]

-- what the pins from i on add: pin i, and then those from i + 1 on
pub added_next : (gives : Drive → Level) (counts : ℕ → Bool) (sum : Level) (ns : List ℕ) (ds : List Drive) (i : ℕ) → i < length ns → length ds ≡ length ns →
    added gives counts sum (zip (drop i ns) (drop i ds))
    ≡ added gives counts (if counts (get_or ns i 0) then together sum (gives (get_or ds i drives.Z)) else sum) (zip (drop (i + 1) ns) (drop (i + 1) ds))
unfolding added
added_next gives counts sum ns ds i h long =
    let l : i < length ds = omega (arith, long) in
    rw (add-one) (rw (drop-cons ns i 0) (rw (drop-cons ds i drives.Z) refl))

-- nothing is left to add
pub added_end : (gives : Drive → Level) (counts : ℕ → Bool) (sum : Level) (ns : List ℕ) (ds : List Drive) (i : ℕ) → length ns ≤ i →
    added gives counts sum (zip (drop i ns) (drop i ds)) ≡ sum
unfolding added
added_end gives counts sum ns ds i h = rw (drop_all i ns h) refl

-- one pin adds
pub added_one : (gives : Drive → Level) (counts : ℕ → Bool) (sum : Level) (n : ℕ) (d : Drive) →
    added gives counts sum ((n, d) ∷ []) ≡ (if counts n then together sum (gives d) else sum)
unfolding added
added_one gives counts sum n d = refl

pub resistors_next : (groups : List ℕ) (strong : List Level) (areas : List ℕ) (a : ℕ) (sum : Level) (rs : List (ℕ × ℕ)) (i : ℕ) → i < length rs →
    resistors_add groups strong areas a sum (drop i rs)
    ≡ resistors_add groups strong areas a (over_adds groups strong areas a (get_or rs i (0, 0)).0 (get_or rs i (0, 0)).1 (over_adds groups strong areas a (get_or rs i (0, 0)).1 (get_or rs i (0, 0)).0 sum)) (drop (i + 1) rs)
unfolding resistors_add
resistors_next groups strong areas a sum rs i h = rw add-one (rw (drop-cons rs i (0, 0)) refl)

pub resistors_end : (groups : List ℕ) (strong : List Level) (areas : List ℕ) (a : ℕ) (sum : Level) (rs : List (ℕ × ℕ)) (i : ℕ) → length rs ≤ i →
    resistors_add groups strong areas a sum (drop i rs) ≡ sum
unfolding resistors_add
resistors_end groups strong areas a sum rs i h = rw (drop_all i rs h) refl

-- the ends of a resistor are nets, whose areas have sums
pub ends_within : (groups areas : List ℕ) (count : ℕ) (rs : List (ℕ × ℕ)) (i : ℕ) → ArePairs (length groups) rs →
    length areas ≡ length groups → ((n : ℕ) → n < length areas → slice_index areas n < count) → i < length rs →
    ((get_or rs i (0, 0)).0 < length groups) × (slice_index areas (get_or rs i (0, 0)).0 < count) × ((get_or rs i (0, 0)).1 < length groups) × (slice_index areas (get_or rs i (0, 0)).1 < count)
ends_within groups areas count rs i ends long sums less =
    let (a, b) = ends i _ (get_within rs i (0, 0) less) in
    (a, sums (get_or rs i (0, 0)).0 (omega (arith, a, long)), b, sums (get_or rs i (0, 0)).1 (omega (arith, b, long)))

-- the level of a net, as it is chosen
pub level_chosen : (groups : List ℕ) (strong : List Level) (areas : List ℕ) (sums : List Level) (n : ℕ) (b : Bool) → b ≡ is_z (sum_at strong (slice_index groups n)) →
    (if b then sum_at sums (slice_index areas n) else sum_at strong (slice_index groups n)) ≡ level_here groups strong areas sums n
level_chosen groups strong areas sums n b e = rw e refl

-- one net more whose group has a strong value
pub driven_more : (groups : List ℕ) (strong : List Level) (n : ℕ) (driven z : Bool) → z ≡ is_loose groups strong n → (driven ≡ true → (k : ℕ) → k < n → is_loose groups strong k ≡ false) →
    (driven && not z) ≡ true → (k : ℕ) → k < n + 1 → is_loose groups strong k ≡ false
driven_more groups strong n true false e before all k h = elim (eqb_tells k n) [
  | inl at ↦ subst (λ (m : ℕ). is_loose groups strong m ≡ false) (sym at.1) (sym e)
  | inr off ↦ let apart = off.1 in before refl k (omega (arith, h, apart))
]
driven_more groups strong n driven z e before all k h = absurd cc

-- one flag more that is put and not found
pub none_more : (flags : List Bool) (i : ℕ) (found flag : Bool) → i < length flags → (found ≡ false → (k : ℕ) → k < i → slice_get flags k ≢ Some true) →
    (found || flag) ≡ false → (k : ℕ) → k < i + 1 → slice_get (slice_set flags i flag) k ≢ Some true
none_more flags i false false within before off k h e = elim (eqb_tells k i) [
  | inl at ↦
      let here : slice_get (slice_set flags i false) i ≡ Some false = get_set_same flags i false within in
      let same : slice_get (slice_set flags i false) i ≡ Some true = subst (λ (m : ℕ). slice_get (slice_set flags i false) m ≡ Some true) at.1 e in
      absurd cc
  | inr apart ↦ let a = apart.1 in before refl k (omega (arith, h, a)) (sym (get_set_other flags i k false a) ∙ e)
]
none_more flags i found flag within before off k h e = absurd cc

pub both_same : {a b c d : Bool} → a ≡ b → c ≡ d → (a && c) ≡ (b && d)
both_same e f = cc

-- flags that do not differ
pub same_flags : (xs ys : List Bool) → not (pointwise beq xs ys) ≡ false → xs ≡ ys
same_flags [] [] h = refl
same_flags (true ∷ xs) (true ∷ ys) h = ap (λ (l : List Bool). true ∷ l) (same_flags xs ys h)
same_flags (false ∷ xs) (false ∷ ys) h = ap (λ (l : List Bool). false ∷ l) (same_flags xs ys h)
same_flags xs ys h = absurd cc
