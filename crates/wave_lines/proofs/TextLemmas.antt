-- Lines of a text, and what stands behind its head.
use Rattle.std.proofs.Common.{◌≡◌, ◌≢◌, ◌<◌, ◌≤◌, ◌+◌, ℕ, zero, suc, List, [], ◌∷◌, ◌++◌, length, get_or, take, drop, true, false, ◌==◌}
use Rattle.std.proofs.Common.{if◌then◌else◌, Ok, Err, refl, ap, arith, ◌∙◌, sym}
use Rattle.std.specs.List.{list_any}
use Rattle.std.proofs.lemmas.Bool.{ne_eqb, eq-eqb, or_right}
use Rattle.std.proofs.lemmas.List.{take-append-drop, drop_more, drop_all, length-take-le, get_or-take}
use Rattle.sim_base.specs.declared.fault.Place.TheVariants as places
use Rattle.sim_refusals.specs.Refusals.{WaveHead}
use Rattle.wave_lines.specs.Reading.{before_line, ended_lines, line_count, unended, behind}

-- no byte is LF
abbrev pub IsUnbroken : List ℕ → Type 0
IsUnbroken l = (k : ℕ) → k < length l → get_or l k 0 ≢ 10

rest_unbroken : (b : ℕ) (l : List ℕ) → IsUnbroken (b ∷ l) → IsUnbroken l
rest_unbroken b l unbroken k p = unbroken (suc k) (omega (arith, p))

first_unbroken : (b : ℕ) (l : List ℕ) → IsUnbroken (b ∷ l) → (b == 10) ≡ false
first_unbroken b l unbroken = ne_eqb b 10 (unbroken 0 (omega arith))

pub ended_at : (l rest : List ℕ) → IsUnbroken l → ended_lines (l ++ 10 ∷ rest) ≡ l ∷ ended_lines rest
unfolding ended_lines
ended_at [] rest unbroken = refl
ended_at (b ∷ l) rest unbroken = rw (first_unbroken b l unbroken) (ap (before_line b) (ended_at l rest (rest_unbroken b l unbroken)))

has_lf : (l rest : List ℕ) → list_any (λ (a : ℕ). a == 10) (l ++ 10 ∷ rest) ≡ true
has_lf [] rest = refl
has_lf (b ∷ l) rest = or_right (b == 10) (list_any (λ (a : ℕ). a == 10) (l ++ 10 ∷ rest)) (has_lf l rest)

pub unended_at : (l rest : List ℕ) → unended (l ++ 10 ∷ rest) ≡ unended rest
unfolding unended
unended_at [] rest = refl
unended_at (b ∷ l) rest = rw (or_right (b == 10) (list_any (λ (a : ℕ). a == 10) (l ++ 10 ∷ rest)) (has_lf l rest)) (unended_at l rest)

no_lf : (l : List ℕ) → IsUnbroken l → list_any (λ (a : ℕ). a == 10) l ≡ false
no_lf [] unbroken = refl
no_lf (b ∷ l) unbroken = rw (first_unbroken b l unbroken) (no_lf l (rest_unbroken b l unbroken))

pub ended_none : (l : List ℕ) → IsUnbroken l → ended_lines l ≡ []
unfolding ended_lines
ended_none [] unbroken = refl
ended_none (b ∷ l) unbroken = rw (first_unbroken b l unbroken) (ap (before_line b) (ended_none l (rest_unbroken b l unbroken)))

pub unended_all : (l : List ℕ) → IsUnbroken l → unended l ≡ l
unfolding unended
unended_all [] unbroken = refl
unended_all (b ∷ l) unbroken = rw (no_lf (b ∷ l) unbroken) refl

pub count_none : (l : List ℕ) → IsUnbroken l → line_count l ≡ 0
unfolding line_count
count_none [] unbroken = refl
count_none (b ∷ l) unbroken = rw (first_unbroken b l unbroken) (let more = count_none l (rest_unbroken b l unbroken) in omega (arith, more))

-- the first two bytes
pub two_unbroken : (l : List ℕ) → get_or l 0 0 ≢ 10 → get_or l 1 0 ≢ 10 → (k : ℕ) → k < 2 → get_or l k 0 ≢ 10
two_unbroken l a b zero h = a
two_unbroken l a b (suc zero) h = b
two_unbroken l a b (suc (suc k)) h = absurd (omega (arith, h))

module _ (l : List ℕ) (i : ℕ) (p : i < length l) (e : get_or l i 0 ≡ 10) where
  pub whole : take i l ++ 10 ∷ drop (i + 1) l ≡ l
  whole = ap (λ (x : List ℕ). take i l ++ x) (ap (λ (x : ℕ). x ∷ drop (i + 1) l) (sym e) ∙ sym (drop_more l i 0 p)) ∙ take-append-drop i l

  -- the text up to the first LF is the first line
  pub ended_first : ((k : ℕ) → k < i → get_or l k 0 ≢ 10) → ended_lines l ≡ take i l ∷ ended_lines (drop (i + 1) l)
  ended_first unbroken =
      let n : length (take i l) ≡ i = length-take-le i l (omega (arith, p)) in
      ap ended_lines (sym whole) ∙ ended_at (take i l) (drop (i + 1) l) (λ (k : ℕ) (q : k < length (take i l)).
      let r : k < i = omega (arith, q, n) in
      rw (get_or-take i l k 0 r) (unbroken k r))

  -- which has no LF
  pub count_first : ((k : ℕ) → k < i → get_or l k 0 ≢ 10) → line_count (take i l) ≡ 0
  count_first unbroken =
      let n : length (take i l) ≡ i = length-take-le i l (omega (arith, p)) in
      count_none (take i l) (λ (k : ℕ) (q : k < length (take i l)).
      let r : k < i = omega (arith, q, n) in
      rw (get_or-take i l k 0 r) (unbroken k r))

  pub unended_first : unended l ≡ unended (drop (i + 1) l)
  unended_first = ap unended (sym whole) ∙ unended_at (take i l) (drop (i + 1) l)

module _ (k i : ℕ) (hs bs : List ℕ) where
  behind_more : i < length hs → i < length bs → get_or hs i 0 ≡ get_or bs i 0 →
      behind k (drop i hs) (drop i bs) ≡ behind (if get_or hs i 0 == 10 then suc k else k) (drop (i + 1) hs) (drop (i + 1) bs)
  unfolding behind
  behind_more p q e = rw (drop_more hs i 0 p, drop_more bs i 0 q, eq-eqb (get_or hs i 0) (get_or bs i 0) e) refl

  -- a line of the head ends, or goes on
  pub behind_line : i < length hs → i < length bs → get_or hs i 0 ≡ get_or bs i 0 → get_or hs i 0 ≡ 10 →
      behind k (drop i hs) (drop i bs) ≡ behind (k + 1) (drop (i + 1) hs) (drop (i + 1) bs)
  behind_line p q e lf = let one : suc k ≡ k + 1 = omega arith in behind_more p q e
      ∙ rw (eq-eqb (get_or hs i 0) 10 lf) (ap (λ (n : ℕ). behind n (drop (i + 1) hs) (drop (i + 1) bs)) one)

  pub behind_same : i < length hs → i < length bs → get_or hs i 0 ≡ get_or bs i 0 → get_or hs i 0 ≢ 10 →
      behind k (drop i hs) (drop i bs) ≡ behind k (drop (i + 1) hs) (drop (i + 1) bs)
  behind_same p q e other = behind_more p q e ∙ rw (ne_eqb (get_or hs i 0) 10 other) refl

  pub behind_other : i < length hs → i < length bs → get_or hs i 0 ≢ get_or bs i 0 → behind k (drop i hs) (drop i bs) ≡ Err
      (record { number = WaveHead; place = places.Line k })
  unfolding behind
  behind_other p q e = rw (drop_more hs i 0 p, drop_more bs i 0 q, ne_eqb (get_or hs i 0) (get_or bs i 0) e) refl

  pub behind_short : i < length hs → length bs ≤ i → behind k (drop i hs) (drop i bs) ≡ Err (record { number = WaveHead; place = places.Line k })
  unfolding behind
  behind_short p q = rw (drop_more hs i 0 p, drop_all i bs q) refl

  pub behind_done : length hs ≤ i → behind k (drop i hs) (drop i bs) ≡ Ok (k, drop i bs)
  unfolding behind
  behind_done p = rw (drop_all i hs p) refl
