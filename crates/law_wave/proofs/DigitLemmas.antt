-- Numbers and identifier codes are read as they are written.
use Rattle.std.proofs.Common.{◌≡◌, ◌≢◌, inl, inr, ◌<◌, ◌≤◌, ◌+◌, ◌-◌, ◌*◌, ◌/◌, ◌%◌, ◌^◌, ◌==◌, ℕ, zero, suc, List, [], ◌∷◌, ◌++◌}
use Rattle.std.proofs.Common.{Bool, true, false, not, ◌&&◌, ◌||◌, nat_le, if◌then◌else◌, None, Some, refl, ap, sym, ◌∙◌, subst, arith}
use Rattle.std.specs.Prelude.{decimal, nat_lt}
use Rattle.std.specs.List.{list_all, list_any}
use Rattle.std.specs.Char.{digit_value, is_ascii_digit}
use Rattle.std.proofs.lemmas.Bool.{and_parts, cases_lt, eq-eqb, ne_eqb, lt-ltb, or_parts, both_ways, and_from, not_from_false}
use Rattle.std.proofs.lemmas.Fmt.{decimal_by_steps}
use Rattle.std.proofs.lemmas.List.Folds.{list_all-append}
use Rattle.std.proofs.lemmas.List.Sums.{fold-append}
use Rattle.std.proofs.lemmas.Str.{digit_value_digit}
use Rattle.law_board.proofs.OwnRows.{is_le, is_gt}
use Rattle.text_numerals.specs.Numerals.{value_of}
use Rattle.text_model.specs.Wave.{char_0, first_printable, printable, id_of}
use Rattle.wave_lines.specs.Reading.{is_nothing, is_decimal, is_printable, number_of}
use Rattle.wave_lines.proofs.TextLemmas.{IsUnbroken}

-- ---- lines without LF

pub unbroken_none : IsUnbroken []
unbroken_none k less = absurd (omega (arith, less))

pub unbroken_more : (b : ℕ) (l : List ℕ) → b ≢ 10 → IsUnbroken l → IsUnbroken (b ∷ l)
unbroken_more b l other rest zero less = other
unbroken_more b l other rest (suc k) less = rest k (omega (arith, less))

-- a text of which a test finds no LF
pub by_test : (l : List ℕ) → list_any (λ (b : ℕ). b == 10) l ≡ false → IsUnbroken l
by_test [] none = unbroken_none
by_test (b ∷ l) none =
    let both = or_parts (b == 10) (list_any (λ (b : ℕ). b == 10) l) none in
    unbroken_more b l (λ e. absurd (both_ways (b == 10) both.0 (eq-eqb b 10 e))) (by_test l both.1)

pub digits_unbroken : (ds : List ℕ) → list_all is_ascii_digit ds ≡ true → IsUnbroken ds
digits_unbroken [] all = unbroken_none
digits_unbroken (d ∷ ds) all =
    let both = and_parts (is_ascii_digit d) (list_all is_ascii_digit ds) all in
    unbroken_more d ds (λ e. absurd (no_digit (subst (λ (x : ℕ). is_ascii_digit x ≡ true) e both.0))) (digits_unbroken ds both.1)
  where
    no_digit : is_ascii_digit 10 ≡ true → ⊥
    no_digit e = cc

-- ---- numbers

abbrev starts_high : List ℕ → Bool
starts_high [] = false
starts_high (d ∷ ds) = not (d == char_0)

-- these digits are a number's, and are read as it
record Writes (m : ℕ) (ds : List ℕ) : Type 0 where
  digits : list_all is_ascii_digit ds ≡ true
  value : value_of 10 ds ≡ m
  first : 0 < m → starts_high ds ≡ true
  short : is_decimal ds ≡ true

digit_is : (c : ℕ) → 48 ≤ c → c ≤ 57 → is_ascii_digit c ≡ true
digit_is c low high = rw (is_le 48 c low, is_le c 57 high) refl

digit_of : (m : ℕ) → m < 10 → digit_value (48 + m) ≡ m
digit_of m less =
    let low : 48 ≤ 48 + m = omega arith in
    let high : 48 + m ≤ 57 = omega (arith, less) in
    let e = digit_value_digit (48 + m) (low, high) in
    omega (arith, e)

both_on : (a b c : Bool) → a ≡ true → c ≡ true → ((a || b) && c) ≡ true
both_on true b true e f = refl
both_on true b false e f = f
both_on false b c e f = absurd cc

last_on : (a c : Bool) → c ≡ true → ((a || true) && c) ≡ true
last_on true c e = e
last_on false c e = e

all_on : (a : Bool) → a ≡ true → (a && true) ≡ true
all_on true e = refl
all_on false e = e

one_digit : (m : ℕ) → m < 10 → Writes m ((48 + m) ∷ [])
one_digit m less =
    let digit : is_ascii_digit (48 + m) ≡ true = digit_is (48 + m) (omega arith) (omega (arith, less)) in
    let all : list_all is_ascii_digit ((48 + m) ∷ []) ≡ true = all_on (is_ascii_digit (48 + m)) digit in
    record {
      digits = all;
      value = (let e = digit_of m less in omega (arith, e));
      first = λ some. not_from_false (48 + m == char_0) (ne_eqb (48 + m) char_0 (λ e. omega (arith, e, some)));
      short = last_on (not (48 + m == char_0)) (list_all is_ascii_digit ((48 + m) ∷ [])) all;
    }

high_decimal : (ds : List ℕ) → starts_high ds ≡ true → list_all is_ascii_digit ds ≡ true → is_decimal ds ≡ true
high_decimal [] high all = absurd cc
high_decimal (d ∷ ds) high all = both_on (not (d == char_0)) (is_nothing ds) (list_all is_ascii_digit (d ∷ ds)) high all

high_still : (ds : List ℕ) (c : ℕ) → starts_high ds ≡ true → starts_high (ds ++ c ∷ []) ≡ true
high_still [] c high = absurd cc
high_still (d ∷ ds) c high = high

next_digit : (m : ℕ) (ds : List ℕ) → 10 ≤ m → Writes (m / 10) ds → Writes m (ds ++ ((48 + m % 10) ∷ []))
next_digit m ds large w =
    let low : m % 10 < 10 = omega arith in
    let some : 0 < m / 10 = omega (arith, large) in
    let high = high_still ds (48 + m % 10) (w.first some) in
    let digit : is_ascii_digit (48 + m % 10) ≡ true = digit_is (48 + m % 10) (omega arith) (omega (arith, low)) in
    let all : list_all is_ascii_digit (ds ++ ((48 + m % 10) ∷ [])) ≡ true = list_all-append is_ascii_digit ds ((48 + m % 10) ∷ [])
    ∙ and_from (list_all is_ascii_digit ds) (list_all is_ascii_digit ((48 + m % 10) ∷ [])) w.digits (all_on (is_ascii_digit (48 + m % 10)) digit) in
    let value : value_of 10 (ds ++ ((48 + m % 10) ∷ [])) ≡ 10 * value_of 10 ds + digit_value (48 + m % 10) =
    fold-append (λ (n d : ℕ). 10 * n + digit_value d) 0 ds ((48 + m % 10) ∷ []) in
    let e = w.value in
    let f = digit_of (m % 10) low in
    record { digits = all; value = omega (arith, value, e, f); first = λ p. high; short = high_decimal (ds ++ ((48 + m % 10) ∷ [])) high all }

-- what a number is written in is a number without leading zeros, and is read as it
pub written : (m : ℕ) → m < 2 ^ 64 → (list_all is_ascii_digit (decimal m) ≡ true) × (is_decimal (decimal m) ≡ true) × (value_of 10 (decimal m) ≡ m)
written m small = let w = decimal_by_steps Writes one_digit next_digit m small in (w.digits, w.short, w.value)

-- ---- identifier codes

printable_is : (a : ℕ) → first_printable ≤ a → a < first_printable + printable → is_printable a ≡ true
printable_is a low high = and_from (nat_le first_printable a) (nat_lt a (first_printable + printable)) (is_le first_printable a low)
    (lt-ltb a (first_printable + printable) high)

one_char : (a : ℕ) → first_printable ≤ a → a < first_printable + printable → number_of (a ∷ []) ≡ Some (a - first_printable)
one_char a low high = ap (λ (b : Bool). if b then Some (a - first_printable) else None) (printable_is a low high)

abbrev pair_number : ℕ → ℕ → ℕ
pair_number a b = printable + (printable * (a - first_printable) + (b - first_printable))

two_chars : (a b : ℕ) → is_printable a ≡ true → is_printable b ≡ true → number_of (a ∷ b ∷ []) ≡ Some (pair_number a b)
two_chars a b p q = ap (λ (x : Bool). if x then Some (pair_number a b) else None) (and_from (is_printable a) (is_printable b) p q)

abbrev high_code : ℕ → ℕ
high_code i = first_printable + (i - printable) / printable

abbrev low_code : ℕ → ℕ
low_code i = first_printable + (i - printable) % printable

id_short : (i : ℕ) → i < printable → id_of i ≡ (first_printable + i) ∷ []
id_short i less = ap (λ (b : Bool). if b then (first_printable + i) ∷ [] else high_code i ∷ low_code i ∷ []) (lt-ltb i printable less)

id_long : (i : ℕ) → printable ≤ i → id_of i ≡ high_code i ∷ low_code i ∷ []
id_long i least = ap (λ (b : Bool). if b then (first_printable + i) ∷ [] else high_code i ∷ low_code i ∷ []) (not_less i least)
  where
    not_less : (i : ℕ) → printable ≤ i → nat_lt i printable ≡ false
    not_less i least = is_gt (suc i) printable (omega (arith, least))

-- a variable's code has its number
pub number_back : (i : ℕ) → i < 8930 → number_of (id_of i) ≡ Some i
number_back i few = elim (cases_lt i printable) [
  | inl less ↦
      let e : first_printable + i - first_printable ≡ i = omega arith in
      ap number_of (id_short i less) ∙ one_char (first_printable + i) (omega arith) (omega (arith, less)) ∙ ap (λ (x : ℕ). Some x) e
  | inr least ↦
      let high : (i - printable) / printable < printable = omega (arith, few) in
      let low : (i - printable) % printable < printable = omega arith in
      let e : pair_number (high_code i) (low_code i) ≡ i = omega (arith, least) in
      ap number_of (id_long i least)
      ∙ two_chars (high_code i) (low_code i) (printable_is (high_code i) (omega arith) (omega (arith, high))) (printable_is (low_code i) (omega arith) (omega (arith, low)))
      ∙ ap (λ (x : ℕ). Some x) e
]

-- and no LF
pub id_unbroken : (i : ℕ) → IsUnbroken (id_of i)
id_unbroken i = elim (cases_lt i printable) [
  | inl less ↦ subst IsUnbroken (sym (id_short i less)) (unbroken_more (first_printable + i) [] (λ e. omega (arith, e)) unbroken_none)
  | inr least ↦ subst IsUnbroken (sym (id_long i least))
      (unbroken_more (high_code i) (low_code i ∷ []) (λ e. above (high_code i) (omega arith) e) (unbroken_more (low_code i) [] (λ e. above (low_code i) (omega arith) e) unbroken_none))
]
  where
    above : (c : ℕ) → 33 ≤ c → c ≡ 10 → ⊥
    above c p e = omega (arith, p, e)
