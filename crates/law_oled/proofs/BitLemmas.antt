-- What one more bit of a string is to its bytes.
use Rattle.std.proofs.Common.{◌≡◌, ℕ, zero, suc, ◌+◌, ◌-◌, ◌*◌, ◌/◌, ◌%◌, ◌^◌, ◌<◌, ◌≤◌, inl, inr, List, [], ◌∷◌, ◌++◌, ◌∙◌, length, Bool, true, false, refl, ap, sym, subst, arith}
use Rattle.std.specs.Prelude.{take, drop}
use Rattle.std.proofs.Common.{length-append, length-drop, pow_pos, append-nil}
use Rattle.std.proofs.Math.Nat.{pow-succ'}
use Rattle.std.proofs.lemmas.Bool.{cases_lt}
use Rattle.std.proofs.lemmas.List.{take-append-le, drop-append-le, take_all, drop_all}
use Rattle.avr_unit.specs.Bits.{one}
use Rattle.slave_i2c.specs.I2c.{with_bit_in}
use Rattle.law_oled.specs.Traffic.{value_after, value, byte_at, bytes_below, bytes}

-- ---- the number that bits are

value_more : (n : ℕ) (xs : List Bool) (b : Bool) → value_after n (xs ++ b ∷ []) ≡ 2 * value_after n xs + one b
value_more n [] b = refl
value_more n (x ∷ xs) b = value_more (2 * n + one x) xs b

one_less : (b : Bool) → one b < 2
one_less true = omega arith
one_less false = omega arith

value_less : (j n : ℕ) (xs : List Bool) → n < 2 ^ j → value_after n xs < 2 ^ (j + length xs)
value_less j n [] less = let e : j ≡ j + 0 = omega arith in subst (λ (k : ℕ). n < 2 ^ k) e less
value_less j n (x ∷ xs) less =
    let p : 2 ^ suc j ≡ 2 * 2 ^ j = pow-succ' 2 j in
    let o : one x < 2 = one_less x in
    let next : 2 * n + one x < 2 ^ suc j = omega (arith, p, o, less) in
    let e : suc j + length xs ≡ j + suc (length xs) = omega arith in
    subst (λ (k : ℕ). value_after (2 * n + one x) xs < 2 ^ k) e (value_less (suc j) (2 * n + one x) xs next)

value_short : (xs : List Bool) → length xs ≤ 7 → value xs < 128
value_short xs short =
    let e : 7 - length xs + length xs ≡ 7 = omega (arith, short) in
    let start : 0 < 2 ^ (7 - length xs) = pow_pos (7 - length xs) in
    subst (λ (k : ℕ). value_after 0 xs < 2 ^ k) e (value_less (7 - length xs) 0 xs start)

-- with a further bit
pub value_with : (xs : List Bool) (b : Bool) → length xs ≤ 7 → with_bit_in (value xs) b ≡ value (xs ++ b ∷ [])
value_with xs b short =
    let small : value xs < 128 = value_short xs short in
    let more : value (xs ++ b ∷ []) ≡ 2 * value xs + one b = value_more 0 xs b in
    omega (arith, small, more)

-- ---- bytes

byte_same : (bits : List Bool) (b : Bool) (j : ℕ) → 9 * j + 8 ≤ length bits → byte_at (bits ++ b ∷ []) j ≡ byte_at bits j
byte_same bits b j there =
    let d : drop (9 * j) (bits ++ b ∷ []) ≡ drop (9 * j) bits ++ b ∷ [] = drop-append-le (9 * j) bits (b ∷ []) (omega (arith, there)) in
    let l : length (drop (9 * j) bits) ≡ length bits - 9 * j = length-drop (9 * j) bits in
    let t : take 8 (drop (9 * j) bits ++ b ∷ []) ≡ take 8 (drop (9 * j) bits) = take-append-le 8 (drop (9 * j) bits) (b ∷ []) (omega (arith, l, there)) in
    ap (λ (xs : List Bool). value (take 8 xs)) d ∙ ap (λ (xs : List Bool). value xs) t

below_same : (bits : List Bool) (b : Bool) (j : ℕ) → 9 * j ≤ length bits + 1 → bytes_below (bits ++ b ∷ []) j ≡ bytes_below bits j
below_same bits b zero there = refl
below_same bits b (suc j) there =
    let before : bytes_below (bits ++ b ∷ []) j ≡ bytes_below bits j = below_same bits b j (omega (arith, there)) in
    let last : byte_at (bits ++ b ∷ []) j ≡ byte_at bits j = byte_same bits b j (omega (arith, there)) in
    ap (λ (xs : List ℕ). xs ++ byte_at (bits ++ b ∷ []) j ∷ []) before ∙ ap (λ (x : ℕ). bytes_below bits j ++ x ∷ []) last

length_more : (bits : List Bool) (b : Bool) → length (bits ++ b ∷ []) ≡ length bits + 1
length_more bits b = length-append bits (b ∷ [])

-- a bit that ends no byte
bytes_same : (bits : List Bool) (b : Bool) → (length bits + 2) / 9 ≡ (length bits + 1) / 9 → bytes (bits ++ b ∷ []) ≡ bytes bits
unfolding bytes
bytes_same bits b same =
    let l : length (bits ++ b ∷ []) ≡ length bits + 1 = length_more bits b in
    let e : length bits + 1 + 1 ≡ length bits + 2 = omega arith in
    let there : 9 * ((length bits + 1) / 9) ≤ length bits + 1 = omega arith in
    ap (λ (k : ℕ). bytes_below (bits ++ b ∷ []) ((k + 1) / 9)) l
    ∙ ap (λ (k : ℕ). bytes_below (bits ++ b ∷ []) (k / 9)) e
    ∙ ap (λ (k : ℕ). bytes_below (bits ++ b ∷ []) k) same
    ∙ below_same bits b ((length bits + 1) / 9) there

-- the bits of the byte that has begun
pub begun : List Bool → List Bool
begun bits = drop (9 * (length bits / 9)) bits

begun_length : (bits : List Bool) → length (begun bits) ≡ length bits % 9
unfolding begun
begun_length bits =
    let l : length (drop (9 * (length bits / 9)) bits) ≡ length bits - 9 * (length bits / 9) = length-drop (9 * (length bits / 9)) bits in
    omega (arith, l)

begun_more : (bits : List Bool) (b : Bool) → length bits % 9 ≤ 7 → begun (bits ++ b ∷ []) ≡ begun bits ++ b ∷ []
unfolding begun
begun_more bits b place =
    let l : length (bits ++ b ∷ []) ≡ length bits + 1 = length_more bits b in
    let q : length (bits ++ b ∷ []) / 9 ≡ length bits / 9 = omega (arith, l, place) in
    let there : 9 * (length bits / 9) ≤ length bits = omega arith in
    ap (λ (k : ℕ). drop (9 * k) (bits ++ b ∷ [])) q ∙ drop-append-le (9 * (length bits / 9)) bits (b ∷ []) there

pub begun_none : (bits : List Bool) → length bits % 9 ≡ 0 → value (begun bits) ≡ 0
unfolding begun
begun_none bits none =
    let past : length bits ≤ 9 * (length bits / 9) = omega (arith, none) in
    ap (λ (xs : List Bool). value xs) (drop_all (9 * (length bits / 9)) bits past)

-- a bit that ends a byte
bytes_more : (bits : List Bool) (b : Bool) → length bits % 9 ≡ 7 → bytes (bits ++ b ∷ []) ≡ bytes bits ++ value (begun bits ++ b ∷ []) ∷ []
unfolding bytes begun
bytes_more bits b seven =
    let c = length bits / 9 in
    let l : length (bits ++ b ∷ []) ≡ length bits + 1 = length_more bits b in
    let now : (length (bits ++ b ∷ []) + 1) / 9 ≡ suc (length bits / 9) = omega (arith, l, seven) in
    let was : length bits / 9 ≡ (length bits + 1) / 9 = omega (arith, seven) in
    let there : 9 * (length bits / 9) ≤ length bits = omega arith in
    let room : 9 * (length bits / 9) ≤ length bits + 1 = omega arith in
    let d : drop (9 * c) (bits ++ b ∷ []) ≡ drop (9 * c) bits ++ b ∷ [] = drop-append-le (9 * c) bits (b ∷ []) there in
    let m : length (drop (9 * c) bits ++ b ∷ []) ≡ length (drop (9 * c) bits) + 1 = length_more (drop (9 * c) bits) b in
    let n : length (drop (9 * c) bits) ≡ length bits - 9 * (length bits / 9) = length-drop (9 * c) bits in
    let eight : length (drop (9 * c) bits ++ b ∷ []) ≤ 8 = omega (arith, m, n, seven) in
    let all : take 8 (drop (9 * c) bits ++ b ∷ []) ≡ drop (9 * c) bits ++ b ∷ [] = take_all 8 (drop (9 * c) bits ++ b ∷ []) eight in
    ap (λ (k : ℕ). bytes_below (bits ++ b ∷ []) k) now
    ∙ ap (λ (xs : List ℕ). xs ++ byte_at (bits ++ b ∷ []) c ∷ []) (below_same bits b c room)
    ∙ ap (λ (xs : List Bool). bytes_below bits c ++ value (take 8 xs) ∷ []) d
    ∙ ap (λ (xs : List Bool). bytes_below bits c ++ value xs ∷ []) all
    ∙ ap (λ (k : ℕ). bytes_below bits k ++ value (drop (9 * c) bits ++ b ∷ []) ∷ []) was

-- before the eighth bit there is no byte
pub bytes_none : (bits : List Bool) → length bits ≤ 7 → bytes bits ≡ []
unfolding bytes
bytes_none bits short =
    let none : (length bits + 1) / 9 ≡ 0 = omega (arith, short) in
    ap (λ (k : ℕ). bytes_below bits k) none

-- bytes stay
pub bytes_stay : (bits : List Bool) (b : Bool) → (more : List ℕ) × (bytes (bits ++ b ∷ []) ≡ bytes bits ++ more)
bytes_stay bits b =
    elim (cases_lt (length bits % 9) 7) [
      | inl less ↦ let same : (length bits + 2) / 9 ≡ (length bits + 1) / 9 = omega (arith, less) in ([], bytes_same bits b same ∙ sym (append-nil (bytes bits)))
      | inr least ↦ elim (cases_lt 7 (length bits % 9)) [
        | inl most ↦ let same : (length bits + 2) / 9 ≡ (length bits + 1) / 9 = omega (arith, most) in ([], bytes_same bits b same ∙ sym (append-nil (bytes bits)))
        | inr most ↦ let seven : length bits % 9 ≡ 7 = omega (arith, least, most) in (value (begun bits ++ b ∷ []) ∷ [], bytes_more bits b seven)
      ]
    ]

-- ---- a byte that has begun: k of its bits have come, and they are x

pub record IsBegun (bits : List Bool) (k x : ℕ) : Type 0 where
  pub place : k ≤ 7
  pub count : length bits % 9 ≡ k
  pub number : x ≡ value (begun bits)

with_is : (bits : List Bool) (b : Bool) (k x : ℕ) → IsBegun bits k x → with_bit_in x b ≡ value (begun bits ++ b ∷ [])
with_is bits b k x is =
    let l : length (begun bits) ≡ length bits % 9 = begun_length bits in
    let short : length (begun bits) ≤ 7 = omega (arith, l, is.place, is.count) in
    ap (λ (y : ℕ). with_bit_in y b) is.number ∙ value_with (begun bits) b short

pub begun_next : (bits : List Bool) (b : Bool) (k x : ℕ) → IsBegun bits k x → k < 7 → IsBegun (bits ++ b ∷ []) (k + 1) (with_bit_in x b)
begun_next bits b k x is less =
    let l : length (bits ++ b ∷ []) ≡ length bits + 1 = length_more bits b in
    let place : length bits % 9 ≤ 7 = omega (arith, is.count, is.place) in
    let place' : k + 1 ≤ 7 = omega (arith, less) in
    let count' : length (bits ++ b ∷ []) % 9 ≡ k + 1 = omega (arith, l, is.count, less) in
    record {
      place = place';
      count = count';
      number = with_is bits b k x is ∙ ap (λ (xs : List Bool). value xs) (sym (begun_more bits b place));
    }

pub begun_same : (bits : List Bool) (b : Bool) (k x : ℕ) → IsBegun bits k x → k < 7 → bytes (bits ++ b ∷ []) ≡ bytes bits
begun_same bits b k x is less =
    let same : (length bits + 2) / 9 ≡ (length bits + 1) / 9 = omega (arith, is.count, less) in
    bytes_same bits b same

pub begun_last : (bits : List Bool) (b : Bool) (k x : ℕ) → IsBegun bits k x → 7 ≤ k → bytes (bits ++ b ∷ []) ≡ bytes bits ++ with_bit_in x b ∷ []
begun_last bits b k x is least =
    let seven : length bits % 9 ≡ 7 = omega (arith, is.count, is.place, least) in
    bytes_more bits b seven ∙ ap (λ (y : ℕ). bytes bits ++ y ∷ []) (sym (with_is bits b k x is))

pub begun_end : (bits : List Bool) (b : Bool) (k x : ℕ) → IsBegun bits k x → 7 ≤ k → length (bits ++ b ∷ []) % 9 ≡ 8
begun_end bits b k x is least =
    let l : length (bits ++ b ∷ []) ≡ length bits + 1 = length_more bits b in
    omega (arith, l, is.count, is.place, least)

-- the ninth bit
pub ninth_same : (bits : List Bool) (b : Bool) → length bits % 9 ≡ 8 → bytes (bits ++ b ∷ []) ≡ bytes bits
ninth_same bits b eight =
    let same : (length bits + 2) / 9 ≡ (length bits + 1) / 9 = omega (arith, eight) in
    bytes_same bits b same

pub ninth_end : (bits : List Bool) (b : Bool) → length bits % 9 ≡ 8 → length (bits ++ b ∷ []) % 9 ≡ 0
ninth_end bits b eight =
    let l : length (bits ++ b ∷ []) ≡ length bits + 1 = length_more bits b in
    omega (arith, l, eight)

pub short_more : (bits : List Bool) (b : Bool) (k x : ℕ) → IsBegun bits k x → k < 7 → length bits ≤ 7 → length (bits ++ b ∷ []) ≤ 7
short_more bits b k x is less short =
    let l : length (bits ++ b ∷ []) ≡ length bits + 1 = length_more bits b in
    omega (arith, l, is.count, less, short)

pub nothing_begun : IsBegun [] 0 0
unfolding begun
nothing_begun = record { place = omega arith; count = refl; number = refl }
