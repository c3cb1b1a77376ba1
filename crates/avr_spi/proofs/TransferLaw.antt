-- An undisturbed transfer of an SPI master, in all modes and both orders.
use Rattle.std.proofs.Common.{◌≡◌, ◌≢◌, ℕ, zero, suc, ◌+◌, ◌*◌, ◌/◌, ◌%◌, ◌<◌, ◌≤◌, ◌∙◌, inl, inr, List, Bool, true, false, Option, None, Some, refl, ap, sym, subst, arith}
use Rattle.std.specs.Prelude.{◌==◌, ◌&&◌, not, if◌then◌else◌}
use Rattle.std.proofs.Math.Nat.{suc-mul, mul-le-mul_right}
use Rattle.std.proofs.lemmas.Bool.{and_left, cases_lt, ne_eqb}
use Rattle.sim_base.specs.declared.signal.Level.{Level}
use Rattle.avr_unit.specs.Bits.{is_set, with_bit}
use Rattle.avr_unit.specs.Pad.{untouched, valued}
use Rattle.avr_unit.proofs.BitLemmas.{bit_keeps}
use Rattle.avr_spi.specs.declared.shifter.Phase.{Phase}
use Rattle.avr_spi.specs.declared.shifter.Phase.TheVariants.{First}
use Rattle.avr_spi.specs.declared.shifter.Transfer.{Transfer}
use Rattle.avr_spi.specs.declared.shifter.Shifter.{Shifter}
use Rattle.avr_spi.specs.Shifter.{divisor, half_bit, differ, sck}
use Rattle.avr_spi.specs.declared.registers.Register.TheVariants.{SPDR}
use Rattle.avr_spi.specs.Spi.{Spi, spi, is_master, looked, stepped, with_register, ss_low, miso}
use Rattle.avr_unit_model.specs.Life.{Act, Nothing, acted, before, state}
use Rattle.avr_spi.specs.SpiTransfer.{cycles_of_bit, place, first_half, IsUndisturbed, IsTransferred, Transfers}
use Rattle.avr_unit_model.proofs.BitLemmas.{bit_written, bits_written}
use Rattle.avr_spi.proofs.TransferLemmas.{first_cycle, was_master, was_unselected, with_transfer}
use Rattle.avr_spi.proofs.TransferBits.{bit, Stands, Half, in_first, in_second, ends, next}

-- ---- the table of the cycles of a bit

-- one of four by the tests of SPR1:0
abbrev one_of : (p q r : Bool) (i j k l : ℕ) → ℕ
one_of p q r i j k l = if p then i else if q then j else if r then k else l

half_is : (b : Bool) (spr : ℕ) → divisor spr / (if b then 4 else 2) ≡ cycles_of_bit b spr / 2
half_is false spr = refl
half_is true spr = by (spr == 0) (spr == 1) (spr == 2)
  where
    by : (p q r : Bool) → one_of p q r 4 16 64 128 / 4 ≡ one_of p q r 2 8 32 64 / 2
    by true q r = refl
    by false true r = refl
    by false false true = refl
    by false false false = refl

abbrev HasHalves : ℕ → Type 0
HasHalves d = (d ≡ d / 2 + d / 2) × (1 ≤ d / 2)

one_has : (p q r : Bool) (i j k l : ℕ) → HasHalves i → HasHalves j → HasHalves k → HasHalves l → HasHalves (one_of p q r i j k l)
one_has true q r i j k l a b c d = a
one_has false true r i j k l a b c d = b
one_has false false true i j k l a b c d = c
one_has false false false i j k l a b c d = d

two_halves : (b : Bool) (spr : ℕ) → HasHalves (cycles_of_bit b spr)
two_halves false spr = one_has (spr == 0) (spr == 1) (spr == 2) 4 16 64 128 (refl, omega arith) (refl, omega arith) (refl, omega arith) (refl, omega arith)
two_halves true spr = one_has (spr == 0) (spr == 1) (spr == 2) 2 8 32 64 (refl, omega arith) (refl, omega arith) (refl, omega arith) (refl, omega arith)

-- ---- the order of the bits

place_below : (b : Bool) (i : ℕ) → i < 8 → place b i < 8
place_below true i h = h
place_below false i h = omega (arith, h)

apart : (b : Bool) (i n : ℕ) → i < n → n < 8 → place b i ≢ place b n
apart true i n h l e = omega (arith, h, e)
apart false i n h l e = omega (arith, h, l, e)

-- ---- SCK

sck_first : (cpol cpha : Bool) → differ cpol (differ cpha false) ≡ first_half cpol cpha
sck_first true true = refl
sck_first true false = refl
sck_first false true = refl
sck_first false false = refl

sck_second : (cpol cpha : Bool) → differ cpol (differ cpha true) ≡ not (first_half cpol cpha)
sck_second true true = refl
sck_second true false = refl
sck_second false true = refl
sck_second false false = refl

module _ (acts : ℕ → Act) (levels : ℕ → List Level) (u : Spi) (t x : ℕ) (free : IsUndisturbed acts levels u (with_register u t SPDR x) t x) where
  abbrev v : Spi
  v = with_register u t SPDR x

  abbrev at : ℕ → Spi
  at n = state spi acts levels v t n

  abbrev d : ℕ
  d = cycles_of_bit (is_set u.spsr 0) (u.spcr % 4)

  abbrev h : ℕ
  h = d / 2

  abbrev dord : Bool
  dord = is_set u.spcr 5

  two : d ≡ h + h
  two = (two_halves (is_set u.spsr 0) (u.spcr % 4)).0

  least : 1 ≤ h
  least = (two_halves (is_set u.spsr 0) (u.spcr % 4)).1

  abbrev stands : ℕ → Transfer → Type 0
  stands = Stands acts levels u v t x d h two least free.master free.unselected

  abbrev bit_at : ℕ → Phase → ℕ → ℕ → Transfer
  bit_at = bit acts levels u v t x d h two least free.master free.unselected

  -- what MISO reads in the first cycle of the second half of bit i
  abbrev read_at : ℕ → Bool
  read_at i = miso (levels (t + suc (i * d + h)))

  -- the byte after so many bits
  unfoldable came : ℕ → ℕ
  came zero = 0
  came (suc i) = with_bit (came i) (place dord i) (read_at i)

  -- ---- the cycle of the write

  half : half_bit (is_set u.spsr 0) u.spcr ≡ h
  half = half_is (is_set u.spsr 0) (u.spcr % 4)

  begins : stands 1 (bit_at 0 First (t + h) 0)
  unfolding state
  begins =
      let now : t + 0 ≡ t = omega arith in
      let nothing : acts (t + 0) ≡ Nothing = ap acts now ∙ free.nothing in
      let master : is_master u.spcr ≡ true = was_master u t x free.idle
      (subst (λ (a : Act). is_master (acted spi v (t + 0) a).spcr ≡ true) nothing (free.master 0 (omega arith))) in
      let unselected : (not (is_set u.ddrb 2) && ss_low (levels (t + 0))) ≡ false = was_unselected u t x free.idle (ss_low (levels (t + 0)))
      (subst (λ (a : Act). (not (is_set (acted spi v (t + 0) a).ddrb 2) && ss_low (levels (t + 0))) ≡ false) nothing (free.unselected 0 (omega arith))) in
      let same : at 1 ≡ stepped v t (ss_low (before levels t)) (ss_low (levels t)) (miso (levels t)) =
      ap (λ (a : Act). spi.step (acted spi v (t + 0) a) (t + 0) (before levels (t + 0)) (levels (t + 0))) nothing
      ∙ ap (λ (c : ℕ). spi.step v c (before levels c) (levels c)) now in
      let one : at 1 ≡ looked (with_transfer u t x free.idle) t =
      same
      ∙ first_cycle u t x free.idle (ss_low (before levels t)) (ss_low (levels t)) (miso (levels t)) master
      (subst (λ (c : ℕ). (not (is_set u.ddrb 2) && ss_low (levels c)) ≡ false) now unselected)
      (ne_eqb (t + half_bit (is_set u.spsr 0) u.spcr) t (later t (half_bit (is_set u.spsr 0) u.spcr) (subst (λ (k : ℕ). 1 ≤ k) (sym half) least))) in
      record {
        transfer = ap (λ (v : Spi). v.shifter.transfer) one ∙ ap kept_half half;
        mosi = ap (λ (v : Spi). v.shifter.mosi) one;
        master = ap (λ (v : Spi). is_master v.spcr) one ∙ master;
        buffer = ap (λ (v : Spi). v.shifter.buffer) one;
        clear = λ none. ap (λ (v : Spi). v.shifter.spif) one ∙ and_left u.shifter.spif (not u.seen) none;
      }
    where
      later : (c k : ℕ) → 1 ≤ k → c + k ≡ c → ⊥
      later c k more e = omega (arith, more, e)

      kept_half : ℕ → Option Transfer
      kept_half k = Some (record { dord = dord; cpol = is_set u.spcr 3; cpha = is_set u.spcr 2; half = k; byte = x; read = 0; place = 0; phase = First; event = t + k })

  -- ---- each bit

  within : (i : ℕ) → i < 8 → i * d + d ≤ 8 * d
  within i less = subst (λ (k : ℕ). k ≤ 8 * d) (suc-mul i d) (mul-le-mul_right d less)

  bit_begins : (i : ℕ) → i < 8 → stands (suc (i * d)) (bit_at i First (t + i * d + h) (came i))
  unfolding came
  bit_begins zero less =
      let none : 0 ≡ zero * d = omega arith in
      let now : t ≡ t + zero * d = omega arith in
      subst (λ (k : ℕ). stands (suc (zero * d)) (bit_at 0 First (k + h) 0)) now (subst (λ (k : ℕ). stands (suc k) (bit_at 0 First (t + h) 0)) none begins)
  bit_begins (suc i) less =
      next acts levels u v t x d h two least free.master free.unselected i (i * d) (came i) (within i (omega (arith, less))) (bit_begins i (omega (arith, less)))
      (suc i) (suc i * d) (omega (arith, less)) (omega arith) (suc-mul i d)

  first_of_bit : (i n : ℕ) → i < 8 → i * d < n → n ≤ i * d + h → stands n (bit_at i First (t + i * d + h) (came i))
  first_of_bit i n less more le = in_first acts levels u v t x d h two least free.master free.unselected i (i * d) (came i) (within i less) (bit_begins i less) n more le

  rest_of_bit : (i n : ℕ) (less : i < 8) → i * d + h < n → n ≤ i * d + d →
      Half acts levels u v t x d h two least free.master free.unselected i (i * d) (came i) (within i less) (bit_begins i less) n
  rest_of_bit i n less more le = in_second acts levels u v t x d h two least free.master free.unselected i (i * d) (came i) (within i less) (bit_begins i less) n more le

  record OnWay (i n : ℕ) : Type 0 where
    phase : Phase
    event : ℕ
    r : ℕ
    stands_so : stands n (bit_at i phase event r)

  in_bit : (i n : ℕ) → i < 8 → i * d < n → n ≤ i * d + d → OnWay i n
  in_bit i n less more le = elim (cases_lt (i * d + h) n) [
    | inl later ↦ let s = rest_of_bit i n less later le in record { phase = s.phase; event = s.event; r = s.r'; stands_so = s.stands }
    | inr soon ↦ record { phase = First; event = t + i * d + h; r = came i; stands_so = first_of_bit i n less more soon }
  ]

  record SomeBit (n : ℕ) : Type 0 where
    i : ℕ
    on_way : OnWay i n

  some_bit : (k n : ℕ) → k ≤ 8 → 0 < n → n ≤ k * d → SomeBit n
  some_bit zero n few some le = absurd (let none : zero * d ≡ 0 = omega arith in nothing n (zero * d) some le none)
    where
      nothing : (n k : ℕ) → 0 < n → n ≤ k → k ≡ 0 → ⊥
      nothing n k a b c = omega (arith, a, b, c)
  some_bit (suc k) n few some le = elim (cases_lt (k * d) n) [
    | inl more ↦ record { i = k; on_way = in_bit k n few more (subst (λ (j : ℕ). n ≤ j) (suc-mul k d) le) }
    | inr less ↦ some_bit k n (omega (arith, few)) some less
  ]

  -- ---- the pins

  pad_mosi : (i n : ℕ) → OnWay i n → spi.pad (at n) 11 ≡ valued (is_set x (place dord i))
  pad_mosi i n w = ap (λ (b : Bool). if b then valued (at n).shifter.mosi else untouched) w.stands_so.master ∙ ap valued w.stands_so.mosi

  pad_sck : (n : ℕ) (y : Transfer) → stands n y → spi.pad (at n) 13 ≡ valued (sck (Some y) (at n).spcr)
  pad_sck n y s =
      ap (λ (b : Bool). if b then valued (sck (at n).shifter.transfer (at n).spcr) else untouched) s.master
      ∙ ap (λ (o : Option Transfer). valued (sck o (at n).spcr)) s.transfer

  pad_miso : (i n : ℕ) → OnWay i n → spi.pad (at n) 12 ≡ record untouched { ddoe = true }
  pad_miso i n w = ap (λ (b : Bool). if b then record untouched { ddoe = true } else untouched) w.stands_so.master

  -- ---- the byte that came in

  came_bits : (n : ℕ) → n ≤ 8 → (i : ℕ) → i < n → is_set (came n) (place dord i) ≡ read_at i
  unfolding came
  came_bits zero few i less = absurd (omega (arith, less))
  came_bits (suc n) few i less = elim (cases_lt i n) [
    | inl before_it ↦ bit_keeps (came n) (place dord n) (place dord i) (read_at n) (apart dord i n before_it few) ∙ came_bits n (omega (arith, few)) i before_it
    | inr last ↦
        let same : n ≡ i = omega (arith, less, last) in
        subst (λ (j : ℕ). is_set (with_bit (came n) (place dord n) (read_at n)) (place dord j) ≡ read_at j) same (bit_written (came n) (place dord n) (read_at n))
  ]

  came_byte : (n : ℕ) → n ≤ 8 → came n < 256
  unfolding came
  came_byte zero few = omega arith
  came_byte (suc n) few = bits_written 8 (came n) (place dord n) (read_at n) (came_byte n (omega (arith, few))) (place_below dord n few)

  -- ---- its end

  record IsOver (n : ℕ) : Type 0 where
    transfer : (at n).shifter.transfer ≡ None
    mosi : (at n).shifter.mosi ≡ is_set x (place dord 7)
    spif : (at n).shifter.spif ≡ true
    buffer : (at n).shifter.buffer ≡ came 8

  ends_so : IsOver (8 * d + 1)
  unfolding came
  ends_so =
      let seven : 7 < 8 = omega arith in
      let e = ends acts levels u v t x d h two least free.master free.unselected 7 (7 * d) (came 7) (within 7 seven) (bit_begins 7 seven) in
      let cycle : suc (7 * d + d) ≡ 8 * d + 1 = omega arith in
      subst IsOver cycle (record {
        transfer = ap (λ (s : Shifter). s.transfer) e.step.new;
        mosi = ap (λ (s : Shifter). s.mosi) e.step.new ∙ e.step.mosi ∙ e.mosi_is;
        spif = ap (λ (s : Shifter). s.spif) e.step.new;
        buffer = ap (λ (s : Shifter). s.buffer) e.step.new;
      })

  transferred : IsTransferred acts levels u v t x
  transferred = record {
    mosi = λ i n less more le. pad_mosi i n (in_bit i n less more (subst (λ (k : ℕ). n ≤ k) (next_row i d) le));
    first = λ i n less more le. pad_sck n (bit_at i First (t + i * d + h) (came i)) (first_of_bit i n less more le) ∙ ap valued (sck_first (is_set u.spcr 3) (is_set u.spcr 2));
    second = λ i n less more le.
        let s = rest_of_bit i n less more (subst (λ (k : ℕ). n ≤ k) (next_row i d) le) in
        pad_sck n (bit_at i s.phase s.event s.r') s.stands
        ∙ ap (λ (b : Bool). valued (differ (is_set u.spcr 3) (differ (is_set u.spcr 2) b))) s.second
        ∙ ap valued (sck_second (is_set u.spcr 3) (is_set u.spcr 2));
    input = λ n some le. let b = some_bit 8 n (omega arith) some le in pad_miso b.i n b.on_way;
    waits = λ n some le none. let b = some_bit 8 n (omega arith) some le in b.on_way.stands_so.clear none;
    keeps = λ n some le. let b = some_bit 8 n (omega arith) some le in b.on_way.stands_so.buffer;
    spif = ends_so.spif;
    read = λ i less. ap (λ (r : ℕ). is_set r (place dord i)) ends_so.buffer ∙ came_bits 8 (omega arith) i less ∙ ap (λ (k : ℕ). miso (levels (t + k))) (one_more (i * d + h));
    byte = subst (λ (k : ℕ). k < 256) (sym ends_so.buffer) (came_byte 8 (omega arith));
    over = ends_so.transfer;
    rests = ends_so.mosi;
  }
    where
      one_more : (k : ℕ) → suc k ≡ k + 1
      one_more k = omega arith

      next_row : (i k : ℕ) → (i + 1) * k ≡ i * k + k
      next_row i k = let e : i + 1 ≡ suc i = omega arith in ap (λ (j : ℕ). j * k) e ∙ suc-mul i k

pub spi_transfers : (u : Spi) (t x : ℕ) → Transfers u (with_register u t SPDR x) t x
spi_transfers u t x = record { transfer = λ acts levels free. transferred acts levels u t x free }
