-- The transfer of an SPI master, bit by bit and cycle by cycle.
use Rattle.std.proofs.Common.{◌≡◌, ℕ, zero, suc, ◌+◌, ◌-◌, ◌*◌, ◌<◌, ◌≤◌, ◌∙◌, inl, inr, List, Bool, true, false, Option, Some, refl, ap, sym, subst, arith}
use Rattle.std.specs.Prelude.{◌==◌, ◌&&◌, not, if◌then◌else◌}
use Rattle.std.proofs.lemmas.Bool.{cond-true, cond-false, cases_lt, eqb-true, eq-eqb, ne_eqb, true≢false}
use Rattle.sim_base.specs.declared.signal.Level.{Level}
use Rattle.avr_unit.specs.Bits.{is_set, with_bit}
use Rattle.avr_spi.specs.declared.shifter.Phase.{Phase}
use Rattle.avr_spi.specs.declared.shifter.Phase.TheVariants.{First, Sampling, Second}
use Rattle.avr_spi.specs.declared.shifter.Transfer.{Transfer}
use Rattle.avr_spi.specs.declared.shifter.Shifter.{Shifter}
use Rattle.avr_spi.specs.Shifter.{mosi_of, going, bit_over, acted as moved, shifted, is_second}
use Rattle.avr_spi.specs.Spi.{Spi, spi, is_master, ss_low, miso}
use Rattle.avr_unit_model.specs.Life.{Act, before, state, stepping}
use Rattle.avr_spi.specs.SpiTransfer.{place}
use Rattle.avr_spi.proofs.TransferLemmas.{kept_act, one_cycle}

-- The SPI is u where SPDR is written in cycle t, and v then; d is the cycles of a bit, and h those of half a bit.
module _ (acts : ℕ → Act) (levels : ℕ → List Level) (u v : Spi) (t x d h : ℕ) (two : d ≡ h + h) (least : 1 ≤ h)
    (masters : (n : ℕ) → n ≤ 8 * d → is_master (stepping spi acts levels v t n).spcr ≡ true)
    (unselected : (n : ℕ) → n ≤ 8 * d → (not (is_set (stepping spi acts levels v t n).ddrb 2) && ss_low (levels (t + n))) ≡ false) where
  abbrev pub at : ℕ → Spi
  at n = state spi acts levels v t n

  abbrev pub dord : Bool
  dord = is_set u.spcr 5

  -- bit i on the way
  abbrev pub bit : ℕ → Phase → ℕ → ℕ → Transfer
  bit i phase event r = record { dord = dord; cpol = is_set u.spcr 3; cpha = is_set u.spcr 2; half = h; byte = x; read = r; place = i; phase = phase; event = event }

  -- what MISO reads in cycle t + n
  abbrev pub input : ℕ → Bool
  input n = miso (levels (t + n))

  pub record Stands (n : ℕ) (y : Transfer) : Type 0 where
    pub transfer : (at n).shifter.transfer ≡ Some y
    pub mosi : (at n).shifter.mosi ≡ mosi_of y
    pub master : is_master (at n).spcr ≡ true
    pub buffer : (at n).shifter.buffer ≡ u.shifter.buffer
    pub clear : u.shifter.spif ≡ false → (at n).shifter.spif ≡ false

  -- the shift register that steps in cycle t + n, and what it becomes
  pub record Steps (n : ℕ) (y : Transfer) (after : Shifter → Shifter) : Type 0 where
    pub old : Shifter
    pub new : (at (suc n)).shifter ≡ after old
    pub transfer : old.transfer ≡ Some y
    pub mosi : old.mosi ≡ mosi_of y
    pub master : is_master (at (suc n)).spcr ≡ true
    pub buffer : old.buffer ≡ u.shifter.buffer
    pub clear : u.shifter.spif ≡ false → old.spif ≡ false

  steps : (n : ℕ) (y : Transfer) → n ≤ 8 * d → Stands n y → Steps n y (λ s. shifted s (Some y) (t + n) (input n))
  unfolding state
  steps n y le s =
      let now = stepping spi acts levels v t n in
      let k = kept_act (at n) (t + n) (acts (t + n)) y s.transfer (masters n le) in
      let one = one_cycle now (t + n) (ss_low (before levels (t + n))) (ss_low (levels (t + n))) (input n) (unselected n le) in
      record {
        old = now.shifter;
        new = ap (λ (w : Spi). w.shifter) one ∙ ap (λ (o : Option Transfer). shifted now.shifter o (t + n) (input n)) (k.transfer ∙ s.transfer);
        transfer = k.transfer ∙ s.transfer;
        mosi = k.mosi ∙ s.mosi;
        master = ap (λ (w : Spi). is_master w.spcr) one ∙ masters n le;
        buffer = k.buffer ∙ s.buffer;
        clear = λ none. k.clear (s.clear none);
      }

  -- nothing changes before the next event
  pub waits : (n : ℕ) (y : Transfer) → n ≤ 8 * d → t + n < y.event → Stands n y → Stands (suc n) y
  waits n y le soon s =
      let p = steps n y le s in
      let same : (at (suc n)).shifter ≡ p.old = p.new ∙ cond-false (y.event == t + n) (moved p.old y y.phase (t + n) (input n)) p.old (ne_eqb y.event (t + n) (λ e. omega (arith, e, soon))) in
      record {
        transfer = ap (λ (z : Shifter). z.transfer) same ∙ p.transfer;
        mosi = ap (λ (z : Shifter). z.mosi) same ∙ p.mosi;
        master = p.master;
        buffer = ap (λ (z : Shifter). z.buffer) same ∙ p.buffer;
        clear = λ none. ap (λ (z : Shifter). z.spif) same ∙ p.clear none;
      }

  pub stays : (k n m : ℕ) (y : Transfer) → m ≡ n + k → m ≤ suc (8 * d) → t + m ≤ y.event → Stands n y → Stands m y
  stays zero n m y e le soon s = let same : n ≡ m = omega (arith, e) in subst (λ (j : ℕ). Stands j y) same s
  stays (suc k) n m y e le soon s =
      let last : suc (n + k) ≡ m = omega (arith, e) in
      let before_it : t + (n + k) < y.event = omega (arith, e, soon) in
      subst (λ (j : ℕ). Stands j y) last (waits (n + k) y (omega (arith, e, le)) before_it (stays k n (n + k) y refl (omega (arith, e, le)) (omega (arith, e, soon)) s))

  -- an event comes
  acts_now : (n : ℕ) (y : Transfer) → n ≤ 8 * d → y.event ≡ t + n → Stands n y → Steps n y (λ s. moved s y y.phase (t + n) (input n))
  acts_now n y le now s =
      let p = steps n y le s in
      record {
        old = p.old;
        new = p.new ∙ cond-true (y.event == t + n) (moved p.old y y.phase (t + n) (input n)) p.old (eq-eqb y.event (t + n) now);
        transfer = p.transfer;
        mosi = p.mosi;
        master = p.master;
        buffer = p.buffer;
        clear = p.clear;
      }

  goes : (n : ℕ) (y z : Transfer) → Steps n y (λ s. going s z) → Stands (suc n) z
  goes n y z p = record {
    transfer = ap (λ (s : Shifter). s.transfer) p.new;
    mosi = ap (λ (s : Shifter). s.mosi) p.new;
    master = p.master;
    buffer = ap (λ (s : Shifter). s.buffer) p.new ∙ p.buffer;
    clear = λ none. ap (λ (s : Shifter). s.spif) p.new ∙ p.clear none;
  }

  -- what a step does, told in another way
  same_step : (n : ℕ) (y : Transfer) (f g : Shifter → Shifter) → ((s : Shifter) → f s ≡ g s) → Steps n y f → Steps n y g
  same_step n y f g e p = record { old = p.old; new = p.new ∙ e p.old; transfer = p.transfer; mosi = p.mosi; master = p.master; buffer = p.buffer; clear = p.clear }

  -- bit i begins after cycle t + b
  module _ (i b r : ℕ) (within : b + d ≤ 8 * d) (begins : Stands (suc b) (bit i First (t + b + h) r)) where
    pub in_first : (n : ℕ) → b < n → n ≤ b + h → Stands n (bit i First (t + b + h) r)
    in_first n more le = stays (n - suc b) (suc b) n (bit i First (t + b + h) r) (omega (arith, more)) (omega (arith, le, within, two)) (omega (arith, le)) begins

    reading : Stands (suc (b + h)) (bit i Sampling (t + (b + h) + 1) r)
    reading = goes (b + h) (bit i First (t + b + h) r) (bit i Sampling (t + (b + h) + 1) r)
        (acts_now (b + h) (bit i First (t + b + h) r) (omega (arith, within, two)) (omega arith) (in_first (b + h) (omega (arith, least)) (omega arith)))

    abbrev pub taken : ℕ
    taken = with_bit r (place dord i) (input (suc (b + h)))

    read_now : Steps (suc (b + h)) (bit i Sampling (t + (b + h) + 1) r)
        (λ s. if h == 1 then bit_over s (bit i Sampling (t + (b + h) + 1) taken) (t + suc (b + h)) else going s (bit i Second (t + suc (b + h) + (h - 1)) taken))
    read_now = acts_now (suc (b + h)) (bit i Sampling (t + (b + h) + 1) r) (omega (arith, within, two, least)) (omega arith) reading

    rest_begins : (h == 1) ≡ false → Stands (suc (suc (b + h))) (bit i Second (t + suc (b + h) + (h - 1)) taken)
    rest_begins more = goes (suc (b + h)) (bit i Sampling (t + (b + h) + 1) r) (bit i Second (t + suc (b + h) + (h - 1)) taken)
        (same_step (suc (b + h)) (bit i Sampling (t + (b + h) + 1) r) _ (λ s. going s (bit i Second (t + suc (b + h) + (h - 1)) taken)) (λ s. cond-false (h == 1) _ _ more) read_now)

    in_rest : (h == 1) ≡ false → (n : ℕ) → suc (b + h) < n → n ≤ b + d → Stands n (bit i Second (t + suc (b + h) + (h - 1)) taken)
    in_rest long n more le = stays (n - suc (suc (b + h))) (suc (suc (b + h))) n (bit i Second (t + suc (b + h) + (h - 1)) taken)
        (omega (arith, more)) (omega (arith, le, within)) (omega (arith, le, two, least)) (rest_begins long)

    -- in the second half MISO is being read, or has been
    pub record Half (n : ℕ) : Type 0 where
      pub phase : Phase
      pub event : ℕ
      pub r' : ℕ
      pub stands : Stands n (bit i phase event r')
      pub second : is_second phase ≡ true

    pub in_second : (n : ℕ) → b + h < n → n ≤ b + d → Half n
    in_second n more le = elim (cases_lt (suc (b + h)) n) [
      | inl later ↦ record {
        phase = Second;
        event = t + suc (b + h) + (h - 1);
        r' = taken;
        stands = in_rest (ne_eqb h 1 (λ e. omega (arith, later, le, two, e))) n later le;
        second = refl;
      }
      | inr soon ↦
          let here : suc (b + h) ≡ n = omega (arith, more, soon) in
          record {
            phase = Sampling;
            event = t + (b + h) + 1;
            r' = r;
            stands = subst (λ (j : ℕ). Stands j (bit i Sampling (t + (b + h) + 1) r)) here reading;
            second = refl;
          }
    ]

    -- its last cycle is t + b + d
    pub record Ends (n : ℕ) : Type 0 where
      pub y : Transfer
      pub phase : Phase
      pub event : ℕ
      pub mosi_is : mosi_of y ≡ is_set x (place dord i)
      pub step : Steps n y (λ s. bit_over s (bit i phase event taken) (t + n))

    pub ends : Ends (b + d)
    ends = by (h == 1) refl
      where
        by : (one : Bool) → (h == 1) ≡ one → Ends (b + d)
        by true short =
            let e : h ≡ 1 = eqb-true h 1 short in
            let last : suc (b + h) ≡ b + d = omega (arith, two, e) in
            subst Ends last (record {
              y = bit i Sampling (t + (b + h) + 1) r;
              phase = Sampling;
              event = t + (b + h) + 1;
              mosi_is = refl;
              step = same_step (suc (b + h)) (bit i Sampling (t + (b + h) + 1) r) _ (λ s. bit_over s (bit i Sampling (t + (b + h) + 1) taken) (t + suc (b + h))) (λ s. cond-true (h == 1) _ _ short) read_now;
            })
        by false long =
            let more : h ≡ 1 → ⊥ = λ e. true≢false (sym (eq-eqb h 1 e) ∙ long) in
            record {
              y = bit i Second (t + suc (b + h) + (h - 1)) taken;
              phase = Second;
              event = t + suc (b + h) + (h - 1);
              mosi_is = refl;
              step = acts_now (b + d) (bit i Second (t + suc (b + h) + (h - 1)) taken) within (omega (arith, two, least)) (in_rest long (b + d) (grind (arith, two, least, more)) (omega arith));
            }

    pub next : (j c : ℕ) → i < 7 → j ≡ i + 1 → c ≡ b + d → Stands (suc c) (bit j First (t + c + h) taken)
    next j c less e f =
        let n = ends in
        let went : Stands (suc (b + d)) (bit (i + 1) First (t + (b + d) + h) taken)
        = goes (b + d) n.y (bit (i + 1) First (t + (b + d) + h) taken) (same_step (b + d) n.y _ _ (λ s. cond-false (i == 7) _ _ (ne_eqb i 7 (λ same. omega (arith, same, less)))) n.step) in
        subst (λ (k : ℕ). Stands (suc k) (bit j First (t + k + h) taken)) (sym f) (subst (λ (k : ℕ). Stands (suc (b + d)) (bit k First (t + (b + d) + h) taken)) (sym e) went)
