-- A conversion of the ADC (data sheet, "Analog-to-Digital Converter", "Prescaling and Conversion Timing"; the exact cycle of its end
-- is the profile's).
use Rattle.std.specs.Prelude.{◌≡◌, ℕ, ◌+◌, ◌*◌, ◌%◌, ◌≤◌, ◌||◌, not, true, false, if◌then◌else◌, List, None, Some, is_some}
use Rattle.sim_base.specs.declared.signal.Level.{Level}
use Rattle.avr_unit.specs.Bits.{is_set}
use Rattle.avr_adc.specs.Adc.{Adc, adc, begun, divisor, sampled, is_free_running}
use Rattle.avr_unit_model.specs.Life.{Act, Nothing, state, stepping}

-- how long a conversion takes that begins where x is written: 25 clocks of the ADC the first time after ADEN was set, which this write
-- may do, else 13
abbrev pub length_of : Adc → ℕ → ℕ
length_of u x = (if u.first || not u.aden then 25 else 13) * divisor (x % 8)

-- The ADC is v in cycle t, after what the processor did there before acts t.
module _ (acts : ℕ → Act) (levels : ℕ → List Level) (v : Adc) (t : ℕ) where
  -- at the beginning of cycle t + n, from the next one on
  abbrev pub at : ℕ → Adc
  at n = state adc acts levels v t n

  -- A conversion of a channel, from cycle t + from on up to the step of cycle t + last.
  pub record IsConverted (from last channel : ℕ) : Type 0 where
    -- ADSC reads 1 all that time
    pub busy : (n : ℕ) → from ≤ n → n ≤ last → is_some (at n).conversion ≡ true
    -- ADIF and the result stay; the processor may clear ADIF
    pub waits : (n : ℕ) → from ≤ n → n ≤ last → (at from).adif ≡ false → (at n).adif ≡ false
    pub keeps : (n : ℕ) → from ≤ n → n ≤ last → (at n).result ≡ (at from).result
    -- in the last cycle ADIF is set, and the value is taken; if ADCL was read and ADCH was not, the result of before stays
    pub adif : (at (last + 1)).adif ≡ true
    pub value : (stepping adc acts levels v t last).locked ≡ false → (at (last + 1)).result ≡ sampled (levels (t + last)) channel
    pub kept : (stepping adc acts levels v t last).locked ≡ true → (at (last + 1)).result ≡ (at from).result
    -- ADSC is cleared; in free running mode another conversion begins there, of 13 clocks and the channel that is chosen then
    pub ends : is_free_running (stepping adc acts levels v t last) ≡ false → (at (last + 1)).conversion ≡ None
    pub begins : is_free_running (stepping adc acts levels v t last) ≡ true →
        (at (last + 1)).conversion ≡ Some (begun (t + last) 13 (stepping adc acts levels v t last).adps (stepping adc acts levels v t last).admux)
    -- ADEN is still set, and a further conversion takes 13 clocks
    pub enabled : (at (last + 1)).aden ≡ true
    pub further : (at (last + 1)).first ≡ false

  -- how long the next conversion takes that begins in the step of cycle t + last
  abbrev pub next_length : ℕ → ℕ
  next_length last = 13 * divisor (stepping adc acts levels v t last).adps

-- ADCSRA is written with x in cycle t; the ADC is u before that, and v then.
module _ (acts : ℕ → Act) (levels : ℕ → List Level) (u v : Adc) (t x : ℕ) where
  -- ADEN and ADSC are written, and no conversion is on the way. In cycle t the processor does nothing more; for so many cycles it leaves
  -- ADEN set.
  pub record IsStarted (cycles : ℕ) : Type 0 where
    pub idle : u.conversion ≡ None
    pub aden : is_set x 7 ≡ true
    pub adsc : is_set x 6 ≡ true
    pub nothing : acts t ≡ Nothing
    pub enabled : (n : ℕ) → n ≤ cycles → (stepping adc acts levels v t n).aden ≡ true

-- What comes of the write, whatever else the processor does then and whatever is on the pins.
pub record Converts (u v : Adc) (t x : ℕ) : Type 0 where
  -- a conversion of the channel that ADMUX chose
  pub conversion : (acts : ℕ → Act) (levels : ℕ → List Level) → IsStarted acts levels u v t x (length_of u x) → IsConverted acts levels v t 1 (length_of u x) (u.admux % 16)
  -- and in free running mode one after the other
  pub next : (acts : ℕ → Act) (levels : ℕ → List Level) (from last channel : ℕ) → IsConverted acts levels v t from last channel →
      is_free_running (stepping adc acts levels v t last) ≡ true →
      ((n : ℕ) → n ≤ last + next_length acts levels v t last → (stepping adc acts levels v t n).aden ≡ true) →
      IsConverted acts levels v t (last + 1) (last + next_length acts levels v t last) ((stepping adc acts levels v t last).admux % 16)
