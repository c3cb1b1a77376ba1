-- The cycles in which a counter ticks (data sheet, "Timer/Counter0 and Timer/Counter1 Prescalers"; the exact cycles are the
-- profile's).
use Rattle.std.specs.Prelude.{◌≡◌, ℕ, zero, suc, ◌+◌, ◌-◌, ◌*◌, ◌/◌, ◌%◌, ◌<◌, ◌≤◌, ◌==◌, ◌&&◌, nat_lt, Bool, true, false, if◌then◌else◌, Option, Some, None}
use Rattle.sim_base.specs.declared.limits.TheConstants.{MOST_CYCLES}
use Rattle.avr_timer.specs.declared.counter.Counter.{Counter}
use Rattle.avr_timer.specs.declared.timing.Timing.{Timing}
use Rattle.avr_timer.specs.Count.{tick, has_event}

-- Each multiple of the divisor after the prescaler's last reset, but no cycle in which the count is written.
abbrev pub is_tick : Timing → ℕ → Bool
is_tick k t = nat_lt 0 k.divisor && nat_lt k.reset t && nat_lt k.written t && ((t - k.reset) % k.divisor == 0)

-- one cycle
abbrev pub counter_step : Timing → Counter → ℕ → Counter
counter_step k s t = if is_tick k t then tick k.mode s else s

abbrev pub counter_due : Timing → Counter → ℕ → Bool
counter_due k s t = is_tick k t && has_event k.mode s

-- the n cycles from t on
unfoldable pub counter_steps : Timing → Counter → ℕ → ℕ → Counter
counter_steps k s t zero = s
counter_steps k s t (suc n) = counter_step k (counter_steps k s t n) (t + n)

abbrev pub IsStill : Timing → Counter → ℕ → ℕ → Type 0
IsStill k s t n = (j : ℕ) → j < n → counter_due k (counter_steps k s t j) (t + j) ≡ false

abbrev pub IsNext : Timing → Counter → ℕ → Option ℕ → Type 0
IsNext k s t None = IsStill k s t (MOST_CYCLES - t)
IsNext k s t (Some u) = (t ≤ u) × (u < MOST_CYCLES) × IsStill k s t (u - t) × (counter_due k (counter_steps k s t (u - t)) u ≡ true)

-- the ticks of a prescaler in its first x cycles: none in the cycle of the reset
abbrev pub ticks_in : ℕ → ℕ → ℕ
ticks_in d x = (x - 1) / d

-- the first cycle from t on that may tick
abbrev pub begins : Timing → ℕ → ℕ
begins k t = if nat_lt k.written t then t else t + 1

abbrev pub ticks_to : Timing → ℕ → ℕ
ticks_to k t = ticks_in k.divisor (t - k.reset)

-- the ticks in the cycles from t to before u
abbrev pub passed : Timing → ℕ → ℕ → ℕ
passed k t u = if nat_lt 0 k.divisor then ticks_to k u - ticks_to k (begins k t) else 0

-- the cycle of the tick after w more ones
abbrev pub tick_after : Timing → ℕ → ℕ → ℕ
tick_after k t w = k.reset + (ticks_to k (begins k t) + w + 1) * k.divisor

-- the times of a counter at cycle t
pub record Begun (k : Timing) (t : ℕ) : Type 0 where
  pub reset : k.reset ≤ t
  pub written : k.written ≤ t
