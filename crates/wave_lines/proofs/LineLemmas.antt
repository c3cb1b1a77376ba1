-- What holds of what a line says.
use Rattle.std.proofs.Common.{◌≡◌, ◌<◌, ◌≤◌, ◌*◌, ◌/◌, ◌%◌, ◌&&◌, ◌==◌, ℕ, List, [], ◌∷◌, nat_lt, nat_le, Bool, true, false, if◌then◌else◌, Option, None, Some, refl, arith}
use Rattle.std.proofs.lemmas.Bool.{and_parts, eqb-true}
use Rattle.std.proofs.lemmas.Bool.Decides.{nat_tests}
use Rattle.sim_refusals.specs.Refusals.{WaveLine, WaveTime}
use Rattle.text_numerals.specs.Numerals.{value_of}
use Rattle.wave_lines.specs.declared.line.Line.TheVariants as says
use Rattle.wave_lines.specs.declared.line.Stage.{Stage}
use Rattle.wave_lines.specs.Timely.{IsTimely}
use Rattle.wave_lines.specs.Reading.{is_decimal, is_value, judged, number_of, time_said, value_of_number, value_said}

module _ (n cycle : ℕ) where
  judged_fits : (time : ℕ) → IsTimely n cycle (judged n cycle time)
  judged_fits time = by (time % 625 == 0 && (nat_lt (625 * cycle) time && nat_le time (625 * n))) refl
    where
      by : (b : Bool) → (time % 625 == 0 && (nat_lt (625 * cycle) time && nat_le time (625 * n))) ≡ b → IsTimely n cycle (if b then says.Time (time / 625) else says.Faulty WaveTime)
      by false e = tt
      by true e =
          let (whole, rest) = and_parts (time % 625 == 0) (nat_lt (625 * cycle) time && nat_le time (625 * n)) e in
          let (late, early) = and_parts (nat_lt (625 * cycle) time) (nat_le time (625 * n)) rest in
          let divides : time % 625 ≡ 0 = eqb-true (time % 625) 0 whole in
          let after : 625 * cycle < time = grind (arith, nat_tests, late) in
          let within : time ≤ 625 * n = grind (arith, nat_tests, early) in
          (omega (arith, divides, after), omega (arith, divides, within))

  pub time_fits : (text : List ℕ) → IsTimely n cycle (time_said n cycle text)
  time_fits [] = tt
  time_fits (mark ∷ digits) = by (mark == 35 && is_decimal digits)
    where
      by : (b : Bool) → IsTimely n cycle (if b then judged n cycle (value_of 10 digits) else says.Faulty WaveLine)
      by true = judged_fits (value_of 10 digits)
      by false = tt

  number_fits : (value : ℕ) (o : Option ℕ) → IsTimely n cycle (value_of_number value o)
  number_fits value None = tt
  number_fits value (Some i) = tt

  pub value_fits : (text : List ℕ) → IsTimely n cycle (value_said text)
  value_fits [] = tt
  value_fits (value ∷ code) = by (is_value value)
    where
      by : (b : Bool) → IsTimely n cycle (if b then value_of_number value (number_of code) else says.Faulty WaveLine)
      by true = number_fits value (number_of code)
      by false = tt

  pub one_of : (b : Bool) (next : Stage) → IsTimely n cycle (if b then says.Goes next else says.Faulty WaveLine)
  one_of true next = tt
  one_of false next = tt
