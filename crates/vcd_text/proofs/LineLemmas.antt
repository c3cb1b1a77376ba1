-- What holds of what a line says.
use Rattle.std.proofs.Common.{◌≡◌, ◌&&◌, ◌==◌, ℕ, List, not, Bool, true, false, if◌then◌else◌, Option, None, Some, refl}
use Rattle.std.specs.Prelude.{slice_get}
use Rattle.std.specs.Option.{option_map}
use Rattle.std.proofs.lemmas.Option.{slice_get_within}
use Rattle.sim_refusals.specs.Refusals.{WaveLine}
use Rattle.text_model.specs.Wave.{Variable, char_x}
use Rattle.wave_lines.specs.declared.line.Line.TheVariants as says
use Rattle.wave_lines.specs.Reading.{value_of_variable}
use Rattle.vcd_text.specs.Lines.{IsFitting}
use Rattle.vcd_text.specs.Reading.{shows_net, kinds}

module _ (vs : List Variable) (n cycle : ℕ) where
  variable_fits : (value i : ℕ) (o : Option Variable) → slice_get vs i ≡ o → IsFitting vs n cycle (value_of_variable value i (option_map (λ (v : Variable). shows_net v.shows) o))
  variable_fits value i None e = tt
  variable_fits value i (Some v) e = by (value == char_x && not (shows_net v.shows))
    where
      by : (b : Bool) → IsFitting vs n cycle (if b then says.Faulty WaveLine else says.Value i value)
      by true = tt
      by false = slice_get_within vs i v e

  -- a value is that of a variable
  pub value_fits : (value i : ℕ) → IsFitting vs n cycle (value_of_variable value i (kinds vs i))
  value_fits value i = variable_fits value i (slice_get vs i) refl
