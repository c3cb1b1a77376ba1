-- The variables that a list names.
use Rattle.std.specs.Prelude.{List, map, string_bytes}
use Rattle.text_model.specs.Wave as wave
use Rattle.vcd_text.specs.declared.variable.Source.{Source}
use Rattle.vcd_text.specs.declared.variable.Source.TheVariants as sources
use Rattle.vcd_text.specs.declared.variable.Variable.{Variable}

abbrev pub source_of : Source → wave.Source
source_of (sources.Net n) = wave.Net n
source_of (sources.Strong p) = wave.Strong p
source_of (sources.Weak p) = wave.Weak p

abbrev pub variable_of : Variable → wave.Variable
variable_of v = record { name = string_bytes v.name; shows = source_of v.shows }

abbrev pub variables_of : List Variable → List wave.Variable
variables_of = map variable_of
