use Rattle.std.proofs.Common.{◌≡◌, ◌<◌, ℕ, [], true, Some}
use Rattle.std.specs.Prelude.{slice_get}
use Rattle.text_model.specs.Wave.{Source}
use Rattle.vcd_text.specs.Variables.{variables_of}
use Rattle.vcd_text.specs.Chains.{sources}
use Rattle.vcd_text.specs.Pins.{is_among, drive_as_kept}
use Rattle.vcd_text.proofs.pins.pins_of.Given as goal

abbrev pub invariant-loop-i : goal.invariant-loop-i
invariant-loop-i l = record {
  among : (k : ℕ) (s : Source) → k < l.i → slice_get (sources (variables_of l.variables)) k ≡ Some s → is_among l.pins.items s ≡ true;
  kept : drive_as_kept [] l.pins.items ≡ true;
}
