use Rattle.std.proofs.Common.{◌≡◌, ◌≤◌, ◌+◌, length, List}
use Rattle.wave_lines.specs.Reading.{Change}
use Rattle.vcd_text.specs.Reading.{changes_of}
use Rattle.vcd_text.specs.TrackStates.{AreSaid}
use Rattle.vcd_text.proofs.ReadingLemmas.{from_here}
use Rattle.vcd_text.proofs.read.read_wave.Given as goal

abbrev pub invariant-loop-line : goal.invariant-loop-line
invariant-loop-line l = record {
  number : l.number + length l.rest ≤ length l.bytes + 1;
  first : 1 ≤ l.number;
  cycle : l.cycle ≤ l.n;
  said : (said : List Change) × AreSaid l.head.variables l.pins l.cycle said l.tracks ×
      (from_here l.head.variables l.n l.number l.stage l.cycle said l.rest ≡ changes_of l.head.variables l.n l.bytes);
}

abbrev pub decreases-loop-line : goal.decreases-loop-line
decreases-loop-line l = length l.rest
