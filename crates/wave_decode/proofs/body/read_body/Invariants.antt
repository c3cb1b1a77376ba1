use Rattle.std.proofs.Common.{◌≡◌, ◌<◌, ◌≤◌, ◌+◌, length, List}
use Rattle.wave_lines.specs.Reading.{Change}
use Rattle.wave_lines.proofs.ReadingLemmas.{from_here}
use Rattle.wave_decode.specs.Bodies.{AreKept}
use Rattle.wave_decode.specs.Levels.{at_end, below, changes_in, last_cycle}
use Rattle.wave_decode.proofs.body.read_body.Given as goal

abbrev pub invariant-loop-line : goal.invariant-loop-line
invariant-loop-line l = record {
  number : l.number + length l.rest < 4294967297;
  first_line : 1 ≤ l.number;
  early : l.cycle ≤ last_cycle;
  said : (said : List Change) × AreKept l.head.variables l.first l.second l.cycle said l.given l.of_first.items l.of_second.items
      × (from_here (below l.head.variables) last_cycle (at_end l.head.variables) l.number l.stage l.cycle said l.rest ≡ changes_in l.head.variables l.head.number l.head.rest.now);
}

abbrev pub decreases-loop-line : goal.decreases-loop-line
decreases-loop-line l = length l.rest
