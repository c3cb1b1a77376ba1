use Rattle.std.proofs.Common.{◌≡◌, ◌≤◌, ◌+◌, ◌++◌, [], length}
use Rattle.text_model.specs.Wave.{declarations}
use Rattle.wave_lines.specs.Reading.{ended_lines, line_count}
use Rattle.wave_decode.specs.Head.{names_from, nets}
use Rattle.wave_decode.specs.Names.{texts_in}
use Rattle.wave_decode.proofs.head.read_head.Given as goal

abbrev pub invariant-loop-name : goal.invariant-loop-name
invariant-loop-name l = record {
  names_so_far : names_from (texts_in l.names.keys) (ended_lines l.rest) ≡ names_from [] (ended_lines l.initial.rest);
  text : l.initial.rest ≡ declarations 0 (nets (texts_in l.names.keys)) ++ l.rest;
  counted : l.number ≡ l.initial.number + line_count (declarations 0 (nets (texts_in l.names.keys)));
  within : l.number + length l.rest ≤ l.initial.number + length l.initial.rest;
}

abbrev pub decreases-loop-name : goal.decreases-loop-name
decreases-loop-name l = length l.rest
