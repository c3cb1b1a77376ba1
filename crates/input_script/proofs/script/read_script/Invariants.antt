use Rattle.std.proofs.Common.{◌≡◌, ◌+◌, ◌≤◌, length}
use Rattle.text_model.specs.Lines.{lines}
use Rattle.input_script.specs.Script.{script_of, with_rows, rows_from}
use Rattle.input_script.proofs.script.read_script.Given as goal

abbrev pub invariant-loop-rest : goal.invariant-loop-rest
invariant-loop-rest l = record {
  reading : with_rows l.rows (rows_from l.number l.last (length l.rows) (lines l.rest)) ≡ script_of l.bytes;
  number : l.number + length l.rest ≤ length l.bytes + 1;
}

abbrev pub decreases-loop-rest : goal.decreases-loop-rest
decreases-loop-rest l = length l.rest
