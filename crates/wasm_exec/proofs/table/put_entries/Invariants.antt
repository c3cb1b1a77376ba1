use Rattle.std.proofs.Common.{◌≡◌, take}
use Rattle.wasm_exec.specs.Programs.{put_entries}
use Rattle.wasm_exec.proofs.table.put_entries.Given as goal

abbrev pub invariant-loop-i : goal.invariant-loop-i
invariant-loop-i l = l.table ≡ put_entries l.at (take l.i l.functions) l.initial.table
