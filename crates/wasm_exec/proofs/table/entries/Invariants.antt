use Rattle.std.proofs.Common.{◌≡◌, map, take}
use Rattle.wasm_exec.specs.Compiled.{entry_of}
use Rattle.wasm_exec.proofs.table.entries.Given as goal

abbrev pub invariant-loop-function : goal.invariant-loop-function
invariant-loop-function l = l.found ≡ map (entry_of l.rows l.numbers) (take l.function-index l.table)
