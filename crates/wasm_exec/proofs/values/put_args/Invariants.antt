use Rattle.std.proofs.Common.{◌≡◌, map, take}
use Rattle.wasm_interpreter.specs.Machine.{slot}
use Rattle.wasm_exec.proofs.values.put_args.Given as goal

abbrev pub invariant-loop-i : goal.invariant-loop-i
invariant-loop-i l = take l.i l.slots ≡ map slot (take l.i l.args)
