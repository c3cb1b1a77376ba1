use Rattle.std.proofs.Common.{◌≡◌, map, take}
use Rattle.wasm_semantics.specs.Values.{HasTypes}
use Rattle.wasm_interpreter.specs.Machine.{slot}
use Rattle.wasm_interpreter.specs.Loaded.{value_types}
use Rattle.wasm_validate.specs.Rules.{kinds_of}
use Rattle.wasm_exec.specs.Programs.{constants}
use Rattle.wasm_exec.proofs.first.first_globals.Given as goal

abbrev pub invariant-loop-global : goal.invariant-loop-global
invariant-loop-global l = record {
  slots : l.slots ≡ map slot (constants (take l.global-index l.globals));
  typed : HasTypes (constants (take l.global-index l.globals)) (value_types (kinds_of (take l.global-index l.globals)));
}
