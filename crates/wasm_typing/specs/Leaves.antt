-- Whether operands were there, and what is left then. No public clause cites it.
use Rattle.std.specs.Prelude.{◌≡◌, List, Option, Some, None, Bool, true, false}
use Rattle.wasm_typing.specs.Checking.{Operand}

abbrev pub Leaves : Bool → Option (List Operand) → List Operand → Type 0
Leaves true o new = o ≡ Some new
Leaves false o new = o ≡ None
