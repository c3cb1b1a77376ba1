-- The numbers that arguments are. No public clause cites it.
use Rattle.std.specs.Prelude.{ℕ}
use Rattle.wasm_num.specs.declared.value.Value.{Value}
use Rattle.wasm_num.specs.declared.value.Value.TheVariants.{I32, I64}

abbrev pub number_of : Value → ℕ
number_of (I32 n) = n
number_of _ = 0

abbrev pub long_of : Value → ℕ
long_of (I64 n) = n
long_of _ = 0
