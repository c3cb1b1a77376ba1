-- The numbers of traps.
use Rattle.std.specs.Prelude.{ℕ}
use Rattle.wasm_num.specs.declared.trap.Trap.{Trap}
use Rattle.wasm_num.specs.declared.trap.Trap.TheVariants.{Unreachable, MemoryBounds, DivideByZero, Overflow, TableBounds, NoElement, TypeMismatch, Exhausted, Budget, HostAddress, HostString, HostPhase, HostLimit, Float}

abbrev pub number_of : Trap → ℕ
number_of Unreachable = 1
number_of MemoryBounds = 2
number_of DivideByZero = 3
number_of Overflow = 4
number_of TableBounds = 5
number_of NoElement = 6
number_of TypeMismatch = 7
number_of Exhausted = 8
number_of Budget = 9
number_of HostAddress = 10
number_of HostString = 11
number_of HostPhase = 12
number_of HostLimit = 13
number_of Float = 14
