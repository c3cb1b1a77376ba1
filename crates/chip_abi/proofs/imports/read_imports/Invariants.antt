use Rattle.std.proofs.Common.{◌≡◌, ◌+◌, drop}
use Rattle.chip_abi.specs.Imports.{read_imports, after_names}
use Rattle.chip_abi.proofs.imports.read_imports.Given as goal

abbrev pub invariant-loop-i : goal.invariant-loop-i
invariant-loop-i l = after_names l.names (read_imports l.types (l.i + 1) (drop l.i l.imports)) ≡ read_imports l.types 1 l.imports
