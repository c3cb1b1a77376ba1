-- The host functions that a module imports.
use Rattle.std.specs.Prelude.{◌≡◌, List, Some, Option, map, slice_get}
use Rattle.wasm_code.specs.declared.types.FuncType.{FuncType}
use Rattle.wasm_decode.specs.declared.module.Module.{Module}
use Rattle.wasm_validate.specs.Rules.{imported_functions}
use Rattle.chip_abi.specs.declared.host_name.HostName.{HostName}
use Rattle.chip_abi.specs.HostNames.{type_of_name}

-- they have the types, one by one, of the functions that the module asks for
abbrev pub AreHosts : List HostName → Module → Type 0
AreHosts names m = map {B = Option FuncType} (λ t. Some t) (map type_of_name names) ≡ map (slice_get m.types) (imported_functions m.imports)
