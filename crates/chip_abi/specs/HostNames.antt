-- The functions that a chip can import (profile, docs/CHIPS.md): a row each, with name, parameters and result. Those on files are of
-- `wasi_snapshot_preview1`, as a C library imports them, and all others of `env`.
use Rattle.std.specs.Prelude.{ℕ, List, [], ◌∷◌, if◌then◌else◌, Option, None, Some, codes}
use Rattle.std.specs.Str.{bytes_eq}
use Rattle.wasm_code.specs.declared.types.ValType.{ValType}
use Rattle.wasm_code.specs.declared.types.ValType.TheVariants.{I32, I64}
use Rattle.wasm_code.specs.declared.types.FuncType.{FuncType}
use Rattle.chip_abi.specs.declared.host_name.HostName.{HostName}
use Rattle.chip_abi.specs.declared.host_name.HostName.TheVariants as names
use Rattle.chip_abi.specs.declared.output_name.OutputName.{OutputName}
use Rattle.chip_abi.specs.declared.output_name.OutputName.TheVariants as outputs

pub record Row : Type 0 where
  pub text : List ℕ
  pub params : List ValType
  pub results : List ValType

abbrev pub row : List ℕ → List ValType → List ValType → Row
row text params results = record { text = text; params = params; results = results }

-- what a chip prints and draws
abbrev pub output_row : OutputName → Row
output_row outputs.FdWrite = row (codes "fd_write") (I32 ∷ I32 ∷ I32 ∷ I32 ∷ []) (I32 ∷ [])
output_row outputs.FdFdstatGet = row (codes "fd_fdstat_get") (I32 ∷ I32 ∷ []) (I32 ∷ [])
output_row outputs.FdSeek = row (codes "fd_seek") (I32 ∷ I64 ∷ I32 ∷ I32 ∷ []) (I32 ∷ [])
output_row outputs.FdClose = row (codes "fd_close") (I32 ∷ []) (I32 ∷ [])
output_row outputs.FramebufferInit = row (codes "framebufferInit") (I32 ∷ I32 ∷ []) (I32 ∷ [])
output_row outputs.BufferWrite = row (codes "bufferWrite") (I32 ∷ I32 ∷ I32 ∷ I32 ∷ []) []
output_row outputs.BufferRead = row (codes "bufferRead") (I32 ∷ I32 ∷ I32 ∷ I32 ∷ []) []

abbrev pub row_of : HostName → Row
row_of names.PinInit = row (codes "pinInit") (I32 ∷ I32 ∷ []) (I32 ∷ [])
row_of names.PinRead = row (codes "pinRead") (I32 ∷ []) (I32 ∷ [])
row_of names.PinWrite = row (codes "pinWrite") (I32 ∷ I32 ∷ []) []
row_of names.PinWatch = row (codes "pinWatch") (I32 ∷ I32 ∷ []) (I32 ∷ [])
row_of names.PinWatchStop = row (codes "pinWatchStop") (I32 ∷ []) []
row_of names.PinMode = row (codes "pinMode") (I32 ∷ I32 ∷ []) []
row_of names.AttrInit = row (codes "attrInit") (I32 ∷ I32 ∷ []) (I32 ∷ [])
row_of names.AttrRead = row (codes "attrRead") (I32 ∷ []) (I32 ∷ [])
row_of names.TimerInit = row (codes "timerInit") (I32 ∷ []) (I32 ∷ [])
row_of names.TimerStart = row (codes "timerStart") (I32 ∷ I32 ∷ I32 ∷ []) []
row_of names.TimerStartNanos = row (codes "timerStartNanos") (I32 ∷ I64 ∷ I32 ∷ []) []
row_of names.TimerStop = row (codes "timerStop") (I32 ∷ []) []
row_of names.GetSimNanos = row (codes "getSimNanos") [] (I64 ∷ [])
row_of names.UartInit = row (codes "uartInit") (I32 ∷ []) (I32 ∷ [])
row_of names.UartWrite = row (codes "uartWrite") (I32 ∷ I32 ∷ I32 ∷ []) (I32 ∷ [])
row_of names.SpiInit = row (codes "spiInit") (I32 ∷ []) (I32 ∷ [])
row_of names.SpiStart = row (codes "spiStart") (I32 ∷ I32 ∷ I32 ∷ []) []
row_of names.SpiStop = row (codes "spiStop") (I32 ∷ []) []
row_of names.I2cInit = row (codes "i2cInit") (I32 ∷ []) (I32 ∷ [])
row_of (names.Output name) = output_row name

abbrev pub env_names : List HostName
env_names = names.PinInit ∷ names.PinRead ∷ names.PinWrite ∷ names.PinWatch ∷ names.PinWatchStop ∷ names.PinMode ∷ names.AttrInit ∷ names.AttrRead
    ∷ names.TimerInit ∷ names.TimerStart ∷ names.TimerStartNanos ∷ names.TimerStop ∷ names.GetSimNanos
    ∷ names.UartInit ∷ names.UartWrite ∷ names.SpiInit ∷ names.SpiStart ∷ names.SpiStop ∷ names.I2cInit
    ∷ names.Output outputs.FramebufferInit ∷ names.Output outputs.BufferWrite ∷ names.Output outputs.BufferRead ∷ []

abbrev pub wasi_names : List HostName
wasi_names = names.Output outputs.FdWrite ∷ names.Output outputs.FdFdstatGet ∷ names.Output outputs.FdSeek ∷ names.Output outputs.FdClose ∷ []

abbrev pub named_among : List HostName → List ℕ → Option HostName
named_among [] text = None
named_among (name ∷ rest) text = if bytes_eq text (row_of name).text then Some name else named_among rest text

unfoldable pub named_in_env : List ℕ → Option HostName
named_in_env text = named_among env_names text

unfoldable pub named_in_wasi : List ℕ → Option HostName
named_in_wasi text = named_among wasi_names text

-- the function of a module with a name
abbrev pub named : List ℕ → List ℕ → Option HostName
named from text =
    if bytes_eq from (codes "env") then named_in_env text
    else if bytes_eq from (codes "wasi_snapshot_preview1") then named_in_wasi text
    else None

-- the call on the output that a function is
abbrev pub output_of : HostName → Option OutputName
output_of (names.Output name) = Some name
output_of name = None

-- the type of a function
abbrev pub type_of_name : HostName → FuncType
type_of_name name = record { params = (row_of name).params; results = (row_of name).results }
