-- Each call on a chip's output, by its name and its arguments (profile, docs/CHIPS.md).
use Rattle.std.specs.Prelude.{List, [], ◌∷◌, Bool}
use Rattle.wasm_num.specs.declared.trap.Trap.TheVariants as traps
use Rattle.wasm_num.specs.declared.value.Value.{Value}
use Rattle.wasm_num.specs.declared.value.Value.TheVariants.{I32, I64}
use Rattle.wasm_num.specs.Mem.{Mem}
use Rattle.wasm_semantics.specs.Eval.{Answer}
use Rattle.chip_abi.specs.declared.output_name.OutputName.{OutputName}
use Rattle.chip_abi.specs.declared.output_name.OutputName.TheVariants as outputs
use Rattle.chip_output.specs.Output.{OutputState, fails}
use Rattle.chip_output.specs.Files.{fd_write, fd_fdstat_get, fd_seek, fd_close}
use Rattle.chip_output.specs.Displays.{framebuffer_init, buffer_write, buffer_read}

abbrev pub output_does : OutputName → List Value → Bool → Mem → OutputState → Answer OutputState
output_does outputs.FdWrite (I32 file ∷ I32 list ∷ I32 count ∷ I32 sum ∷ []) init m o = fd_write file list count sum m o
output_does outputs.FdFdstatGet (I32 file ∷ I32 address ∷ []) init m o = fd_fdstat_get file address m o
output_does outputs.FdSeek (I32 file ∷ I64 offset ∷ I32 origin ∷ I32 address ∷ []) init m o = fd_seek file m o
output_does outputs.FdClose (I32 file ∷ []) init m o = fd_close file m o
output_does outputs.FramebufferInit (I32 width ∷ I32 height ∷ []) init m o = framebuffer_init init width height m o
output_does outputs.BufferWrite (I32 id ∷ I32 offset ∷ I32 address ∷ I32 count ∷ []) init m o = buffer_write id offset address count m o
output_does outputs.BufferRead (I32 id ∷ I32 offset ∷ I32 address ∷ I32 count ∷ []) init m o = buffer_read id offset address count m o
output_does name args init m o = fails traps.Unreachable o m
