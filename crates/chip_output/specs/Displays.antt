-- The calls on a chip's display (profile, docs/CHIPS.md). It has the id 0 from a `framebufferInit` on that answered 0; there are no others.
use Rattle.std.specs.Prelude.{ℕ, ◌+◌, ◌-◌, ◌^◌, ◌==◌, nat_le, length, Bool, true, not, ◌&&◌, if◌then◌else◌, Option, None, Some, take, drop}
use Rattle.std.specs.Int.{w32}
use Rattle.wasm_num.specs.declared.trap.Trap.TheVariants as traps
use Rattle.wasm_num.specs.Mem.{Mem, has, put, written}
use Rattle.wasm_semantics.specs.Eval.{Answer}
use Rattle.chip_output.specs.Output.{Frame, OutputState, bytes_at, gives, nothing, fails}

-- the memory with both numbers, the width stored first
abbrev pub with_size : Mem → ℕ → ℕ → Frame → Mem
with_size m width height f = written w32 (written w32 m width f.size.width) height f.size.height

-- a display is given: its size is stored at two addresses
abbrev pub give : ℕ → ℕ → Mem → Frame → Answer Frame
give width height m f =
    if has m width 4 && has m height 4 then gives 0 (record f { given = true }) (with_size m width height f)
    else fails traps.HostAddress f m

-- whether the chip may copy these bytes of its display
abbrev pub covers : Frame → ℕ → ℕ → Bool
covers f offset count = f.given && nat_le (offset + count) (length f.pixels)

-- bytes of the memory are put into the display
abbrev pub draw : ℕ → ℕ → ℕ → Mem → Frame → Answer Frame
draw offset address count m f =
    if not (covers f offset count) then nothing f m
    else if not (has m address count) then fails traps.HostAddress f m
    else nothing (record f { pixels = put offset (bytes_at m address count) f.pixels }) m

-- bytes of the display are put into the memory
abbrev pub read_back : ℕ → ℕ → ℕ → Mem → Frame → Answer Frame
read_back offset address count m f =
    if not (covers f offset count) then nothing f m
    else if not (has m address count) then fails traps.HostAddress f m
    else nothing f (record m { bytes = put address (take count (drop offset f.pixels)) m.bytes })

-- what a call on the display is to the whole output
abbrev pub in_output : OutputState → Answer Frame → Answer OutputState
in_output o a = record { answer = a.answer; host = record o { frame = Some a.host }; memory = a.memory }

abbrev pub init_frame : Option Frame → ℕ → ℕ → Mem → OutputState → Answer OutputState
init_frame None width height m o = gives (2 ^ 32 - 1) o m
init_frame (Some f) width height m o = in_output o (give width height m f)

-- whether the chip is being set up, addresses for width and height; answers the id, or -1 without a display
abbrev pub framebuffer_init : Bool → ℕ → ℕ → Mem → OutputState → Answer OutputState
framebuffer_init init width height m o = if init then init_frame o.frame width height m o else fails traps.HostPhase o m

-- the display with an id
abbrev pub frame_with : ℕ → OutputState → Option Frame
frame_with id o = if id == 0 then o.frame else None

abbrev pub on_frame : (Frame → Answer Frame) → Option Frame → Mem → OutputState → Answer OutputState
on_frame does None m o = nothing o m
on_frame does (Some f) m o = in_output o (does f)

-- id, offset in the display, address, count
abbrev pub buffer_write : ℕ → ℕ → ℕ → ℕ → Mem → OutputState → Answer OutputState
buffer_write id offset address count m o = on_frame (draw offset address count m) (frame_with id o) m o

abbrev pub buffer_read : ℕ → ℕ → ℕ → ℕ → Mem → OutputState → Answer OutputState
buffer_read id offset address count m o = on_frame (read_back offset address count m) (frame_with id o) m o
