-- What a chip has printed and drawn (profile, docs/CHIPS.md).
use Rattle.std.specs.Prelude.{ℕ, ◌*◌, List, [], ◌++◌, take, drop, replicate, Bool, false, Option, None, Some, option_map, Ok, Err}
use Rattle.sim_base.specs.Display.{DisplaySize}
use Rattle.wasm_num.specs.declared.trap.Trap.{Trap}
use Rattle.wasm_num.specs.declared.value.Value.TheVariants.{I32}
use Rattle.wasm_num.specs.Mem.{Mem}
use Rattle.wasm_semantics.specs.Eval.{Answer}

-- a display: 4 bytes for each pixel, row by row, and whether `framebufferInit` has given it to the chip
pub record Frame : Type 0 where
  pub size : DisplaySize
  pub pixels : List ℕ
  pub given : Bool

pub record OutputState : Type 0 where
  pub console : List ℕ
  pub frame : Option Frame

-- a display of zeros
abbrev pub blank : DisplaySize → Frame
blank size = record { size = size; pixels = replicate (4 * (size.width * size.height)) 0; given = false }

abbrev pub new_output : Option DisplaySize → OutputState
new_output display = record { console = []; frame = option_map blank display }

-- A console keeps its first 65,536 bytes.
abbrev pub printed : List ℕ → List ℕ → List ℕ
printed console text = take 65536 (console ++ text)

-- the n bytes of a memory from an address on
abbrev pub bytes_at : Mem → ℕ → ℕ → List ℕ
bytes_at m address n = take n (drop address m.bytes)

-- what a call answers, with what it leaves of what it is called on and of the memory
abbrev pub gives : {S : Type 0} → ℕ → S → Mem → Answer S
gives n s m = record { answer = Ok (Some (I32 n)); host = s; memory = m }

abbrev pub nothing : {S : Type 0} → S → Mem → Answer S
nothing s m = record { answer = Ok None; host = s; memory = m }

abbrev pub fails : {S : Type 0} → Trap → S → Mem → Answer S
fails t s m = record { answer = Err t; host = s; memory = m }

-- width, height and pixels of a display
abbrev pub picture : Frame → ℕ × (ℕ × List ℕ)
picture f = (f.size.width, (f.size.height, f.pixels))
