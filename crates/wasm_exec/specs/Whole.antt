-- What the rules of a valid module say of its items, one by one. No public clause cites it.
use Rattle.std.specs.Prelude.{◌≡◌, ℕ, ◌+◌, ◌*◌, ◌<◌, ◌≤◌, List, Option, Some, true, length, slice_get}
use Rattle.std.specs.Option.{ForSome}
use Rattle.wasm_code.specs.declared.types.FuncType.{FuncType}
use Rattle.wasm_code.specs.declared.types.Limits.{Limits}
use Rattle.wasm_decode.specs.declared.module.GlobalDef.{GlobalDef}
use Rattle.wasm_decode.specs.declared.module.ElementSegment.{ElementSegment}
use Rattle.wasm_decode.specs.declared.module.DataSegment.{DataSegment}
use Rattle.wasm_decode.specs.declared.module.Module.{Module}
use Rattle.wasm_validate.specs.Rules.{imported_functions, functions_of, tables_of, memories_of, least_of, offset_of, is_constant}

-- numbers below a count
abbrev pub AllBelow : ℕ → List ℕ → Type 0
AllBelow count numbers = (i n : ℕ) → slice_get numbers i ≡ Some n → n < count

-- the functions of a table are numbered below a count
abbrev pub AreBelow : ℕ → List (Option ℕ) → Type 0
AreBelow count table = (i f : ℕ) → slice_get table i ≡ Some (Some f) → f < count

-- each segment lies inside a table of this length
abbrev pub ElementsFit : ℕ → List ElementSegment → Type 0
ElementsFit size segments = (i : ℕ) (s : ElementSegment) → slice_get segments i ≡ Some s → offset_of s.offset + length s.functions ≤ size

abbrev pub ElementsBelow : ℕ → List ElementSegment → Type 0
ElementsBelow count segments = (i : ℕ) (s : ElementSegment) → slice_get segments i ≡ Some s → AllBelow count s.functions

-- each segment lies inside a memory of so many bytes
abbrev pub SegmentsFit : ℕ → List DataSegment → Type 0
SegmentsFit size segments = (i : ℕ) (s : DataSegment) → slice_get segments i ≡ Some s → offset_of s.offset + length s.bytes ≤ size

abbrev pub MemoryFits : Limits → Type 0
MemoryFits l = (l.least ≤ 64) × ForSome l.greatest (λ n. l.least ≤ n)

abbrev pub MemoriesFit : List Limits → Type 0
MemoriesFit ls = (l : Limits) → slice_get ls 0 ≡ Some l → MemoryFits l

-- each global begins with a constant of its type
abbrev pub AreConstant : List GlobalDef → Type 0
AreConstant globals = (i : ℕ) (g : GlobalDef) → slice_get globals i ≡ Some g → is_constant g.kind.value g.init ≡ true

pub record IsWhole (m : Module) : Type 0 where
  pub bodies : length m.functions ≡ length m.bodies
  pub single : (k : ℕ) (t : FuncType) → slice_get m.types k ≡ Some t → length t.results ≤ 1
  pub own : AllBelow (length m.types) m.functions
  pub imported : AllBelow (length m.types) (imported_functions m.imports)
  pub constant : AreConstant m.globals
  pub elements : ElementsFit (least_of (tables_of m)) m.elements
  pub functions : ElementsBelow (length (functions_of m)) m.elements
  pub memories : MemoriesFit (memories_of m)
  pub segments : SegmentsFit (65536 * least_of (memories_of m)) m.segments
