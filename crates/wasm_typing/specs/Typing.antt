-- Typing (WebAssembly core specification, "Validation", "Instructions"). Operand lists begin at their top.
use Rattle.std.specs.Prelude.{◌≡◌, ℕ, ◌+◌, ◌-◌, ◌^◌, ◌<◌, ◌≤◌, List, [], ◌∷◌, ◌++◌, Option, Some, None, Bool, true, false, nat_lt, nat_le, if◌then◌else◌, slice_get, option_to_list, option_map, option_and_then, length, reverse, take, ◌&&◌, ◌⊎◌, is_some}
use Rattle.sim_refusals.specs.Refusals.{ValidIndex, ValidType, ValidLimit}
use Rattle.wasm_code.specs.declared.types.ValType.{ValType}
use Rattle.wasm_code.specs.declared.types.ValType.TheVariants.{I32, I64, F32, F64}
use Rattle.wasm_code.specs.declared.types.FuncType.{FuncType}
use Rattle.wasm_code.specs.declared.types.GlobalType.{GlobalType}
use Rattle.wasm_code.specs.declared.instr.Instr.{Instr}
use Rattle.wasm_code.specs.declared.instr.Instr.TheVariants as instrs
use Rattle.wasm_code.specs.declared.instr.MemArg.{MemArg}
use Rattle.wasm_code.specs.declared.instr.FloatInstr.{FloatInstr}
use Rattle.wasm_code.specs.declared.instr.FloatInstr.TheVariants as floats
use Rattle.wasm_code.specs.Opcodes.{unary_row, binary_row, load_row, store_row, float_load, float_store, float_unary, float_binary, truncate}
use Rattle.wasm_code.specs.Code.{Kind, Block, Loop, If, Code, Done, Then, In, Both, flat, Beginning, Here, Inside, InsideElse, flat_beginning}

-- What the module gives to a body ("Contexts"); functions and globals begin with the imported ones.
pub record Context : Type 0 where
  pub types : List FuncType
  -- the type of each, by its number
  pub functions : List ℕ
  pub tables : ℕ
  pub memories : ℕ
  pub globals : List GlobalType
  pub locals : List ValType
  pub returns : List ValType

-- operands from the top, and results from the top
abbrev pub Signature : Type 0
Signature = List ValType × List ValType

abbrev pub gives : ValType → Signature
gives t = ([], t ∷ [])

-- one operand of a type to a result of another, and two operands of a type
abbrev pub one_to : ValType × ValType → Signature
one_to row = (row.0 ∷ [], row.1 ∷ [])

abbrev pub two_to : ValType × ValType → Signature
two_to row = (row.0 ∷ row.0 ∷ [], row.1 ∷ [])

abbrev pub of_type : FuncType → Signature
of_type t = (reverse t.params, reverse t.results)

-- a call through the table takes the entry's number first
abbrev pub through_table : FuncType → Signature
through_table t = (I32 ∷ reverse t.params, reverse t.results)

-- an access to memory whose alignment is not above its width
abbrev pub access : ℕ → ℕ → Signature → Option Signature
access align width s = if nat_le (2 ^ align) width then Some s else None

-- a load and a store of a value's type and so many bytes
abbrev pub loads : MemArg → ValType × ℕ → Option Signature
loads at row = access at.align row.1 (I32 ∷ [], row.0 ∷ [])

abbrev pub stores : MemArg → ValType × ℕ → Option Signature
stores at row = access at.align row.1 (row.0 ∷ I32 ∷ [], [])

-- where there is such a thing
abbrev pub given : ℕ → Option Signature → Option Signature
given n s = if nat_lt 0 n then s else None

-- takes these from the top and leaves those
abbrev pub Turns : List ValType → List ValType → List ValType → List ValType → Type 0
Turns takes leaves ts us = (rest : List ValType) × (ts ≡ takes ++ rest) × (us ≡ leaves ++ rest)

abbrev pub TurnsBy : Option Signature → List ValType → List ValType → Type 0
TurnsBy None ts us = ⊥
TurnsBy (Some s) ts us = Turns s.0 s.1 ts us

-- each of these labels has these operands
abbrev pub AllHave : List (List ValType) → List ℕ → List ValType → Type 0
AllHave labels [] rs = Unit {0}
AllHave labels (l ∷ ls) rs = (slice_get labels l ≡ Some rs) × AllHave labels ls rs

abbrev pub label : Kind → Option ValType → List ValType
label Block r = option_to_list r
label Loop r = []
label If r = option_to_list r

-- what an opened block leaves of the operands before it: an if takes its condition
abbrev pub Enters : Kind → List ValType → List ValType → Type 0
Enters Block ts us = ts ≡ us
Enters Loop ts us = ts ≡ us
Enters If ts us = ts ≡ I32 ∷ us

-- an if without else has no result
abbrev pub Ends : Kind → Option ValType → Type 0
Ends Block r = Unit {0}
Ends Loop r = Unit {0}
Ends If r = r ≡ None

abbrev pub all_below : ℕ → List ℕ → Bool
all_below n [] = true
all_below n (x ∷ xs) = nat_lt x n && all_below n xs

module _ (c : Context) where
  -- those of the table of float types
  abbrev pub float_signature : FloatInstr → Option Signature
  float_signature (floats.Load op at) = given c.memories (option_and_then (loads at) (float_load op))
  float_signature (floats.Store op at) = given c.memories (option_and_then (stores at) (float_store op))
  float_signature (floats.F32Const n) = Some (gives F32)
  float_signature (floats.F64Const n) = Some (gives F64)
  float_signature (floats.Unary op) = option_map one_to (float_unary op)
  float_signature (floats.Binary op) = option_map two_to (float_binary op)
  float_signature (floats.Truncate n) = option_map one_to (truncate n)

  -- the operands and results of an instruction that has the same ones under all labels; none where it has no type here
  abbrev pub signature : Instr → Option Signature
  signature instrs.Nop = Some ([], [])
  signature (instrs.Call f) = option_and_then (λ t. option_map of_type (slice_get c.types t)) (slice_get c.functions f)
  signature (instrs.CallIndirect t) = given c.tables (option_map through_table (slice_get c.types t))
  signature (instrs.LocalGet x) = option_map gives (slice_get c.locals x)
  signature (instrs.LocalSet x) = option_map (λ t. (t ∷ [], [])) (slice_get c.locals x)
  signature (instrs.LocalTee x) = option_map (λ t. (t ∷ [], t ∷ [])) (slice_get c.locals x)
  signature (instrs.GlobalGet x) = option_map (λ g. gives g.value) (slice_get c.globals x)
  signature (instrs.GlobalSet x) = option_and_then (λ g. if g.changeable then Some (g.value ∷ [], []) else None) (slice_get c.globals x)
  signature (instrs.Load op at) = given c.memories (loads at (load_row op))
  signature (instrs.Store op at) = given c.memories (stores at (store_row op))
  signature instrs.MemorySize = given c.memories (Some (gives I32))
  signature instrs.MemoryGrow = given c.memories (Some (I32 ∷ [], I32 ∷ []))
  signature instrs.MemoryCopy = given c.memories (Some (I32 ∷ I32 ∷ I32 ∷ [], []))
  signature instrs.MemoryFill = given c.memories (Some (I32 ∷ I32 ∷ I32 ∷ [], []))
  signature (instrs.I32Const n) = Some (gives I32)
  signature (instrs.I64Const n) = Some (gives I64)
  signature (instrs.Unary op) = Some (one_to (unary_row op))
  signature (instrs.Binary op) = Some (two_to (binary_row op))
  signature (instrs.Float f) = float_signature f
  signature _ = None

  -- One instruction under the operands of the labels, from the innermost. Behind br, br_table, return and unreachable any operands
  -- stand.
  abbrev pub Steps : List (List ValType) → Instr → List ValType → List ValType → Type 0
  Steps labels instrs.Unreachable ts us = Unit {0}
  Steps labels (instrs.Br l) ts us = (rs rest : List ValType) × (slice_get labels l ≡ Some rs) × (ts ≡ rs ++ rest)
  Steps labels (instrs.BrIf l) ts us = (rs : List ValType) × (slice_get labels l ≡ Some rs) × Turns (I32 ∷ rs) rs ts us
  Steps labels (instrs.BrTable ls l) ts us =
      (rs rest : List ValType) × (slice_get labels l ≡ Some rs) × AllHave labels ls rs × (ts ≡ I32 ∷ (rs ++ rest))
  Steps labels instrs.Return ts us = (rest : List ValType) × (ts ≡ c.returns ++ rest)
  Steps labels instrs.Drop ts us = (t : ValType) × Turns (t ∷ []) [] ts us
  Steps labels instrs.Select ts us = (t : ValType) × Turns (I32 ∷ t ∷ t ∷ []) (t ∷ []) ts us
  Steps labels i ts us = TurnsBy (signature i) ts us

  abbrev pub Types : List (List ValType) → Code → List ValType → List ValType → Type 0
  Types labels Done ts us = ts ≡ us
  Types labels (Then i e) ts us = (vs : List ValType) × Steps labels i ts vs × Types labels e vs us
  Types labels (In k r a e) ts us =
      (vs : List ValType) × Enters k ts vs × Types (label k r ∷ labels) a [] (option_to_list r) × Ends k r × Types labels e (option_to_list r ++ vs) us
  Types labels (Both r a b e) ts us =
      (vs : List ValType) × Enters If ts vs × Types (option_to_list r ∷ labels) a [] (option_to_list r) × Types (option_to_list r ∷ labels) b [] (option_to_list r)
      × Types labels e (option_to_list r ++ vs) us

  -- a body of these results ("Functions")
  abbrev pub IsBody : List Instr → Type 0
  IsBody code = (e : Code) × (code ≡ flat e ++ instrs.End ∷ []) × Types (c.returns ∷ []) e [] c.returns

  -- A beginning that can be typed, so that at most room operands stand, those of outer blocks among them.
  abbrev pub Begins : ℕ → List (List ValType) → Beginning → Type 0
  Begins room labels (Here a) = (us : List ValType) × Types labels a [] us × (length us ≤ room)
  Begins room labels (Inside a k r b) =
      (us vs : List ValType) × Types labels a [] us × Enters k us vs × (length vs ≤ room) × Begins (room - length vs) (label k r ∷ labels) b
  Begins room labels (InsideElse a r d b) =
      (us vs : List ValType) × Types labels a [] us × Enters If us vs × Types (option_to_list r ∷ labels) d [] (option_to_list r)
      × (length vs ≤ room) × Begins (room - length vs) (option_to_list r ∷ labels) b

  abbrev pub CanBegin : ℕ → List Instr → Type 0
  CanBegin room is = (b : Beginning) × (is ≡ flat_beginning b) × Begins room (c.returns ∷ []) b

  abbrev pub float_exists : FloatInstr → Bool
  float_exists (floats.Load op at) = nat_lt 0 c.memories
  float_exists (floats.Store op at) = nat_lt 0 c.memories
  float_exists _ = true

  -- whether the indexes and labels of an instruction exist, under so many labels
  abbrev pub exists : ℕ → Instr → Bool
  exists labels (instrs.Br l) = nat_lt l labels
  exists labels (instrs.BrIf l) = nat_lt l labels
  exists labels (instrs.BrTable ls l) = all_below labels (l ∷ ls)
  exists labels (instrs.Call f) = is_some (option_and_then (λ t. slice_get c.types t) (slice_get c.functions f))
  exists labels (instrs.CallIndirect t) = nat_lt 0 c.tables && nat_lt t (length c.types)
  exists labels (instrs.LocalGet x) = nat_lt x (length c.locals)
  exists labels (instrs.LocalSet x) = nat_lt x (length c.locals)
  exists labels (instrs.LocalTee x) = nat_lt x (length c.locals)
  exists labels (instrs.GlobalGet x) = nat_lt x (length c.globals)
  exists labels (instrs.GlobalSet x) = nat_lt x (length c.globals)
  exists labels (instrs.Load op at) = nat_lt 0 c.memories
  exists labels (instrs.Store op at) = nat_lt 0 c.memories
  exists labels instrs.MemorySize = nat_lt 0 c.memories
  exists labels instrs.MemoryGrow = nat_lt 0 c.memories
  exists labels instrs.MemoryCopy = nat_lt 0 c.memories
  exists labels instrs.MemoryFill = nat_lt 0 c.memories
  exists labels (instrs.Float f) = float_exists f
  exists labels _ = true

-- how many labels there are behind these instructions, where there were so many before
abbrev pub labels_behind : List Instr → ℕ → ℕ
labels_behind [] n = n
labels_behind (instrs.Block r ∷ is) n = labels_behind is (n + 1)
labels_behind (instrs.Loop r ∷ is) n = labels_behind is (n + 1)
labels_behind (instrs.If r ∷ is) n = labels_behind is (n + 1)
labels_behind (instrs.End ∷ is) n = labels_behind is (n - 1)
labels_behind (i ∷ is) n = labels_behind is n

-- the greatest number of operands that may stand (profile)
abbrev pub room : ℕ
room = 1024

module _ (c : Context) (code : List Instr) where
  -- the instruction at a place has an index or a label that does not exist
  abbrev pub Lacks : ℕ → Type 0
  Lacks i = (x : Instr) × (slice_get code i ≡ Some x) × (exists c (labels_behind (take i code) 1) x ≡ false)

  abbrev pub Exists : ℕ → Type 0
  Exists i = (x : Instr) × (slice_get code i ≡ Some x) × (exists c (labels_behind (take i code) 1) x ≡ true)

  -- The number where an instruction fails: 70 for an index or label, 79 where only the operands are too many, else 71.
  abbrev pub NumberAt : ℕ → ℕ → Type 0
  NumberAt i number =
      (number ≡ ValidIndex) × Lacks i
      ⊎ (number ≡ ValidLimit) × Exists i × ((n : ℕ) × CanBegin c n (take (i + 1) code))
      ⊎ (number ≡ ValidType) × Exists i × ((n : ℕ) → CanBegin c n (take (i + 1) code) → ⊥)

  -- At most so many operands stand at each place of the body.
  abbrev pub IsShallow : Type 0
  IsShallow = (i : ℕ) → i < length code → CanBegin c room (take i code)

  -- The failing instruction: with it the beginning can be typed neither as the whole body nor with as many operands as may stand,
  -- and each beginning before it can.
  pub record FailsAt (i number : ℕ) : Type 0 where
    pub within : i < length code
    pub begins : (k : ℕ) → k ≤ i → CanBegin c room (take k code)
    pub ends_begun : CanBegin c room (take (i + 1) code) → ⊥
    pub no_body : IsBody c (take (i + 1) code) → ⊥
    pub breaks : NumberAt i number
