-- How the validator goes over flat code: known operands above missing ones, and the blocks around. No public clause cites it.
use Rattle.std.specs.Prelude.{ℕ, ◌+◌, List, [], ◌∷◌, ◌++◌, Option, Some, None, slice_get, option_to_list, option_map, option_and_then, length, map, Bool, true, false, ◌&&◌, if◌then◌else◌}
use Rattle.wasm_code.specs.declared.types.ValType.{ValType}
use Rattle.wasm_code.specs.declared.types.ValType.TheVariants.{I32, I64, F32, F64}
use Rattle.wasm_code.specs.declared.instr.Instr.{Instr}
use Rattle.wasm_code.specs.declared.instr.Instr.TheVariants as instrs
use Rattle.wasm_typing.specs.Typing.{Context, signature}

-- an operand of this type, or of any
abbrev pub Operand : Type 0
Operand = Option ValType

abbrev pub same_type : ValType → ValType → Bool
same_type I32 I32 = true
same_type I64 I64 = true
same_type F32 F32 = true
same_type F64 F64 = true
same_type _ _ = false

abbrev pub is_type : ValType → Operand → Bool
is_type t None = true
is_type t (Some u) = same_type t u

abbrev pub same_types : List ValType → List ValType → Bool
same_types [] [] = true
same_types [] (u ∷ us) = false
same_types (t ∷ ts) [] = false
same_types (t ∷ ts) (u ∷ us) = same_type t u && same_types ts us

-- the operands of the innermost block: the known ones from the top, and whether any stand below
pub record Operands : Type 0 where
  pub known : List Operand
  pub missing : Bool

pub data Frame : Type 0 where
  Block : Frame
  Loop : Frame
  If : Frame
  Else : Frame

-- a block around, as it stood when the block in it was opened, and what was opened
pub record Around : Type 0 where
  pub known : List Operand
  pub missing : Bool
  pub frame : Frame
  pub results : List ValType

pub record State : Type 0 where
  pub known : List Operand
  pub missing : Bool
  pub around : List Around

abbrev pub pop : ValType → List Operand → Bool → Option (List Operand)
pop t [] true = Some []
pop t [] false = None
pop t (o ∷ os) m = if is_type t o then Some os else None

abbrev pub pops : List ValType → List Operand → Bool → Option (List Operand)
pops [] os m = Some os
pops (t ∷ ts) os m = option_and_then (λ rest. pops ts rest m) (pop t os m)

abbrev pub pop_any : List Operand → Bool → Option (List Operand)
pop_any [] true = Some []
pop_any [] false = None
pop_any (o ∷ os) m = Some os

-- one operand for two of the same type
abbrev pub meet : Operand → Operand → Option Operand
meet None p = Some p
meet (Some t) None = Some (Some t)
meet (Some t) (Some u) = if same_type t u then Some (Some t) else None

abbrev pub select : List Operand → Bool → Option Operands
select [] true = Some (record { known = None ∷ []; missing = true })
select [] false = None
select (o ∷ []) true = Some (record { known = o ∷ []; missing = true })
select (o ∷ []) false = None
select (o ∷ p ∷ os) m = option_map (λ q. record { known = q ∷ os; missing = m }) (meet o p)

abbrev pub known : List ValType → List Operand
known ts = map (λ t. Some t) ts

abbrev pub turn : List ValType → List ValType → List Operand → Bool → Option Operands
turn takes leaves os m = option_map (λ rest. record { known = known leaves ++ rest; missing = m }) (pops takes os m)

abbrev pub any : Operands
any = record { known = []; missing = true }

-- takes these, and any operands stand then
abbrev pub leaves_any : List ValType → List Operand → Bool → Option Operands
leaves_any takes os m = option_map (λ rest. any) (pops takes os m)

abbrev pub is_same : Option (List ValType) → List ValType → Bool
is_same None rs = false
is_same (Some ts) rs = same_types ts rs

abbrev pub has_label : List (List ValType) → ℕ → List ValType → Bool
has_label labels l rs = is_same (slice_get labels l) rs

abbrev pub all_have : List (List ValType) → List ℕ → List ValType → Bool
all_have labels [] rs = true
all_have labels (l ∷ ls) rs = has_label labels l rs && all_have labels ls rs

-- what is left when a block with these results ends is nothing
abbrev pub no_more : Option (List Operand) → Bool
no_more None = false
no_more (Some []) = true
no_more (Some (o ∷ os)) = false

abbrev pub label_of : Frame → List ValType → List ValType
label_of Block rs = rs
label_of Loop rs = []
label_of If rs = rs
label_of Else rs = rs

-- an if without else has no result
abbrev pub may_end : Frame → List ValType → Bool
may_end If (t ∷ ts) = false
may_end _ _ = true

abbrev pub labels_of : List Around → List (List ValType)
labels_of [] = []
labels_of (f ∷ fs) = label_of f.frame f.results ∷ labels_of fs

abbrev pub total_around : List Around → ℕ
total_around [] = 0
total_around (f ∷ fs) = length f.known + total_around fs

abbrev pub opened : Frame → List ValType → List Operand → Bool → List Around → State
opened k rs os m fs = record { known = []; missing = false; around = record { known = os; missing = m; frame = k; results = rs } ∷ fs }

abbrev pub behind : Around → List Around → State
behind f fs = record { known = known f.results ++ f.known; missing = f.missing; around = fs }

abbrev pub is_if : Frame → Bool
is_if If = true
is_if _ = false

-- the first content of an if gives its results
abbrev pub parted : List Around → List Operand → Bool → Option State
parted [] os m = None
parted (f ∷ fs) os m = if is_if f.frame && no_more (pops f.results os m) then Some (opened Else f.results f.known f.missing fs) else None

abbrev pub ended : List Around → List Operand → Bool → Option State
ended [] os m = None
ended (f ∷ fs) os m = if may_end f.frame f.results && no_more (pops f.results os m) then Some (behind f fs) else None

abbrev pub stay : List Around → Option Operands → Option State
stay fs None = None
stay fs (Some o) = Some (record { known = o.known; missing = o.missing; around = fs })

module _ (c : Context) where
  abbrev pub act : List (List ValType) → Instr → List Operand → Bool → Option Operands
  act labels instrs.Unreachable os m = Some any
  act labels (instrs.Br l) os m = option_and_then (λ rs. leaves_any rs os m) (slice_get labels l)
  act labels (instrs.BrIf l) os m = option_and_then (λ rs. turn (I32 ∷ rs) rs os m) (slice_get labels l)
  act labels (instrs.BrTable ls l) os m = option_and_then (λ rs. if all_have labels ls rs then leaves_any (I32 ∷ rs) os m else None) (slice_get labels l)
  act labels instrs.Return os m = leaves_any c.returns os m
  act labels instrs.Drop os m = option_map (λ rest. record { known = rest; missing = m }) (pop_any os m)
  act labels instrs.Select os m = option_and_then (λ rest. select rest m) (pop I32 os m)
  act labels i os m = option_and_then (λ s. turn s.0 s.1 os m) (signature c i)

  abbrev pub step : Instr → State → Option State
  step (instrs.Block r) s = Some (opened Block (option_to_list r) s.known s.missing s.around)
  step (instrs.Loop r) s = Some (opened Loop (option_to_list r) s.known s.missing s.around)
  step (instrs.If r) s = option_map (λ rest. opened If (option_to_list r) rest s.missing s.around) (pop I32 s.known s.missing)
  step instrs.Else s = parted s.around s.known s.missing
  step instrs.End s = ended s.around s.known s.missing
  step i s = stay s.around (act (labels_of s.around) i s.known s.missing)

  unfoldable pub run : List Instr → State → Option State
  run [] s = Some s
  run (i ∷ is) s = option_and_then (run is) (step i s)

  -- the body is a block around which nothing stands
  abbrev pub start : State
  start = opened Block c.returns [] false []

abbrev pub total : State → ℕ
total s = length s.known + total_around s.around
