-- The nested code that a flat list of instructions spells (WebAssembly core specification, "Expressions"), read from its end.
use Rattle.std.specs.Prelude.{List, [], ◌∷◌, Option, None, Some}
use Rattle.wasm_code.specs.declared.types.ValType.{ValType}
use Rattle.wasm_code.specs.declared.instr.Instr.{Instr}
use Rattle.wasm_code.specs.declared.instr.Instr.TheVariants as instrs
use Rattle.wasm_code.specs.Code.{Block, Loop, If, Kind, Code, Done, Then, In, Both}

-- what was read of an expression that goes on before it: its code, and its else where that was met
pub record Tail : Type 0 where
  pub code : Code
  pub other : Option Code

abbrev pub plain : Instr → List Tail → List Tail
plain i [] = []
plain i (t ∷ ts) = record { code = Then i t.code; other = t.other } ∷ ts

-- a head joins the content behind it to what follows the block
abbrev pub headed : Kind → Option ValType → List Tail → List Tail
headed k r (a ∷ t ∷ ts) = record { code = In k r a.code t.code; other = t.other } ∷ ts
headed k r _ = []

abbrev pub chosen : Option ValType → Code → Option Code → Code → Code
chosen r a None e = In If r a e
chosen r a (Some b) e = Both r a b e

abbrev pub if_headed : Option ValType → List Tail → List Tail
if_headed r (a ∷ t ∷ ts) = record { code = chosen r a.code a.other t.code; other = t.other } ∷ ts
if_headed r _ = []

abbrev pub parted : List Tail → List Tail
parted [] = []
parted (b ∷ ts) = record { code = Done; other = Some b.code } ∷ ts

abbrev pub before : Instr → List Tail → List Tail
before (instrs.Block r) ts = headed Block r ts
before (instrs.Loop r) ts = headed Loop r ts
before (instrs.If r) ts = if_headed r ts
before instrs.Else ts = parted ts
before instrs.End ts = record { code = Done; other = None } ∷ ts
before i ts = plain i ts

abbrev pub tails : List Instr → List Tail
tails [] = []
tails (i ∷ is) = before i (tails is)

abbrev pub first_code : List Tail → Code
first_code [] = Done
first_code (t ∷ ts) = t.code

abbrev pub nested : List Instr → Code
nested is = first_code (tails is)
