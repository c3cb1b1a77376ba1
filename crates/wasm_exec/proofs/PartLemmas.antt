-- The parts of a new instance are ready.
use Rattle.std.proofs.Common.{◌≡◌, ℕ, zero, suc, ◌*◌, ◌^◌, ◌%◌, List, [], ◌∷◌, ◌++◌, length, map, take, Option, Some, refl, sym, ap, subst, ◌∙◌, arith}
use Rattle.std.specs.Prelude.{slice_get}
use Rattle.wasm_num.specs.declared.value.Value.{Value}
use Rattle.wasm_num.specs.declared.value.Value.TheVariants.{I32, I64, F32, F64}
use Rattle.wasm_code.specs.declared.types.ValType.{ValType}
use Rattle.wasm_code.specs.declared.types.ValType.TheVariants as types
use Rattle.wasm_code.specs.declared.types.GlobalType.{GlobalType}
use Rattle.wasm_decode.specs.declared.module.ElementSegment.{ElementSegment}
use Rattle.wasm_decode.specs.declared.module.GlobalDef.{GlobalDef}
use Rattle.wasm_decode.specs.declared.module.Module.{Module}
use Rattle.wasm_validate.specs.Rules.{imported_globals, functions_of, tables_of, globals_of, kinds_of, least_of, offset_of}
use Rattle.wasm_validate.specs.Validity.{IsValid}
use Rattle.wasm_semantics.specs.Values.{HasType, HasTypes}
use Rattle.wasm_interpreter.specs.declared.compiled.Compiled.{Compiled}
use Rattle.wasm_interpreter.specs.declared.store.Store.{Store}
use Rattle.wasm_interpreter.specs.Machine.{slot}
use Rattle.wasm_interpreter.specs.Loaded.{value_types}
use Rattle.wasm_interpreter.specs.Calling.{as_type, as_types}
use Rattle.wasm_compile.specs.declared.open.TypeRow.{TypeRow}
use Rattle.wasm_exec.specs.Programs.{constant, constants, no_entries, put_entries, with_elements, table_at_first}
use Rattle.wasm_exec.specs.Compiled.{CompiledOf}
use Rattle.wasm_exec.specs.Whole.{ElementsBelow, IsWhole, AreBelow}
use Rattle.wasm_exec.proofs.ListLemmas.{below_put}
use Rattle.wasm_exec.proofs.ExistLemmas.{program_exists}
use Rattle.wasm_exec.specs.Ready.{IsReady, globals_in}

pub one_slot : (v : Value) (t : ValType) → HasType v t → as_type t (slot v) ≡ v
one_slot (I32 n) types.I32 h = let q : n % 2 ^ 32 ≡ n = omega arith in ap (λ (k : ℕ). I32 k) q
one_slot (I32 n) types.I64 h = absurd h
one_slot (I32 n) types.F32 h = absurd h
one_slot (I32 n) types.F64 h = absurd h
one_slot (I64 n) types.I32 h = absurd h
one_slot (I64 n) types.I64 h = refl
one_slot (I64 n) types.F32 h = absurd h
one_slot (I64 n) types.F64 h = absurd h
one_slot (F32 n) types.I32 h = absurd h
one_slot (F32 n) types.I64 h = absurd h
one_slot (F32 n) types.F32 h = let q : n % 2 ^ 32 ≡ n = omega arith in ap (λ (k : ℕ). F32 k) q
one_slot (F32 n) types.F64 h = absurd h
one_slot (F64 n) types.I32 h = absurd h
one_slot (F64 n) types.I64 h = absurd h
one_slot (F64 n) types.F32 h = absurd h
one_slot (F64 n) types.F64 h = refl

-- values that were put into slots and taken out again
pub as_slots : (vs : List Value) (ts : List ValType) → HasTypes vs ts → as_types ts (map slot vs) ≡ vs
as_slots [] [] h = refl
as_slots [] (t ∷ ts) h = absurd h
as_slots (v ∷ vs) [] h = absurd h
as_slots (v ∷ vs) (t ∷ ts) h = ap (λ (w : Value). w ∷ as_types ts (map slot vs)) (one_slot v t h.0) ∙ ap (λ (ws : List Value). v ∷ ws) (as_slots vs ts h.1)

pub globals_kept : (m : Module) (slots : List ℕ) (vs : List Value) → HasTypes vs (value_types (globals_of m)) → slots ≡ map slot vs → globals_in m slots ≡ vs
globals_kept m slots vs h e = ap (λ (xs : List ℕ). globals_in m xs) e ∙ as_slots vs (value_types (globals_of m)) h

-- ---- entries of the table

none_below : (count n : ℕ) → AreBelow count (no_entries n)
none_below count zero i f e = absurd cc
none_below count (suc n) zero f e = absurd cc
none_below count (suc n) (suc i) f e = none_below count n i f e

all_below : (count : ℕ) (segments : List ElementSegment) (table : List (Option ℕ)) → ElementsBelow count segments → AreBelow count table → AreBelow count (with_elements segments table)
all_below count [] table s b = b
all_below count (x ∷ segments) table s b = all_below count segments (put_entries (offset_of x.offset) x.functions table) (λ i y e. s (suc i) y e) (below_put count (offset_of x.offset) x.functions table b (s 0 x refl))

first_below : (m : Module) → ElementsBelow (length (functions_of m)) m.elements → AreBelow (length (functions_of m)) (table_at_first m)
first_below m s = all_below (length (functions_of m)) m.elements (no_entries (least_of (tables_of m))) s (none_below (length (functions_of m)) (least_of (tables_of m)))

-- ---- the first values of globals

pub slots_more : (gs : List GlobalDef) (i : ℕ) (g : GlobalDef) → slice_get gs i ≡ Some g → map slot (constants (take (suc i) gs)) ≡ map slot (constants (take i gs)) ++ slot (constant g.init) ∷ []
slots_more [] i g e = absurd cc
slots_more (h ∷ gs) zero g e = let q : h ≡ g = cc in ap (λ (x : GlobalDef). slot (constant x.init) ∷ []) q
slots_more (h ∷ gs) (suc i) g e = ap (λ (xs : List ℕ). slot (constant h.init) ∷ xs) (slots_more gs i g e)

pub typed_more : (gs : List GlobalDef) (i : ℕ) (g : GlobalDef) → slice_get gs i ≡ Some g → HasType (constant g.init) g.kind.value → HasTypes (constants (take i gs)) (value_types (kinds_of (take i gs))) → HasTypes (constants (take (suc i) gs)) (value_types (kinds_of (take (suc i) gs)))
typed_more [] i g e t h = absurd cc
typed_more (x ∷ gs) zero g e t h = let q : g ≡ x = cc in (subst (λ (y : GlobalDef). HasType (constant y.init) y.kind.value) q t, tt)
typed_more (x ∷ gs) (suc i) g e t h = (h.0, typed_more gs i g e t h.1)

module _ (m : Module) (none : imported_globals m.imports ≡ []) (typed : HasTypes (constants m.globals) (value_types (kinds_of m.globals))) where
  all_typed : HasTypes (constants m.globals) (value_types (globals_of m))
  all_typed = subst (λ (gs : List GlobalType). HasTypes (constants m.globals) (value_types (gs ++ kinds_of m.globals))) (sym none) typed

  pub first_kept : (store : Store) → store.globals ≡ map slot (constants m.globals) → globals_in m store.globals ≡ constants m.globals
  first_kept store g = globals_kept m store.globals (constants m.globals) all_typed g

  pub ready : (init : ℕ) (compiled : Compiled) (rows : List TypeRow) (room : ℕ) (store : Store) (slots : List ℕ) → IsValid m init → IsWhole m → CompiledOf m compiled rows room → store.globals ≡ map slot (constants m.globals) → length slots ≡ 256 * room → IsReady m compiled room store slots
  ready init compiled rows room store slots valid whole p g l =
      let q = program_exists m whole.bodies whole.own whole.imported valid.typed in
      let kept = first_kept store g in
      record {
        rows = rows;
        compiled_is = p;
        entries = first_below m whole.functions;
        program = q.0;
        program_is = q.1;
        long = omega (arith, l);
        globals = subst (λ (vs : List Value). HasTypes vs (value_types (globals_of m))) (sym kept) all_typed;
        same = ap (map slot) kept ∙ sym g;
      }

-- the same, of what was made of the module seen through its index spaces
pub made_ready : (m x : Module) → x ≡ m → imported_globals m.imports ≡ [] → (init : ℕ) → IsValid m init → IsWhole m → (compiled : Compiled) (rows : List TypeRow) (room : ℕ) (store : Store) (slots : List ℕ) → CompiledOf x compiled rows room → store.globals ≡ map slot (constants x.globals) → HasTypes (constants x.globals) (value_types (kinds_of x.globals)) → length slots ≡ 256 * room → IsReady m compiled room store slots
made_ready m x e none init valid whole compiled rows room store slots p g typed l =
    ready m none (subst (λ (y : Module). HasTypes (constants y.globals) (value_types (kinds_of y.globals))) e typed) init compiled rows room store slots valid whole (subst (λ (y : Module). CompiledOf y compiled rows room) e p) (subst (λ (y : Module). store.globals ≡ map slot (constants y.globals)) e g) l

pub made_first : (m x : Module) → x ≡ m → imported_globals m.imports ≡ [] → (slots : List ℕ) → slots ≡ map slot (constants x.globals) → HasTypes (constants x.globals) (value_types (kinds_of x.globals)) → globals_in m slots ≡ constants m.globals
made_first m x e none slots g typed =
    globals_kept m slots (constants m.globals) (all_typed m none (subst (λ (y : Module). HasTypes (constants y.globals) (value_types (kinds_of y.globals))) e typed)) (subst (λ (y : Module). slots ≡ map slot (constants y.globals)) e g)
