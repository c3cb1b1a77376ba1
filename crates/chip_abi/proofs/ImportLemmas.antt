-- The imports that are known fit the host.
use Rattle.std.proofs.Common.{◌≡◌, ℕ, ◌+◌, List, [], ◌∷◌, ◌++◌, map, Bool, true, false, Option, None, Some, Result, Ok, Err, refl, sym, ap, ◌∙◌}
use Rattle.std.specs.Prelude.{slice_get, option_to_list, if◌then◌else◌}
use Rattle.std.proofs.lemmas.Bool.{and_parts}
use Rattle.sim_base.specs.declared.fault.Refusal.{Refusal}
use Rattle.sim_refusals.specs.Refusals.{ImportType, ImportUnknown}
use Rattle.wasm_code.specs.declared.types.ValType.{ValType}
use Rattle.wasm_code.specs.declared.types.ValType.TheVariants as types
use Rattle.wasm_code.specs.declared.types.FuncType.{FuncType}
use Rattle.wasm_decode.specs.declared.module.Module.{Module}
use Rattle.wasm_decode.specs.declared.module.Import.{Import}
use Rattle.wasm_decode.specs.declared.module.ImportDesc.{ImportDesc}
use Rattle.wasm_decode.specs.declared.module.ImportDesc.TheVariants as descs
use Rattle.wasm_semantics.specs.Eval.{same_type, same_types, same_signature}
use Rattle.wasm_validate.specs.Validity.{import_texts, kind_of}
use Rattle.wasm_validate.specs.Rules.{function_in, imported_functions, imported_tables, imported_globals}
use Rattle.chip_abi.specs.declared.host_name.HostName.{HostName}
use Rattle.chip_abi.specs.HostNames.{named, type_of_name}
use Rattle.chip_abi.specs.Imports.{typed, function_found, kind_found, is_memory, found, behind, read_imports, imports_of}

type_same : (t u : ValType) → same_type t u ≡ true → t ≡ u
type_same types.I32 types.I32 e = refl
type_same types.I32 types.I64 e = absurd cc
type_same types.I32 types.F32 e = absurd cc
type_same types.I32 types.F64 e = absurd cc
type_same types.I64 types.I32 e = absurd cc
type_same types.I64 types.I64 e = refl
type_same types.I64 types.F32 e = absurd cc
type_same types.I64 types.F64 e = absurd cc
type_same types.F32 types.I32 e = absurd cc
type_same types.F32 types.I64 e = absurd cc
type_same types.F32 types.F32 e = refl
type_same types.F32 types.F64 e = absurd cc
type_same types.F64 types.I32 e = absurd cc
type_same types.F64 types.I64 e = absurd cc
type_same types.F64 types.F32 e = absurd cc
type_same types.F64 types.F64 e = refl

types_same : (ts us : List ValType) → same_types ts us ≡ true → ts ≡ us
types_same [] [] e = refl
types_same [] (u ∷ us) e = absurd cc
types_same (t ∷ ts) [] e = absurd cc
types_same (t ∷ ts) (u ∷ us) e =
    let parts = and_parts (same_type t u) (same_types ts us) e in
    let first : t ≡ u = type_same t u parts.0 in
    let rest : ts ≡ us = types_same ts us parts.1 in
    cc

signature_same : (a b : FuncType) → same_signature a b ≡ true → a ≡ b
signature_same a b e =
    let parts = and_parts (same_types a.params b.params) (same_types a.results b.results) e in
    ap (λ (ts : List ValType). record { params = ts; results = a.results }) (types_same a.params b.params parts.0) ∙ ap (λ (ts : List ValType). record { params = b.params; results = ts }) (types_same a.results b.results parts.1)

abbrev good : Option HostName → Result (Option HostName) ℕ
good o = Ok o

if_ok : (b : Bool) (x y o : Option HostName) → (if b then good x else Err ImportType) ≡ good o → (b ≡ true) × (x ≡ o)
if_ok true x y o e = (refl, cc)
if_ok false x y o e = absurd cc

typed_ok : (t : Option FuncType) (name : HostName) (o : Option HostName) → typed t name ≡ Ok o → (o ≡ Some name) × (t ≡ Some (type_of_name name))
typed_ok None name o e = absurd cc
typed_ok (Some t) name o e =
    let r = if_ok (same_signature t (type_of_name name)) (Some name) None o e in
    (sym r.1, ap (λ (u : FuncType). Some u) (signature_same t (type_of_name name) r.0))

function_ok : (t : Option FuncType) (n : Option HostName) (o : Option HostName) → function_found t n ≡ Ok o → (name : HostName) × (o ≡ Some name) × (t ≡ Some (type_of_name name))
function_ok t None o e = absurd cc
function_ok t (Some name) o e = let r = typed_ok t name o e in (name, r.0, r.1)

memory_ok : (b : Bool) (o : Option HostName) → (if b then good None else Err ImportUnknown) ≡ good o → o ≡ None
memory_ok true o e = cc
memory_ok false o e = absurd cc

-- what is known of the functions, tables and globals that are imported
pub record Known (ts : List FuncType) (names : List HostName) (is : List Import) : Type 0 where
  pub functions : map (λ t. Some t) (map type_of_name names) ≡ map (slice_get ts) (imported_functions is)
  pub tables : imported_tables is ≡ []
  pub globals : imported_globals is ≡ []

abbrev Front : List FuncType → List HostName → Import → List Import → Type 0
Front ts names i is = Known ts names is → Known ts names (i ∷ is)

module _ (ts : List FuncType) where
  behind_ok : (n : ℕ) (f : Result (Option HostName) ℕ) (r : Result (List HostName) Refusal) (names : List HostName) → behind n f r ≡ Ok names
      → (o : Option HostName) × (xs : List HostName) × (f ≡ Ok o) × (r ≡ Ok xs) × (option_to_list o ++ xs ≡ names)
  behind_ok n (Err k) r names e = absurd cc
  behind_ok n (Ok o) (Err k) names e = absurd cc
  behind_ok n (Ok o) (Ok xs) names e = (o, xs, refl, refl, cc)

  known_more : (d : ImportDesc) (from name : List ℕ) (o : Option HostName) (xs names : List HostName) (i : Import) (is : List Import) → i.desc ≡ d → kind_found ts (kind_of d) from name ≡ Ok o → option_to_list o ++ xs ≡ names → Known ts xs is → Known ts names (i ∷ is)
  known_more (descs.Function k) from name o xs names i is d e j rest =
      let f = function_ok (slice_get ts k) (named from name) o e in
      let q : f.0 ∷ xs ≡ names = sym (ap (λ (p : Option HostName). option_to_list p ++ xs) f.1) ∙ j in
      let here : Some (type_of_name f.0) ≡ slice_get ts k = sym f.2 in
      let fns : map (λ t. Some t) (map type_of_name (f.0 ∷ xs)) ≡ map (slice_get ts) (k ∷ imported_functions is) =
      ap (λ (h : Option FuncType). h ∷ map (λ t. Some t) (map type_of_name xs)) here ∙ ap (λ (os : List (Option FuncType)). slice_get ts k ∷ os) rest.functions in
      record {
        functions = sym (ap (λ (ns : List HostName). map (λ t. Some t) (map type_of_name ns)) q) ∙ (fns ∙ ap (λ (x : ImportDesc). map (slice_get ts) (function_in x (imported_functions is))) (sym d));
        tables = rw d rest.tables;
        globals = rw d rest.globals;
      }
  known_more (descs.Memory l) from name o xs names i is d e j rest =
      let f = memory_ok (is_memory from name) o e in
      let q : xs ≡ names = sym (ap (λ (p : Option HostName). option_to_list p ++ xs) f) ∙ j in
      record {
        functions = sym (ap (λ (ns : List HostName). map (λ t. Some t) (map type_of_name ns)) q) ∙ (rest.functions ∙ ap (λ (x : ImportDesc). map (slice_get ts) (function_in x (imported_functions is))) (sym d));
        tables = rw d rest.tables;
        globals = rw d rest.globals;
      }
  known_more (descs.Table l) from name o xs names i is d e j rest = absurd cc
  known_more (descs.Global g) from name o xs names i is d e j rest = absurd cc

  pub known : (n : ℕ) (is : List Import) (names : List HostName) → read_imports ts n (import_texts is) ≡ Ok names → Known ts names is
  known n [] names e = record { functions = cc; tables = refl; globals = refl }
  known n (i ∷ is) names e =
      let b = behind_ok n (found ts (record { «module» = i.module; name = i.name; kind = kind_of i.desc })) (read_imports ts (n + 1) (import_texts is)) names e in
      known_more i.desc i.module i.name b.0 b.1 names i is refl b.2 b.4 (known (n + 1) is b.1 b.3)

-- a module whose imports are known imports no table and no global, and its functions have the types of their names
pub known_imports : (m : Module) (names : List HostName) → imports_of m ≡ Ok names → Known m.types names m.imports
known_imports m names e = known m.types 1 m.imports names e
