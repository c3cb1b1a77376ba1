-- The start function and chipInit of a valid module have no parameters.
use Rattle.std.proofs.Common.{sym, arith, ◌≡◌, ℕ, ◌-◌, ◌<◌, List, [], ◌∷◌, length, Option, Some, None, Ok, Bool, true, false, refl, ap, subst, ◌∙◌, inl, inr, ◌⊎◌}
use Rattle.std.specs.Prelude.{slice_get, option_and_then, ◌==◌, if◌then◌else◌}
use Rattle.std.specs.Prelude.{option_to_list, IfSome}
use Rattle.std.proofs.lemmas.Bool.Decides.{eqb_tells}
use Rattle.std.proofs.lemmas.Bool.{and_parts, ltb-true}
use Rattle.sim_refusals.specs.Refusals.{ValidIndex, ValidForm}
use Rattle.wasm_decode.specs.declared.module.ImportDesc.{ImportDesc}
use Rattle.wasm_decode.specs.declared.module.Module.{Module}
use Rattle.wasm_validate.specs.Rules.{imported_functions, functions_of, import_exists, desc_exists, type_exists, outside, starts, start_fits, function_exists, is_plain_or, is_plain_type, type_of, chip_init, find_init, is_chip_init}
use Rattle.wasm_decode.specs.declared.module.Export.{Export}
use Rattle.wasm_code.specs.declared.types.ValType.{ValType}
use Rattle.wasm_code.specs.declared.types.FuncType.{FuncType}
use Rattle.wasm_semantics.specs.Values.{HasTypes}
use Rattle.wasm_exec.proofs.ListLemmas.{under, get_split}
use Rattle.wasm_exec.proofs.ValidLemmas.{Keeps, keeps_of, kept, function_import}
use Rattle.chip_abi.specs.Imports.{imports_of}
use Rattle.chip_abi.proofs.ImportLemmas.{known_imports}
use Rattle.chip_host.specs.Hosts.{AreHosts}
use Rattle.chip_host.specs.Inventory.{Given, Moment}

-- a function of a valid module has a type
module _ (m : Module) (e : outside m ≡ None) where
  keeps : Keeps m
  keeps = keeps_of m e

  below : (f k : ℕ) → slice_get (functions_of m) f ≡ Some k → k < length m.types
  below f k q = by (get_split (imported_functions m.imports) m.functions f k q)
    where
      by : (slice_get (imported_functions m.imports) f ≡ Some k) ⊎ (slice_get m.functions (f - length (imported_functions m.imports)) ≡ Some k) → k < length m.types
      by (inl h) =
          let x = function_import m.imports f k h in
          let r = kept ValidIndex 2 (import_exists m) 0 m.imports keeps.imports_exist x.0 x.1 x.2 in
          ltb-true k (length m.types) (subst (λ (d : ImportDesc). desc_exists m d ≡ true) x.3 r.1)
      by (inr h) = ltb-true k (length m.types) (kept ValidIndex 3 (type_exists m) 0 m.functions keeps.types_exist _ k h).1

  typed_at : (f k : ℕ) → slice_get (functions_of m) f ≡ Some k → (t : FuncType) × (type_of m f ≡ Some t)
  typed_at f k q =
      let t = under m.types k (below f k q) in
      (t.0, ap (option_and_then (λ (n : ℕ). slice_get m.types n)) q ∙ t.1)

plain_params : (t : FuncType) → is_plain_type t ≡ true → HasTypes [] t.params
plain_params t h = none t.params (and_parts (length t.params == 0) (length t.results == 0) h).0
  where
    none : (ts : List ValType) → (length ts == 0) ≡ true → HasTypes [] ts
    none [] e = tt
    none (x ∷ ts) e = absurd (grind (arith, eqb_tells (length (x ∷ ts)) 0))

of_plain : (b : Bool) (o : Option FuncType) (t : FuncType) → is_plain_or b o ≡ true → o ≡ Some t → HasTypes [] t.params
of_plain b None t h e = absurd cc
of_plain b (Some u) t h e = let q : u ≡ t = cc in subst (λ (x : FuncType). HasTypes [] x.params) q (plain_params u h)

pub start_typed : (m : Module) (f : ℕ) → outside m ≡ None → m.start ≡ Some f → (t : FuncType) × (type_of m f ≡ Some t) × HasTypes [] t.params
start_typed m f e s =
    let r = keeps_of m e in
    let here : slice_get (starts m) 0 ≡ Some f = ap (λ (o : Option ℕ). slice_get (option_to_list o) 0) s in
    let exists = kept ValidIndex 8 (function_exists m) 0 (starts m) r.start_there 0 f here in
    let plain = kept ValidForm 8 (start_fits m) 0 (starts m) r.start_fits 0 f here in
    let k = under (functions_of m) f (ltb-true f (length (functions_of m)) exists.1) in
    let t = typed_at m e f k.0 k.1 in
    (t.0, t.1, of_plain true (type_of m f) t.0 plain.1 t.1)

some_plain : (o : Option FuncType) → is_plain_or false o ≡ true → (t : FuncType) × (o ≡ Some t) × HasTypes [] t.params
some_plain None h = absurd cc
some_plain (Some t) h = (t, refl, plain_params t h)

init_in : (m : Module) (xs : List Export) (f : ℕ) → find_init m xs ≡ Some f → (t : FuncType) × (type_of m f ≡ Some t) × HasTypes [] t.params
init_in m [] f e = absurd cc
init_in m (x ∷ xs) f e = by (is_chip_init m x) refl e (init_in m xs f)
  where
    by : (b : Bool) → is_chip_init m x ≡ b → (if b then Some x.index else find_init m xs) ≡ Some f → (find_init m xs ≡ Some f → (t : FuncType) × (type_of m f ≡ Some t) × HasTypes [] t.params) → (t : FuncType) × (type_of m f ≡ Some t) × HasTypes [] t.params
    by true b e rest =
        let q : x.index ≡ f = cc in
        subst (λ (n : ℕ). (t : FuncType) × (type_of m n ≡ Some t) × HasTypes [] t.params) q (some_plain (type_of m x.index) (and_parts _ (is_plain_or false (type_of m x.index)) b).1)
    by false b e rest = rest e

pub init_typed : (m : Module) (f : ℕ) → chip_init m ≡ Some f → (t : FuncType) × (type_of m f ≡ Some t) × HasTypes [] t.params
init_typed m f e = init_in m m.exports f e

abbrev pub Takes : Module → ℕ → Type 0
Takes m f = (t : FuncType) × (type_of m f ≡ Some t) × HasTypes [] t.params

pub start_all : (m : Module) (o : Option ℕ) → outside m ≡ None → o ≡ m.start → IfSome o (Takes m)
start_all m None e s = tt
start_all m (Some f) e s = start_typed m f e (sym s)

pub moved : (m n : Module) (o : Option ℕ) → n ≡ m → IfSome o (Takes m) → IfSome o (Takes n)
moved m n o e h = subst (λ (x : Module). IfSome o (Takes x)) (sym e) h

pub init_all : (m : Module) (init f : ℕ) → chip_init m ≡ Some init → f ≡ init → Takes m f
init_all m init f e q = subst (Takes m) (sym q) (init_typed m init e)

-- the types of the functions that a host has are those that a module with known imports asks for
pub hosts_known : (m n : Module) (given : Given) (moment : Moment) → imports_of m ≡ Ok given.table → n ≡ m → moment.given ≡ given →
    AreHosts moment.given.table n
hosts_known m n given moment known is at =
    let functions = (known_imports m given.table known).functions in
    rw (is, at) functions
