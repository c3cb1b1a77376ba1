-- Lists of types.
use Rattle.std.proofs.Common.{◌≡◌, ℕ, List, Option, None, Some, map, sym, ap, ◌∙◌}
use Rattle.std.specs.Prelude.{slice_get, option_map, option_and_then}
use Rattle.std.proofs.lemmas.Option.{slice_get-map}
use Rattle.wasm_code.specs.declared.types.FuncType.{FuncType}
use Rattle.wasm_decode.specs.declared.module.Module.{Module}
use Rattle.wasm_validate.specs.Rules.{functions_of, type_of}

joined : {X Y : Type 0} (o : Option X) (f : X → Option Y) (y : Y) → option_map f o ≡ Some (Some y) → option_and_then f o ≡ Some y
joined None f y e = absurd cc
joined (Some x) f y e = cc

-- what stands in a list of the types of all functions is the type of the function
pub known_type : (m : Module) (ts : List FuncType) (f : ℕ) (t : FuncType) → map (λ t. Some t) ts ≡ map (slice_get m.types) (functions_of m) → slice_get ts f ≡ Some t → type_of m f ≡ Some t
known_type m ts f t e g =
    let l : slice_get (map (λ t. Some t) ts) f ≡ Some (Some t) = slice_get-map (λ (t : FuncType). Some t) ts f ∙ ap (option_map (λ t. Some t)) g in
    let r : option_map (slice_get m.types) (slice_get (functions_of m) f) ≡ Some (Some t) =
    sym (slice_get-map (slice_get m.types) (functions_of m) f) ∙ ap (λ (os : List (Option FuncType)). slice_get os f) (sym e) ∙ l in
    joined (slice_get (functions_of m) f) (slice_get m.types) t r
