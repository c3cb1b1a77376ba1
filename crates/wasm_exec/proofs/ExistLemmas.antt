-- A valid module has a program.
use Rattle.std.proofs.Common.{◌≡◌, ℕ, suc, ◌+◌, ◌<◌, List, [], ◌∷◌, length, map, Some, refl, sym, ap, ◌∙◌, arith}
use Rattle.std.specs.Prelude.{slice_get}
use Rattle.wasm_code.specs.declared.types.FuncType.{FuncType}
use Rattle.wasm_decode.specs.declared.module.Module.{Module}
use Rattle.wasm_decode.specs.declared.module.Body.{Body as Text}
use Rattle.wasm_validate.specs.Rules.{imported_functions}
use Rattle.wasm_validate.specs.Validity.{AllTyped, declared}
use Rattle.wasm_semantics.specs.Eval.{Program, Func}
use Rattle.wasm_exec.specs.Programs.{FuncsAre, IsProgram, table_at_first}
use Rattle.wasm_exec.proofs.ListLemmas.{under}

funcs_exist : (m : Module) (n : ℕ) (ks : List ℕ) (bs : List Text) → length ks ≡ length bs → ((i k : ℕ) → slice_get ks i ≡ Some k → k < length m.types) → AllTyped m n bs → (fs : List Func) × FuncsAre m n ks bs fs
funcs_exist m n [] [] e lt ty = ([], tt)
funcs_exist m n [] (b ∷ bs) e lt ty = absurd (omega (arith, e))
funcs_exist m n (k ∷ ks) [] e lt ty = absurd (omega (arith, e))
funcs_exist m n (k ∷ ks) (b ∷ bs) e lt ty =
    let t = under m.types k (lt 0 k refl) in
    let body = ty.0.0 in
    let r = funcs_exist m (n + 1) ks bs (omega (arith, e)) (λ i j q. lt (suc i) j q) ty.1 in
    let f : Func = record { signature = t.0; locals = declared b.locals; body = body.0 } in
    (f ∷ r.0, (t.1, refl, body.1, body.2, r.1))

types_exist : (all : List FuncType) (ks : List ℕ) → ((i k : ℕ) → slice_get ks i ≡ Some k → k < length all) → (ts : List FuncType) × (map (λ t. Some t) ts ≡ map (slice_get all) ks)
types_exist all [] lt = ([], refl)
types_exist all (k ∷ ks) lt =
    let t = under all k (lt 0 k refl) in
    let r = types_exist all ks (λ i j q. lt (suc i) j q) in
    (t.0 ∷ r.0, ap (λ o. o ∷ map (λ t. Some t) r.0) (sym t.1) ∙ ap (λ os. slice_get all k ∷ os) r.1)

pub program_exists : (m : Module) → length m.functions ≡ length m.bodies → ((i k : ℕ) → slice_get m.functions i ≡ Some k → k < length m.types) → ((i k : ℕ) → slice_get (imported_functions m.imports) i ≡ Some k → k < length m.types) → AllTyped m 0 m.bodies → (p : Program) × IsProgram m p
program_exists m e lt li ty =
    let fs = funcs_exist m 0 m.functions m.bodies e lt ty in
    let is = types_exist m.types (imported_functions m.imports) li in (
      record { types = m.types; imports = is.0; funcs = fs.0; table = table_at_first m },
      record { types = refl; imports = is.1; funcs = fs.1; table = refl },
    )
