use Rattle.std.proofs.Common.{◌≡◌, ◌+◌, ◌++◌, ℕ, List, suc, [], ◌∷◌, ap, map, take, sym, subst, arith, Some, ◌∙◌}
use Rattle.std.specs.Prelude.{slice_get}
use Rattle.wasm_code.specs.declared.instr.Instr.{Instr}
use Rattle.wasm_semantics.specs.Values.{HasType, HasTypes}
use Rattle.wasm_interpreter.specs.Machine.{slot}
use Rattle.wasm_interpreter.specs.Loaded.{value_types}
use Rattle.wasm_validate.specs.Rules.{kinds_of}
use Rattle.wasm_exec.specs.Programs.{constant, constants}
use Rattle.wasm_exec.proofs.ListLemmas.{get_item}
use Rattle.wasm_exec.proofs.PartLemmas.{slots_more, typed_more}
use Rattle.wasm_exec.proofs.first.first_globals.Goals as goal

pub loop-global-preserved : goal.loop-global-preserved
loop-global-preserved c =
    let l = c.loop-global in
    let i = l.global-index in
    let gs = c.args.globals.now in
    let g = c.global-item.result in
    let here : slice_get gs i ≡ Some g = get_item gs i g _ c.loop-global-test.true c.global-item.is in
    let z : suc i ≡ i + 1 = omega arith in
    let value = c.constant.ensures.slot ∙ ap (λ (is : List Instr). slot (constant is)) c.as_slice.ensures.code in
    let type = subst (λ (is : List Instr). HasType (constant is) g.kind.value) c.as_slice.ensures.code c.constant.ensures.typed in
    record {
      slots = c.in_ok-push.ensures.ok ∙ ap (λ (xs : List ℕ). xs ++ c.constant.result ∷ []) l.invariant.slots ∙ ap (λ (x : ℕ). map slot (constants (take i gs)) ++ x ∷ []) value ∙ sym (slots_more gs i g here) ∙ ap (λ (n : ℕ). map slot (constants (take n gs))) z;
      typed = subst (λ (n : ℕ). HasTypes (constants (take n gs)) (value_types (kinds_of (take n gs)))) z (typed_more gs i g here type l.invariant.typed);
    }
