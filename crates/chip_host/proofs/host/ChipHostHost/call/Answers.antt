use Rattle.std.proofs.Common.{◌≡◌, None, Option, Some, sym, ap, subst, ◌∙◌}
use Rattle.std.specs.Prelude.{IfOk, option_to_list, slice_get}
use Rattle.wasm_code.specs.declared.types.FuncType.{FuncType}
use Rattle.wasm_num.specs.declared.value.Value.{Value}
use Rattle.wasm_semantics.specs.Eval.{Answer}
use Rattle.wasm_semantics.specs.Values.{HasTypes}
use Rattle.chip_abi.specs.HostNames.{output_of, type_of_name}
use Rattle.chip_output.specs.Calls.{output_does}
use Rattle.chip_host.specs.Inventory.{HostState, Inventory, left}
use Rattle.chip_host.proofs.HostLemmas.{import_type, named_output, named_other, output_left}
use Rattle.chip_host.proofs.host.ChipHostHost.call.Goals as goal

pub returns-in-Some-clause-answer : goal.returns-in-Some-clause-answer
returns-in-Some-clause-answer c =
    let h = c.args.self.now in
    let output = c.in-Some.output in
    let is : slice_get h.moment.given.table c.args.import ≡ Some c.name-name.result = ap (λ (x : HostState). slice_get x.moment.given.table c.args.import) (sym c.self.view_is) ∙ c.name-name.ensures in
    c.does.ensures.answer
    ∙ ap (λ (x : HostState). (output_does output c.args.args.now x.moment.init c.args.memory.now x.inventory.output).answer) c.self.view_is
    ∙ ap (λ (a : Answer Inventory). a.answer) (sym (named_output h c.args.args.now c.args.memory.now _ c.name-name.result is output (sym c.output.ensures.value ∙ c.in-Some.is)))

pub returns-in-Some-clause-state : goal.returns-in-Some-clause-state
returns-in-Some-clause-state c =
    let h = c.args.self.now in
    let output = c.in-Some.output in
    let is : slice_get h.moment.given.table c.args.import ≡ Some c.name-name.result = ap (λ (x : HostState). slice_get x.moment.given.table c.args.import) (sym c.self.view_is) ∙ c.name-name.ensures in
    output_left _ h c.args.args.now c.args.memory.now output c.does.new.self c.self.view_is c.does.ensures.output
    ∙ ap (λ (a : Answer Inventory). left h a.host) (sym (named_output h c.args.args.now c.args.memory.now _ c.name-name.result is output (sym c.output.ensures.value ∙ c.in-Some.is)))

pub returns-in-Some-clause-gives : goal.returns-in-Some-clause-gives
returns-in-Some-clause-gives c = λ t at.
    let is : slice_get c.args.self.now.moment.given.table c.args.import ≡ Some c.name-name.result = ap (λ (x : HostState). slice_get x.moment.given.table c.args.import) (sym c.self.view_is) ∙ c.name-name.ensures in
    subst (λ (u : FuncType). IfOk c.does.result (λ (v : Option Value). HasTypes (option_to_list v) u.results))
    (sym (import_type c.args.self.now.moment.given.table c.args.import t c.name-name.result at is ∙ ap type_of_name c.in-Some.ensures.is)) c.does.ensures.gives

pub returns-in-None-clause-answer : goal.returns-in-None-clause-answer
returns-in-None-clause-answer c =
    let h = c.args.self.now in
    let is : slice_get h.moment.given.table c.args.import ≡ Some c.name-name.result = ap (λ (x : HostState). slice_get x.moment.given.table c.args.import) (sym c.self.view_is) ∙ c.name-name.ensures in
    c.does-in-None.ensures.answer
    ∙ ap (λ (a : Answer Inventory). a.answer) (sym (named_other h c.args.args.now c.args.memory.now _ c.name-name.result is (sym c.output.ensures.value ∙ c.in-None.is)))

pub returns-in-None-clause-state : goal.returns-in-None-clause-state
returns-in-None-clause-state c =
    let h = c.args.self.now in
    let is : slice_get h.moment.given.table c.args.import ≡ Some c.name-name.result = ap (λ (x : HostState). slice_get x.moment.given.table c.args.import) (sym c.self.view_is) ∙ c.name-name.ensures in
    c.does-in-None.ensures.after
    ∙ ap (λ (a : Answer Inventory). left h a.host) (sym (named_other h c.args.args.now c.args.memory.now _ c.name-name.result is (sym c.output.ensures.value ∙ c.in-None.is)))

pub returns-in-None-clause-gives : goal.returns-in-None-clause-gives
returns-in-None-clause-gives c = λ t at.
    let is : slice_get c.args.self.now.moment.given.table c.args.import ≡ Some c.name-name.result = ap (λ (x : HostState). slice_get x.moment.given.table c.args.import) (sym c.self.view_is) ∙ c.name-name.ensures in
    subst (λ (u : FuncType). IfOk c.does-in-None.result (λ (v : Option Value). HasTypes (option_to_list v) u.results))
    (sym (import_type c.args.self.now.moment.given.table c.args.import t c.name-name.result at is)) c.does-in-None.ensures.gives
