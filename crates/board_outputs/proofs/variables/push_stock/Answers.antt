use Rattle.std.proofs.Common.{◌≡◌, ◌+◌, ◌<◌, ◌≤◌, ◌++◌, [], ℕ, List, Option, false, None, Some, length, get_or, ap, sym, subst, ◌∙◌, arith}
use Rattle.text_model.specs.Wave.{Variable}
use Rattle.vcd_text.specs.Variables.{variables_of}
use Rattle.board_build.specs.declared.plan.PlanKind.TheVariants as plans
use Rattle.board_outputs.specs.Variables.{shown_names, pin_variables}
use Rattle.board_outputs.proofs.VariableLemmas.{shown_name, pins_more, pins_done}
use Rattle.board_outputs.proofs.variables.push_stock.Goals as goal

pub loop-k-preserved : goal.loop-k-preserved
loop-k-preserved c =
    let l = c.loop-k in
    let names : List (Option (List ℕ)) = shown_names [] (plans.Stock c.args.kind) in
    let net_of : List ℕ = c.args.net_of.now in
    let id : List ℕ = c.args.id.now in
    let inside : l.k < length names = omega (arith, c.loop-k-test.true, c.shown_count-k-end.ensures.count) in
    let name = shown_name c.args.kind l.k c.pin_name.result inside c.pin_name.ensures in
    let added : variables_of c.push_pin.new.variables ≡ variables_of l.variables ++ pin_variables net_of id false (c.args.first + l.k) (get_or names l.k None) =
    subst (λ (j : ℕ). variables_of c.push_pin.new.variables ≡ variables_of l.variables ++ pin_variables net_of id false (c.args.first + j) (get_or names l.k None)) c.from.ensures
    (c.in_ok-push_pin.ensures.pins ∙ ap (λ (o : Option (List ℕ)). variables_of l.variables ++ pin_variables net_of id false (c.args.first + c.from.result) o) (sym name)) in
    record {
      pins = pins_more net_of id false c.args.first l.k names (variables_of l.variables) (variables_of c.push_pin.new.variables) _ inside added l.invariant.pins;
      few = omega (arith, c.in_ok-push_pin.ensures.few, l.invariant.few);
    }

pub returns-clause-pins : goal.returns-clause-pins
returns-clause-pins c =
    let l = c.loop-k in
    let names : List (Option (List ℕ)) = shown_names [] (plans.Stock c.args.kind) in
    let past : length names ≤ l.k = omega (arith, c.loop-k-test.false, c.shown_count-k-end.ensures.count) in
    pins_done c.args.net_of.now c.args.id.now false (c.args.first + l.k) l.k names (variables_of l.variables) _ past l.invariant.pins
