use Rattle.std.proofs.Common.{◌≡◌, ◌+◌, ◌<◌, ◌≤◌, ◌++◌, ℕ, List, Option, true, None, length, get_or, ap, refl, sym, ◌∙◌, arith}
use Rattle.std.proofs.lemmas.List.{get_or_read_under}
use Rattle.vcd_text.specs.Variables.{variables_of}
use Rattle.board_outputs.specs.Variables.{pin_variables}
use Rattle.board_outputs.proofs.VariableLemmas.{pins_more, pins_done}
use Rattle.board_outputs.proofs.variables.push_chip.Goals as goal

pub loop-k-preserved : goal.loop-k-preserved
loop-k-preserved c =
    let l = c.loop-k in
    let names : List (Option (List ℕ)) = c.args.pins.now in
    let net_of : List ℕ = c.args.net_of.now in
    let id : List ℕ = c.args.id.now in
    let inside : l.k < length names = omega (arith, c.loop-k-test.true) in
    let name : get_or names l.k None ≡ c.index-pins-k.result = sym (get_or_read_under names l.k (length names) c.index-pins-k.result None c.index-pins-k.is inside refl) in
    let added : variables_of c.push_named.new.variables ≡ variables_of l.variables ++ pin_variables net_of id true (c.args.first + l.k) (get_or names l.k None) =
    c.in_ok-push_named.ensures.pins ∙ ap (λ (o : Option (List ℕ)). variables_of l.variables ++ pin_variables net_of id true (c.args.first + l.k) o) (sym name) in
    record {
      pins = pins_more net_of id true c.args.first l.k names (variables_of l.variables) (variables_of c.push_named.new.variables) _ inside added l.invariant.pins;
      few = omega (arith, c.in_ok-push_named.ensures.few, l.invariant.few);
    }

pub returns-clause-pins : goal.returns-clause-pins
returns-clause-pins c =
    let l = c.loop-k in
    let names : List (Option (List ℕ)) = c.args.pins.now in
    let past : length names ≤ l.k = omega (arith, c.loop-k-test.false) in
    pins_done c.args.net_of.now c.args.id.now true (c.args.first + l.k) l.k names (variables_of l.variables) _ past l.invariant.pins
