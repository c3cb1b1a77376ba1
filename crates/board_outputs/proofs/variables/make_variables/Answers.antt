use Rattle.std.proofs.Common.{◌≡◌, ◌<◌, ◌≤◌, ◌++◌, ℕ, List, length, get_or, take, sym, ap, arith}
use Rattle.std.specs.List.{sum_by, count_by}
use Rattle.std.proofs.lemmas.List.{take_all}
use Rattle.std.proofs.lemmas.List.Sums.{sum_by_more}
use Rattle.vcd_text.specs.Variables.{variables_of}
use Rattle.board_build.specs.declared.plan.PlanPart.{PlanPart}
use Rattle.board_outputs.specs.Variables.{part_variables}
use Rattle.board_outputs.proofs.VariableLemmas.{pins_few, part_fits, part_ready, parts_more, parts_done, firsts_many, most_variables, most_all}
use Rattle.board_outputs.proofs.variables.make_variables.Goals as goal

pub bounds-firsts-i : goal.bounds-firsts-i
bounds-firsts-i c =
    let inside : c.loop-i.i < length c.args.plan.now.parts = rw (sym c.as_slice-parts.ensures) c.loop-i-test.true in
    rw c.as_slice-firsts.ensures (omega (arith, firsts_many c.args.pins.now c.args.plan.now c.requires.plan, inside))

pub push_part-requires-clause-fits : goal.push_part-requires-clause-fits
push_part-requires-clause-fits c =
    let parts : List PlanPart = c.args.plan.now.parts in
    let inside : c.loop-i.i < length parts = rw (sym c.as_slice-parts.ensures) c.loop-i-test.true in
    let part = c.index-parts-i.result in
    let at : part ≡ get_or parts c.loop-i.i part = rw (sym c.as_slice-parts.ensures) c.index-parts-i.is in
    rw (c.as_slice-firsts.ensures, c.as_slice-net_of.ensures) (part_fits c.args.pins.now c.args.plan.now c.loop-i.i part c.requires.plan inside at)

pub push_part-requires-clause-ready : goal.push_part-requires-clause-ready
push_part-requires-clause-ready c =
    let parts : List PlanPart = c.args.plan.now.parts in
    let inside : c.loop-i.i < length parts = rw (sym c.as_slice-parts.ensures) c.loop-i-test.true in
    let part = c.index-parts-i.result in
    let at : part ≡ get_or parts c.loop-i.i part = rw (sym c.as_slice-parts.ensures) c.index-parts-i.is in
    part_ready c.args.pins.now c.args.plan.now c.loop-i.i part c.requires.plan inside at

pub push_part-requires-clause-few : goal.push_part-requires-clause-few
push_part-requires-clause-few c = rw c.as_slice-net_of.ensures (pins_few c.args.pins.now c.args.plan.now c.requires.few_pins c.requires.plan)

pub loop-i-preserved : goal.loop-i-preserved
loop-i-preserved c =
    let l = c.loop-i in
    let chip_pins = c.args.pins.now in
    let parts : List PlanPart = c.args.plan.now.parts in
    let firsts : List ℕ = c.args.plan.now.wiring.first_pin in
    let net_of : List ℕ = c.args.plan.now.wiring.net_of in
    let inside : l.i < length parts = rw (sym c.as_slice-parts.ensures) c.loop-i-test.true in
    let part = c.index-parts-i.result in
    let at : part ≡ get_or parts l.i part = rw (sym c.as_slice-parts.ensures) c.index-parts-i.is in
    let many = firsts_many chip_pins c.args.plan.now c.requires.plan in
    let begins : l.i < length firsts = omega (arith, many, inside) in
    let added : variables_of c.push_part.new.variables ≡ variables_of l.variables ++ part_variables chip_pins net_of (get_or firsts l.i 0) part =
    rw (sym c.as_slice-firsts.ensures, sym c.as_slice-net_of.ensures) c.in_ok-push_part.ensures.pins in
    let more = sum_by_more most_variables parts l.i part inside in
    let own = ap most_variables at in
    record {
      parts = parts_more chip_pins net_of firsts parts l.i part (variables_of l.variables) (variables_of c.push_part.new.variables) _ begins inside at added l.invariant.parts;
      few = omega (arith, c.in_ok-push_part.ensures.few, l.invariant.few, more, own);
    }

pub returns-clause-variables : goal.returns-clause-variables
returns-clause-variables c =
    let l = c.loop-i in
    let chip_pins = c.args.pins.now in
    let parts : List PlanPart = c.args.plan.now.parts in
    let past : length parts ≤ l.i = rw (sym c.as_slice-parts.ensures) c.loop-i-test.false in
    let many = firsts_many chip_pins c.args.plan.now c.requires.plan in
    parts_done chip_pins c.args.plan.now.wiring.net_of c.args.plan.now.wiring.first_pin parts l.i (variables_of l.variables) _ (omega (arith, many, past)) l.invariant.parts

pub returns-clause-few : goal.returns-clause-few
returns-clause-few c =
    let l = c.loop-i in
    let parts : List PlanPart = c.args.plan.now.parts in
    let past : length parts ≤ l.i = rw (sym c.as_slice-parts.ensures) c.loop-i-test.false in
    let all = ap (sum_by most_variables) (take_all l.i parts past) in
    let most = most_all parts in
    let is = c.requires.plan in
    omega (arith, l.invariant.few, all, most, is.few, is.few_chips)
