use Rattle.std.proofs.Common.{◌<◌, ◌≤◌, ◌∙◌, sym, ap, length, List, ℕ, ◌++◌, map, arith}
use Rattle.std.proofs.lemmas.List.{append-nil, get_or-map, length-map}
use Rattle.vcd_text.specs.Variables.{variable_of}
use Rattle.vcd_text.proofs.WaveLemmas.{declarations_next, no_declarations}
use Rattle.vcd_text.proofs.declarations.declare_all.Goals as goal

pub loop-i-preserved : goal.loop-i-preserved
loop-i-preserved c =
    let vs = map variable_of c.args.variables.now in
    let within : c.loop-i.i < length (map variable_of c.args.variables.now) = omega (arith, length-map c.args.variables.now variable_of) in
    let same = get_or-map variable_of c.args.variables.now c.loop-i.i c.index-variables-i.result (variable_of c.index-variables-i.result) c.loop-i-test.true ∙ ap variable_of (sym c.index-variables-i.is) in
    rw c.in_ok-declare.ensures (sym (declarations_next c.loop-i.out.items c.loop-i.i vs (variable_of c.index-variables-i.result) within (sym same)) ∙ c.loop-i.invariant)

pub returns : goal.returns
returns c =
    let past : length (map variable_of c.args.variables.now) ≤ c.loop-i.i = omega (arith, length-map c.args.variables.now variable_of) in
    let none = no_declarations c.loop-i.i (map variable_of c.args.variables.now) past in
    sym (append-nil c.loop-i.out.items) ∙ ap (λ (l : List ℕ). c.loop-i.out.items ++ l) (sym none) ∙ c.loop-i.invariant
