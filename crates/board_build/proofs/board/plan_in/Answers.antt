use Rattle.std.proofs.lemmas.Result.{err_from_is_err_and}
use Rattle.std.proofs.Common.{◌≡◌, ◌∙◌, ap, sym, subst, Err, length, List, ℕ, arith, Ok}
use Rattle.sim_base.specs.declared.wiring.Input.{Input}
use Rattle.sim_base.specs.Reads.{Reads}
use Rattle.document_model.specs.declared.diagram.PartText.{PartText}
use Rattle.document_model.specs.declared.diagram.Wire.{Wire}
use Rattle.document_model.specs.Reading.{each_from}
use Rattle.std.specs.List.{zip}
use Rattle.board_build.specs.declared.plan.PlanKind.{PlanKind}
use Rattle.board_build.specs.Ids.{ids_in}
use Rattle.board_build.specs.Parts.{found_chip, part_in_plan, input_of}
use Rattle.board_build.specs.Pins.{wire_on_board, contacts_inside, resistors_in}
use Rattle.document_model.proofs.ReadingLemmas.{each_length}
use Rattle.board_build.proofs.PinLemmas.{starts_length, all_inside, contacts_each, resistors_each}
use Rattle.board_build.proofs.WireLemmas.{joined_below}
use Rattle.board_build.proofs.PlanLemmas.{refused_last, read_all}
use Rattle.board_build.proofs.board.plan_in.Goals as goal

pub parts_in_plan-requires-clause-same : goal.parts_in_plan-requires-clause-same
parts_in_plan-requires-clause-same c =
    ap (λ (l : List PlanKind). length l) c.as_slice-3.ensures
    ∙ each_length found_chip 1 c.args.found.now c.in_ok-kinds.kinds c.in_ok-kinds.ensures
    ∙ c.requires.parts
    ∙ sym (ap (λ (l : List PartText). length l) c.as_slice-4.ensures)

pub inputs_of-requires : goal.inputs_of-requires
inputs_of-requires c =
    let many = each_length found_chip 1 c.args.found.now c.in_ok-kinds.kinds c.in_ok-kinds.ensures in
    rw c.as_slice-5.ensures (omega (arith, many, c.requires.parts, c.requires.few_parts))

pub returns-in_err-inputs : goal.returns-in_err-inputs
returns-in_err-inputs c =
    let q = err_from_is_err_and c.from_residual-in_err-inputs.result c.from_residual-in_err-inputs.ensures.1 in
    let ids = ids_in c.args.ids.now in
    let found = c.args.found.now in
    let wire : each_from (λ k. wire_on_board c.args.pins.now found ids) 1 c.args.diagram.now.wires ≡ Ok c.in_ok-wires.wires = rw (sym c.as_slice-2.ensures) c.in_ok-wires.ensures in
    let more : each_from part_in_plan 1 (zip c.in_ok-kinds.kinds c.args.diagram.now.parts) ≡ Ok c.in_ok-parts.parts =
    rw (sym c.as_slice-3.ensures, sym c.as_slice-4.ensures) c.in_ok-parts.ensures in
    let h : Reads (λ (x : List Input). x) (Err c.in_err-inputs.field-0.0) (each_from (λ k. input_of ids c.in_ok-kinds.kinds) 1 c.args.script.now) =
    rw (sym c.as_slice-5.ensures, sym c.as_slice-6.ensures) c.in_err-inputs.ensures in
    rw (q.1, q.2) (refused_last c.args.diagram.now c.args.pins.now c.args.script.now found ids c.in_ok-wires.wires c.in_ok-one_uno.field-0 c.in_ok-few_chips.field-0 c.in_ok-kinds.kinds c.in_ok-parts.parts
    c.in_err-inputs.field-0.0 wire c.in_ok-one_uno.ensures c.in_ok-kinds.ensures more c.in_ok-few_chips.ensures h)

pub wiring-requires-clause-same : goal.wiring-requires-clause-same
wiring-requires-clause-same c = ap (λ (l : List ℕ). length l) c.in_ok-firsts.ensures.starts ∙ starts_length c.args.pins.now 0 c.args.found.now

pub wiring-requires-clause-joined : goal.wiring-requires-clause-joined
wiring-requires-clause-joined c =
    let wire = subst (λ (ws : List Wire). each_from (λ k. wire_on_board c.args.pins.now c.args.found.now (ids_in c.args.ids.now)) 1 ws ≡ Ok c.in_ok-wires.wires) c.as_slice-2.ensures c.in_ok-wires.ensures in
    rw (c.in_ok-firsts.ensures.starts, c.in_ok-firsts.ensures.total)
    (joined_below c.args.pins.now c.args.found.now c.in_ok-kinds.kinds (ids_in c.args.ids.now) c.args.diagram.now.wires c.in_ok-wires.wires c.in_ok-kinds.ensures wire)

pub wiring-requires-clause-contacts : goal.wiring-requires-clause-contacts
wiring-requires-clause-contacts c =
    rw (c.in_ok-firsts.ensures.starts, c.in_ok-firsts.ensures.total) (all_inside c.args.pins.now contacts_inside (contacts_each c.args.pins.now) c.args.found.now)

pub wiring-requires-clause-resistors : goal.wiring-requires-clause-resistors
wiring-requires-clause-resistors c =
    rw (c.in_ok-firsts.ensures.starts, c.in_ok-firsts.ensures.total) (all_inside c.args.pins.now resistors_in (resistors_each c.args.pins.now) c.args.found.now)

pub returns : goal.returns
returns c =
    let ids = ids_in c.args.ids.now in
    let found = c.args.found.now in
    let wire : each_from (λ k. wire_on_board c.args.pins.now found ids) 1 c.args.diagram.now.wires ≡ Ok c.in_ok-wires.wires = rw (sym c.as_slice-2.ensures) c.in_ok-wires.ensures in
    let more : each_from part_in_plan 1 (zip c.in_ok-kinds.kinds c.args.diagram.now.parts) ≡ Ok c.in_ok-parts.parts =
    rw (sym c.as_slice-3.ensures, sym c.as_slice-4.ensures) c.in_ok-parts.ensures in
    let input : each_from (λ k. input_of ids c.in_ok-kinds.kinds) 1 c.args.script.now ≡ Ok c.in_ok-inputs.inputs =
    rw (sym c.as_slice-5.ensures, sym c.as_slice-6.ensures) c.in_ok-inputs.ensures in
    let all = read_all c.args.diagram.now c.args.pins.now c.args.script.now found ids c.in_ok-wires.wires c.in_ok-one_uno.field-0 c.in_ok-few_chips.field-0 c.in_ok-kinds.kinds c.in_ok-parts.parts
    c.in_ok-inputs.inputs wire c.in_ok-one_uno.ensures c.in_ok-kinds.ensures more c.in_ok-few_chips.ensures input in
    rw (c.in_ok-wiring.ensures, c.in_ok-firsts.ensures.starts, c.in_ok-firsts.ensures.total, c.parts.view_is) all
