use Rattle.cli_twin.proofs.Common.{◌≡◌, List, map, subst, sym, AreTwins, HaveNoContacts, IsTwin, TwinView, other_states}
use Rattle.cli_twin.proofs.TwinLemmas.{is_view}
use Rattle.cli_twin.proofs.running.run_beside.Goals as goal

pub run-end-requires-clause-twins : goal.run-end-requires-clause-twins
run-end-requires-clause-twins g c =
    let made = is_view c.args.parts c.args.chips c.args.wiring c.new.result c.in-Ok.board c.in_ok-twin.twin c.new.ensures c.in-Ok.ensures c.in_ok-twin.ensures in
    subst (λ (t : TwinView _). AreTwins g.P.Part.machine g.P.Part.state g.P.Part.now g.P.Part.wakes t) (sym made) c.requires.twins

pub returns : goal.returns
returns g c =
    let m = g.P.Part.machine in
    let state = g.P.Part.state in
    let made = is_view c.args.parts c.args.chips c.args.wiring c.new.result c.in-Ok.board c.in_ok-twin.twin c.new.ensures c.in-Ok.ensures c.in_ok-twin.ensures in
    subst (λ (t : TwinView _). HaveNoContacts m t.board.wiring (map state t.board.parts) (other_states state t) →
    IsTwin m t.board.wiring t.board.inputs (map state t.board.parts) (other_states state t) c.args.n c.run-end.result c.args.steps.now c.run-end.new.steps)
    made c.run-end.ensures.twin c.requires.contacts
