use Rattle.board_run.proofs.Common.{◌≡◌, List, subst, refl, Input}
use Rattle.std.specs.Prelude.{insert}
use Rattle.law_board.specs.Scripts.{with_input}
use Rattle.board_run.proofs.GiveLemmas.{given_to}
use Rattle.board_run.proofs.engine.Engine.give.Goals as goal

pub returns-clause-may : goal.returns-clause-may
returns-clause-may g c =
    let x = c.args.input in
    let place = c.place_for-place.result in
    let same = subst (λ (l : List Input). insert l place x ≡ with_input l x) c.as_slice.ensures (c.place_for-place.ensures.place x refl) in
    given_to g.P.Part c.args.self.now x c.insert.result c.insert.new.self place c.requires.may c.requires.later same c.insert.ensures.ok c.insert.ensures.err
