use Rattle.std.proofs.Common.{◌+◌, ℕ, List, None, length}
use Rattle.sim_base.specs.declared.wiring.Wiring.{Wiring}
use Rattle.sim_base.specs.declared.wiring.Input.{Input}
use Rattle.text_model.specs.Wave.{Variable, wave_count}
use Rattle.board_model.specs.Board.{bytes}
use Rattle.board_model.specs.Rows.{rows}
use Rattle.law_board.specs.Active.{active_pairs}
use Rattle.vcd_text.specs.Writers.{capped}
use Rattle.any_part.specs.AnyPart.{AnyState, any}
use Rattle.project_run.specs.Contents.{contents_of}
use Rattle.project_run.proofs.CountLemmas.{counted_is}
use Rattle.project_run.proofs.counting.count_board.Goals as goal

pub returns-clause-counted : goal.returns-clause-counted
returns-clause-counted g c =
    let n : ℕ = c.args.n in
    let has = contents_of c.args.contents in
    let is = c.in_ok-loaded.ensures in
    let vs = c.in_ok-loaded.loaded.head.variables in
    let v = c.in_ok-loaded.loaded.board in
    record {
      changes_are =
          counted_is (λ (vs : List Variable) (w : Wiring) (inputs : List Input) (ss : List AnyState). capped (wave_count vs (rows any w inputs None ss 0 n)))
          vs v has c.args.plan c.count-counts.result.0 is.shown is.wiring is.inputs is.states c.count-counts.ensures.changes;
      sent_is =
          counted_is (λ (vs : List Variable) (w : Wiring) (inputs : List Input) (ss : List AnyState). capped (length (bytes any w inputs ss 0 n)))
          vs v has c.args.plan c.count-counts.result.1 is.shown is.wiring is.inputs is.states c.count-counts.ensures.sent;
      wakes_are =
          counted_is (λ (vs : List Variable) (w : Wiring) (inputs : List Input) (ss : List AnyState). c.args.steps.now + active_pairs any w inputs ss 0 n)
          vs v has c.args.plan c.count-counts.new.steps is.shown is.wiring is.inputs is.states c.count-counts.ensures.steps;
    }
