use Rattle.std.proofs.Common.{ap, ◌∙◌}
use Rattle.std.specs.Prelude.{slice_get}
use Rattle.part_law.proofs.SpanLemmas.{not_in_span}
use Rattle.law_board.specs.Player.{player}
use Rattle.trace_run.specs.PlayerAt.{PlayerAt}
use Rattle.trace_run.proofs.StateLemmas.{none_moved}
use Rattle.trace_run.proofs.player.PlayerPart.wake.Goals as goal

pub returns-clause-drives : goal.returns-clause-drives
returns-clause-drives c =
    none_moved c.step.new.self.moved c.args.self.now.player c.step.new.self.player
    (λ pin out. c.step.ensures.others pin out ∙ ap (λ (p : PlayerAt). slice_get (player.drives p.player) pin) c.self.view_is)

pub returns-clause-others : goal.returns-clause-others
returns-clause-others c = λ pin out.
    c.step.ensures.others pin (not_in_span c.step.new.self.moved pin out) ∙ ap (λ (p : PlayerAt). slice_get (player.drives p.player) pin) c.self.view_is
