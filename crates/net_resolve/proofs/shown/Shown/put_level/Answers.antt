use Rattle.net_resolve.proofs.Common.{◌∙◌, sym, subst, ap, Some, slice_set, get_within, some_same, MarksView, Moves}
use Rattle.net_resolve.proofs.MarkLemmas.{moves_put}
use Rattle.net_resolve.proofs.shown.Shown.put_level.Goals as goal

pub returns-then-not-is_same_level-clause-moves : goal.returns-then-not-is_same_level-clause-moves
returns-then-not-is_same_level-clause-moves c =
    let levels = c.args.self.now.levels.items in
    let at = get_within levels c.args.net c.index.result.now c.requires.net ∙ ap Some (sym c.index.ensures) in
    subst (λ (m : MarksView). Moves levels (slice_set levels c.args.net c.args.level) c.args.self.now.changed m) (sym c.add.ensures)
    (moves_put levels c.args.self.now.changed c.args.net c.args.level c.requires.net
    (λ same. c.is_same_level.ensures.differs c.if-not-is_same_level.true (some_same (sym at ∙ same))))
