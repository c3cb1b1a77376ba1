use Rattle.std.proofs.Common.{sym, ◌∙◌}
use Rattle.part_law.proofs.SpanLemmas.{none_in}
use Rattle.chip_host.proofs.ShownLemmas.{kept_but}
use Rattle.chip_host.proofs.shown.turn.Goals as goal

pub show-requires-clause-others : goal.show-requires-clause-others
show-requires-clause-others c =
    kept_but c.args.turns.now.chip c.take_turns-span.new.self.chip c.args.shown.now.items c.take_turns-span.result c.requires.shown c.requires.few c.take_turns-span.ensures.drives

pub returns-else-has_any-clause-shown : goal.returns-else-has_any-clause-shown
returns-else-has_any-clause-shown c = λ k l.
    kept_but c.args.turns.now.chip c.take_turns-span.new.self.chip c.args.shown.now.items c.take_turns-span.result c.requires.shown c.requires.few c.take_turns-span.ensures.drives
    k l (none_in c.take_turns-span.result k (sym c.has_any.ensures ∙ c.if-has_any.false))
