use Rattle.chip_host.proofs.ShownLemmas.{Kept}
use Rattle.chip_host.proofs.shown.show.Given as goal

abbrev pub invariant-loop-pin : goal.invariant-loop-pin
invariant-loop-pin l = Kept l.turns.chip l.fn.shown.items l.shown.items l.moved (record { from = l.pin; to = l.fn.span.to })
