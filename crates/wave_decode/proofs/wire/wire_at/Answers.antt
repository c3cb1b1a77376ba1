use Rattle.std.proofs.Common.{suc, ◌∙◌, sym, arith}
use Rattle.wave_decode.proofs.RisingLemmas.{none_yet}
use Rattle.wave_decode.proofs.wire.wire_at.Goals as goal

pub returns-clause-level : goal.returns-clause-level
returns-clause-level c =
    let l = c.loop-next in
    sym (l.invariant.same c.args.t (omega arith)) ∙ none_yet l.level l.rows.now (suc c.args.t) c.args.t c.in_default.ensures.past (omega arith)
