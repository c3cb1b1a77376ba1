use Rattle.std.proofs.Common.{arith}
use Rattle.board_model.specs.Resolve.{passes}
use Rattle.net_reference.specs.Sights.{over}
use Rattle.net_reference.proofs.PlainLemmas.{within_none, found_all}
use Rattle.net_reference.proofs.plain.Sight.+walks.Goals as goal

pub returns-then-k-eq0 : goal.returns-then-k-eq0
returns-then-k-eq0 t c = within_none c.args.self.now.nets (over c.args.self.now passes) c.args.k c.args.n c.args.m c.if-k-eq0.true

pub returns : goal.returns
returns t c =
    found_all c.args.self.now.nets (over c.args.self.now passes) c.args.k c.args.n c.args.m c.loop-j.j c.loop-j.found
    (omega arith) c.loop-j-test.false (omega arith) c.loop-j.invariant
