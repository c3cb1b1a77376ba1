use Rattle.avr_unit.proofs.UnitLemmas.{wait_requests, quiet_within}
use Rattle.avr_unit.proofs.group.wait.Goals as goal

pub returns-clause-stands : goal.returns-clause-stands
returns-clause-stands g c =
    let o = g.G.Group in let s = c.args.group.now in let r = c.requires in
    let soon = quiet_within o.machine (o.state s c.args.cycle) c.args.cycle (o.until s) c.args.to (g.met.G.Group.first s c.args.levels.now c.args.cycle r.here) r.forward r.end r.quiet in
    (g.met.G.Group.waits s c.args.levels.now c.args.cycle c.args.to r.here r.forward soon).0

pub returns-clause-state : goal.returns-clause-state
returns-clause-state g c =
    let o = g.G.Group in let s = c.args.group.now in let r = c.requires in
    let soon = quiet_within o.machine (o.state s c.args.cycle) c.args.cycle (o.until s) c.args.to (g.met.G.Group.first s c.args.levels.now c.args.cycle r.here) r.forward r.end r.quiet in
    (g.met.G.Group.waits s c.args.levels.now c.args.cycle c.args.to r.here r.forward soon).1

pub returns-clause-requests : goal.returns-clause-requests
returns-clause-requests g c = λ l.
    let o = g.G.Group in let s = c.args.group.now in let r = c.requires in
    let first = g.met.G.Group.first s c.args.levels.now c.args.cycle r.here in
    let soon = quiet_within o.machine (o.state s c.args.cycle) c.args.cycle (o.until s) c.args.to first r.forward r.end r.quiet in
    wait_requests o.machine g.met.G.Group.laws c.args.cycle (o.until s) (o.state s) first c.args.to l r.forward soon
    (g.met.G.Group.waits s c.args.levels.now c.args.cycle c.args.to r.here r.forward soon).1
