use Rattle.std.proofs.Common.{◌∙◌, ap, sym}
use Rattle.avr_unit.specs.UnitMachine.{least}
use Rattle.avr_unit.proofs.UnitLemmas.{same_first}
use Rattle.avr_unit.proofs.seldom.SeldomGroup.read.Goals as goal

pub returns-then-not-reading_keeps-clause-stands : goal.returns-then-not-reading_keeps-clause-stands
returns-then-not-reading_keeps-clause-stands g c = record {
  here = c.read-value.ensures.stands;
  due_is = c.due-self.ensures;
  request_is = c.request-self.ensures _ c.read-value.ensures.stands;
}

pub returns-else-not-reading_keeps-clause-stands : goal.returns-else-not-reading_keeps-clause-stands
returns-else-not-reading_keeps-clause-stands g c =
    let o = g.G.Group in
    let m = o.machine in
    let s = c.args.self.now.group in
    let v = c.read-value.new.self in
    let t = c.args.cycle in
    let l = c.args.levels.now in
    let r = c.requires.here in
    let here = c.read-value.ensures.stands in
    let same = c.read-value.ensures.state ∙ c.reading_keeps.ensures c.if-not-reading_keeps.false (o.state s t) t in
    record {
      here = here;
      due_is = r.due_is ∙ same_first m (o.state v t) (o.state s t) t (o.until s) (o.until v) same (g.met.G.Group.first s l t r.here) (g.met.G.Group.first v l t here);
      request_is = r.request_is ∙ ap (λ (x : o.State). least (m.requests x l)) (sym same);
    }
