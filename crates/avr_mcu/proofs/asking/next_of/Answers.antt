use Rattle.std.proofs.Common.{ℕ, sym, subst}
use Rattle.avr_unit.specs.UnitMachine.{FirstDue}
use Rattle.avr_mcu.proofs.asking.next_of.Goals as goal

pub returns : goal.returns
returns g c = λ t here.
    let o = g.G.Group in
    let s = c.args.group.now in
    let l = c.args.levels.now in
    record {
      asked = here;
      due_is = c.due.ensures;
      first = subst (λ (d : ℕ). FirstDue o.machine (o.state s t) t d) (sym c.due.ensures) (g.met.G.Group.first s l t here);
      request_is = c.request.ensures t here;
      waits = λ u le soon. g.met.G.Group.waits s l t u here le soon;
    }
