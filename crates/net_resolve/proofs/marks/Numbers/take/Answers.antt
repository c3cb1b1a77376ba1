use Rattle.net_resolve.proofs.Common.{[], ◌≡◌, arith, subst, MarksView, Taken}
use Rattle.std.specs.Prelude.{MatchOption, IfSome, ◌<◌}
use Rattle.net_resolve.proofs.MarkLemmas.{popped, popped_had, popped_once, popped_low}
use Rattle.net_resolve.proofs.marks.Numbers.take.Goals as goal

pub invariant_of-self : goal.invariant_of-self
invariant_of-self c =
    let v = c.self.invariant in
    let p = c.pop in
    let new = p.new.self in
    record {
      low = λ m h. v.low m (popped_had c.self.inside.list.items new.items p.result p.ensures.items m h);
      once = popped_once c.self.inside.list.items new.items p.result c.self.inside.list.len new.len p.ensures.items p.ensures.cases new.ok.0 v.once;
      capacity = omega (arith, v.capacity, p.ensures.capacity);
    }

pub returns-clause-taken : goal.returns-clause-taken
returns-clause-taken c =
    let i = c.self.inside.list in
    let p = c.pop in
    let new = p.new.self in
    subst (λ (m : MarksView). MatchOption p.result ((m.marked ≡ []) × (new.items ≡ [])) (λ n. Taken n m.marked new.items)) c.self.view_is
    (popped i.items new.items p.result i.len new.len p.ensures.items p.ensures.cases i.ok.0 new.ok.0 c.self.invariant.once)

pub returns-clause-low : goal.returns-clause-low
returns-clause-low c =
    subst (λ (m : MarksView). IfSome c.pop.result (λ n. n < m.room)) c.self.view_is
    (popped_low c.self.inside.list.items c.pop.new.self.items c.pop.result c.self.inside.room c.pop.ensures.items c.self.invariant.low)
