use Rattle.net_resolve.proofs.Common.{◌≡◌, ◌<◌, ◌∙◌, ℕ, List, ap, sym, arith, subst, false, eqb, IsDistinct, MarksView, has, with_mark}
use Rattle.std.specs.Prelude.{if◌then◌else◌, ◌++◌, ◌∷◌, []}
use Rattle.net_resolve.proofs.MarkLemmas.{room_left, low_more, distinct_push}
use Rattle.net_resolve.proofs.marks.Numbers.add.Goals as goal

pub put_last-requires : goal.put_last-requires
put_last-requires c =
    let i = c.self.inside in
    let inside : c.args.n < i.room = omega (arith, c.requires.low, ap (λ (m : MarksView). m.room) c.self.view_is) in
    let none : has i.list.items c.args.n ≡ false = ap (λ (m : MarksView). has m.marked c.args.n) c.self.view_is ∙ c.requires.fresh in
    omega (arith, room_left i.list.items i.room c.args.n inside none c.self.invariant.once c.self.invariant.low, c.self.invariant.capacity, i.list.ok.0)

pub invariant_of-self : goal.invariant_of-self
invariant_of-self c =
    let i = c.self.inside in
    let n = c.args.n in
    let inside : n < i.room = omega (arith, c.requires.low, ap (λ (m : MarksView). m.room) c.self.view_is) in
    let none : has i.list.items n ≡ false = ap (λ (m : MarksView). has m.marked n) c.self.view_is ∙ c.requires.fresh in
    let items = sym c.put_last.ensures.items in
    record {
      low = λ m h. low_more i.list.items n i.room inside c.self.invariant.low m (ap (λ (ns : List ℕ). has ns m) items ∙ h);
      once = subst (λ (ns : List ℕ). IsDistinct eqb ns) items (distinct_push i.list.items n none c.self.invariant.once);
      capacity = omega (arith, c.self.invariant.capacity, c.put_last.ensures.capacity);
    }

pub returns : goal.returns
returns c =
    let i = c.self.inside in
    let n = c.args.n in
    let none : has i.list.items n ≡ false = ap (λ (m : MarksView). has m.marked n) c.self.view_is ∙ c.requires.fresh in
    ap (λ (ns : List ℕ). record { room = i.room; marked = ns })
    (c.put_last.ensures.items ∙ sym (ap (λ b. if b then i.list.items else i.list.items ++ n ∷ []) none))
    ∙ ap (λ (m : MarksView). record m { marked = with_mark n m.marked }) c.self.view_is
