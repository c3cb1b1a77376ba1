use Rattle.net_resolve.proofs.Common.{◌≡◌, ◌<◌, ◌∙◌, ℕ, List, ap, sym, arith, subst, length, false, true, Some, get_within, some_same, MarksView, has}
use Rattle.net_resolve.proofs.Common.{with_mark}
use Rattle.std.specs.Prelude.{slice_get, slice_set, if◌then◌else◌, ◌++◌, ◌∷◌, []}
use Rattle.net_resolve.proofs.MarkLemmas.{flagged_more}
use Rattle.net_resolve.proofs.marks.Marks.mark.Goals as goal

pub add-requires-clause-fresh : goal.add-requires-clause-fresh
add-requires-clause-fresh c =
    let i = c.self.inside in
    let v = c.self.invariant in
    let n = c.args.n in
    let inside : n < i.flags.len = omega (arith, c.requires, ap (λ (m : MarksView). m.room) c.self.view_is, v.room) in
    let within : n < length i.flags.items = omega (arith, inside, i.flags.ok.0) in
    some_same (sym (v.flagged n inside) ∙ get_within i.flags.items n c.index.result.now within ∙ ap Some (sym c.index.ensures ∙ c.if-not-index.true))

pub invariant_of-self : goal.invariant_of-self
invariant_of-self c =
    let i = c.self.inside in
    let v = c.self.invariant in
    let n = c.args.n in
    let ns = i.numbers.marked in
    let inside : n < i.flags.len = omega (arith, c.requires, ap (λ (m : MarksView). m.room) c.self.view_is, v.room) in
    let within : n < length i.flags.items = omega (arith, inside, i.flags.ok.0) in
    let none : has ns n ≡ false = some_same (sym (v.flagged n inside) ∙ get_within i.flags.items n c.index.result.now within ∙ ap Some (sym c.index.ensures ∙ c.if-not-index.true)) in
    let marked = sym (ap (λ (m : MarksView). m.marked) c.add.ensures ∙ ap (λ b. if b then ns else ns ++ n ∷ []) none) in
    record {
      room = v.room ∙ sym (ap (λ (m : MarksView). m.room) c.add.ensures);
      flagged = λ m l. subst (λ (ms : List ℕ). slice_get (slice_set i.flags.items n true) m ≡ Some (has ms m)) marked
          (flagged_more i.flags.items ns n within (λ k h. v.flagged k (omega (arith, h, i.flags.ok.0))) m (omega (arith, l, i.flags.ok.0)));
    }

pub returns-else-not-index : goal.returns-else-not-index
returns-else-not-index c =
    let i = c.self.inside in
    let v = c.self.invariant in
    let n = c.args.n in
    let ns = i.numbers.marked in
    let inside : n < i.flags.len = omega (arith, c.requires, ap (λ (m : MarksView). m.room) c.self.view_is, v.room) in
    let within : n < length i.flags.items = omega (arith, inside, i.flags.ok.0) in
    let there : has ns n ≡ true = some_same (sym (v.flagged n inside) ∙ get_within i.flags.items n c.index.result.now within ∙ ap Some (sym c.index.ensures ∙ c.if-not-index.false)) in
    sym c.self.view_is
    ∙ ap (λ (ms : List ℕ). record { room = i.numbers.room; marked = ms }) (sym (ap (λ b. if b then ns else ns ++ n ∷ []) there))
    ∙ ap (λ (m : MarksView). record m { marked = with_mark n m.marked }) c.self.view_is
