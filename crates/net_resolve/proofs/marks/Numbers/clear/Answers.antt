use Rattle.net_resolve.proofs.Common.{◌≡◌, ◌∙◌, ap, sym, arith, subst, false, true, List, ℕ, eqb, IsDistinct, has}
use Rattle.net_resolve.proofs.MarkLemmas.{distinct_none}
use Rattle.net_resolve.proofs.marks.Numbers.clear.Goals as goal

pub invariant_of-self : goal.invariant_of-self
invariant_of-self c =
    record {
      low = λ n h. let off : false ≡ true = ap (λ (ns : List ℕ). has ns n) (sym c.clear.ensures.items) ∙ h in absurd cc;
      once = subst (λ (ns : List ℕ). IsDistinct eqb ns) (sym c.clear.ensures.items) distinct_none;
      capacity = omega (arith, c.self.invariant.capacity, c.clear.ensures.capacity);
    }
