use Rattle.net_resolve.proofs.Common.{◌≡◌, ◌∙◌, ap, sym, subst, false, true, List, ℕ, eqb, IsDistinct, has}
use Rattle.net_resolve.proofs.MarkLemmas.{distinct_none}
use Rattle.net_resolve.proofs.marks.Numbers.new.Goals as goal

pub invariant_of-result : goal.invariant_of-result
invariant_of-result c =
    record {
      low = λ n h. let off : false ≡ true = ap (λ (ns : List ℕ). has ns n) (sym c.in_ok-with_capacity.ensures.items) ∙ h in absurd cc;
      once = subst (λ (ns : List ℕ). IsDistinct eqb ns) (sym c.in_ok-with_capacity.ensures.items) distinct_none;
      capacity = c.in_ok-with_capacity.ensures.capacity;
    }
