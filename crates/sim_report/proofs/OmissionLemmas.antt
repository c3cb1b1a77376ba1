-- Texts that are written one after the other.
use Rattle.std.proofs.Common.{◌≡◌, ◌∙◌, ◌++◌, ℕ, List, refl, subst}
use Rattle.sim_base.specs.declared.bench.Port.{Port}
use Rattle.sim_base.specs.declared.bench.WriteEnd.{WriteEnd}
use Rattle.sim_base.specs.declared.bench.WriteEnd.TheVariants as writes
use Rattle.sim_base.specs.Outside.{Outside}
use Rattle.sim_outcome_model.specs.Work.{Wrote}
use Rattle.sim_outcome_model.proofs.WriteLemmas.{grows_more, front_after}

-- what was written of a text is what was written of an equal one
pub wrote_same : (end : WriteEnd) (p : Port) (t u : List ℕ) (a b : Outside) → t ≡ u → Wrote end p t a b → Wrote end p u a b
wrote_same end p t u a b e w = subst (λ (l : List ℕ). Wrote end p l a b) e w

-- two texts were written one after the other
pub wrote_both : (end : WriteEnd) (p : Port) (t u : List ℕ) (a m b : Outside) → Wrote writes.Ok p t a m → Wrote end p u m b → Wrote end p (t ++ u) a b
wrote_both writes.Ok p t u a m b x y = (grows_more _ _ _ t u (t ++ u) x.0 y.0 refl, y.1 ∙ x.1)
wrote_both writes.Failed p t u a m b x y = ((t ++ y.0.0, front_after t y.0.0 u y.0.1, grows_more _ _ _ t y.0.0 (t ++ y.0.0) x.0 y.0.2 refl), rw (← x.1) y.1)
