-- A text that is written after another one.
use Rattle.std.proofs.Common.{◌++◌, ◌∙◌, ℕ, List, refl}
use Rattle.sim_base.specs.declared.bench.Port.{Port}
use Rattle.sim_base.specs.declared.bench.WriteEnd.{WriteEnd}
use Rattle.sim_base.specs.declared.bench.WriteEnd.TheVariants as writes
use Rattle.sim_base.specs.Outside.{Outside}
use Rattle.sim_outcome_model.specs.Work.{Wrote}
use Rattle.sim_outcome_model.proofs.WriteLemmas.{front_after, grows_more}

pub wrote_both : (r : WriteEnd) (p : Port) (a b c : Outside) (text more : List ℕ) → Wrote writes.Ok p text a b → Wrote r p more b c → Wrote r p (text ++ more) a c
wrote_both writes.Ok p a b c text more w v = (grows_more _ _ _ text more (text ++ more) w.0 v.0 refl, v.1 ∙ w.1)
wrote_both writes.Failed p a b c text more w v = (
  (
    text ++ v.0.0,
    front_after text v.0.0 more v.0.1,
    grows_more _ _ _ text v.0.0 (text ++ v.0.0) w.0 v.0.2 refl,
  ),
  rw (← w.1) v.1,
)
