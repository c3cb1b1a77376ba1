use Rattle.net_resolve.proofs.Common.{◌∙◌, ap, arith, length, lent_whole}
use Rattle.net_resolve.proofs.ResolutionLemmas.{levels_same}
use Rattle.net_resolve.proofs.subcircuit.first_resolution.Goals as goal

pub resolve-requires-clause-levels : goal.resolve-requires-clause-levels
resolve-requires-clause-levels c = omega (arith, ap length c.deref_mut.ensures.value, c.in_ok-levels.levels.ok.0, c.in_ok-levels.ensures.len, c.requires.nets)

pub returns-clause-found : goal.returns-clause-found
returns-clause-found c =
    let levels = c.in_ok-levels.levels in
    record {
      drives_long = c.in_ok-drives.ensures.len ∙ c.requires.pins;
      closed_long = c.in_ok-closed.ensures.len ∙ c.requires.contacts;
      levels_long = c.in_ok-levels.ensures.len ∙ c.requires.nets;
      levels_are = lent_whole levels.len levels.items c.resolve.new.levels levels.ok.0 (c.resolve.auto.levels ∙ ap length c.deref_mut.ensures.value)
          ∙ c.resolve.ensures.levels ∙ levels_same c.args.whole.now c.deref-2.ensures.value c.deref.ensures.value;
    }
