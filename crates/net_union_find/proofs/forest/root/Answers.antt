use Rattle.std.proofs.Common.{◌≡◌, ◌<◌, ◌∙◌, length, get_or, sym, arith}
use Rattle.net_union_find.specs.Forest.{root_of}
use Rattle.net_union_find.proofs.ForestLemmas.{root_up, own_root, moved_forest, moved_roots}
use Rattle.net_union_find.proofs.forest.root.Goals as goal

pub loop-parents-preserved : goal.loop-parents-preserved
loop-parents-preserved c =
    let p = c.loop-parents.parents in
    let at = c.loop-parents.at in
    let forest = c.loop-parents.invariant.forest in
    let above = get_or p at 0 in
    let up = get_or p above 0 in
    let within : at < length p = omega (arith, c.loop-parents.invariant.lower, c.requires.place, c.loop-parents.auto.parents) in
    let lower : up < at = omega (arith, c.loop-parents-test.true, forest at, forest above) in
    let same : root_of p up ≡ root_of p at = root_up p forest above ∙ root_up p forest at in
    record {
      forest = moved_forest p forest at up within lower same;
      roots = λ x. moved_roots p forest at up within lower same x ∙ c.loop-parents.invariant.roots x;
      lower = omega (arith, lower, c.loop-parents.invariant.lower);
      same = sym (c.loop-parents.invariant.roots up) ∙ same ∙ c.loop-parents.invariant.roots at ∙ c.loop-parents.invariant.same;
    }

pub returns-clause-root : goal.returns-clause-root
returns-clause-root c =
    sym (own_root c.loop-parents.parents c.loop-parents.invariant.forest c.loop-parents.at c.loop-parents-test.false) ∙ c.loop-parents.invariant.roots c.loop-parents.at ∙ c.loop-parents.invariant.same
