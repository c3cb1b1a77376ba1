use Rattle.std.proofs.Common.{◌≡◌, ◌∙◌, ℕ, arith}
use Rattle.net_union_find.specs.Forest.{root_of}
use Rattle.net_union_find.proofs.ForestLemmas.{join_after, join_after_back}
use Rattle.net_union_find.proofs.forest.join.Goals as goal

pub returns-then-first-second-clause-roots : goal.returns-then-first-second-clause-roots
returns-then-first-second-clause-roots c = λ x.
    let roots : (y : ℕ) → root_of c.root-second.new.parents y ≡ root_of c.args.parents.now y = λ y. c.root-second.ensures.roots y ∙ c.root-first.ensures.roots y in
    join_after c.args.parents.now c.root-second.new.parents c.root-second.ensures.forest roots c.root-second.result c.root-first.result c.args.a c.args.b x
    (omega (arith, c.root-second.ensures.first, c.requires.b, c.root-second.auto.parents, c.root-first.auto.parents)) (omega arith)
    c.root-first.ensures.root (c.root-second.ensures.root ∙ c.root-first.ensures.roots c.args.b)

pub returns-else-first-second-clause-roots : goal.returns-else-first-second-clause-roots
returns-else-first-second-clause-roots c = λ x.
    let roots : (y : ℕ) → root_of c.root-second.new.parents y ≡ root_of c.args.parents.now y = λ y. c.root-second.ensures.roots y ∙ c.root-first.ensures.roots y in
    join_after_back c.args.parents.now c.root-second.new.parents c.root-second.ensures.forest roots c.root-first.result c.root-second.result c.args.a c.args.b x
    (omega (arith, c.root-first.ensures.first, c.requires.a, c.root-second.auto.parents, c.root-first.auto.parents)) (omega arith)
    c.root-first.ensures.root (c.root-second.ensures.root ∙ c.root-first.ensures.roots c.args.b)
