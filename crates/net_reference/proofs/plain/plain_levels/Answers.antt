use Rattle.std.proofs.Common.{◌≡◌, ◌∙◌, ap, arith, ℕ, map}
use Rattle.board_model.specs.Walks.{below}
use Rattle.board_model.specs.Resolve.{level_of, resolve}
use Rattle.net_reference.proofs.plain.plain_levels.Goals as goal

pub returns : goal.returns
unfolding resolve
returns c =
    let w = c.args.wiring.now in
    let all : c.loop-n.n ≡ w.nets = omega arith in
    c.loop-n.invariant ∙ ap (λ (k : ℕ). map (level_of w.nets w.net_of w.contacts w.resistors c.args.closed.now c.args.drives.now) (below k)) all
