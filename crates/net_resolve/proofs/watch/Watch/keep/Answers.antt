use Rattle.net_resolve.proofs.Common.{◌≡◌, ◌∙◌, ℕ, sym, ap, arith, true, false, ◌==◌, drives_mean, flagged}
use Rattle.net_resolve.proofs.WatchLemmas.{same_where}
use Rattle.net_resolve.proofs.watch.Watch.keep.Goals as goal

pub returns-then-self-eq0-clause-same : goal.returns-then-self-eq0-clause-same
returns-then-self-eq0-clause-same c =
    let w = c.args.self.now in
    let none : (w.differing == 0) ≡ true = grind (arith, c.if-self-eq0.true) in
    sym none ∙ ap (λ (n : ℕ). n == 0) c.requires.counted ∙ same_where w.watched.items w.kept.items c.args.drives.now c.requires.kept_long

pub returns-then-self-eq0-clause-kept : goal.returns-then-self-eq0-clause-kept
returns-then-self-eq0-clause-kept c =
    let w = c.args.self.now in
    drives_mean (flagged w.watched.items w.kept.items) (flagged w.watched.items c.args.drives.now) (sym (returns-then-self-eq0-clause-same c))

pub returns-clause-same : goal.returns-clause-same
returns-clause-same c =
    let w = c.args.self.now in
    let some : (w.differing == 0) ≡ false = grind (arith, c.if-self-eq0.false) in
    sym some ∙ ap (λ (n : ℕ). n == 0) c.requires.counted ∙ same_where w.watched.items w.kept.items c.args.drives.now c.requires.kept_long
