use Rattle.net_resolve.proofs.Common.{sym, subst, List, Bool, AreGroups}
use Rattle.net_resolve.proofs.SumLemmas.{same_flags}
use Rattle.net_resolve.proofs.whole.regroup.Goals as goal

pub returns-else-ne-clause-kept : goal.returns-else-ne-clause-kept
returns-else-ne-clause-kept c = same_flags c.args.kept.now c.args.closed.now (sym c.if-ne.ensures)

pub returns-else-ne-clause-grouped : goal.returns-else-ne-clause-grouped
returns-else-ne-clause-grouped c =
    subst (λ (closed : List Bool). AreGroups c.args.contacts.now closed c.args.groups.now) (same_flags c.args.kept.now c.args.closed.now (sym c.if-ne.ensures)) c.requires.grouped
