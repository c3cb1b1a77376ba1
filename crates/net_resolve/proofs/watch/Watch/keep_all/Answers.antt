use Rattle.net_resolve.proofs.Common.{◌∙◌, List, sym, ap, length, Drive, differing}
use Rattle.net_resolve.proofs.WatchLemmas.{none_differs}
use Rattle.net_resolve.proofs.watch.Watch.keep_all.Goals as goal

pub returns-clause-is : goal.returns-clause-is
returns-clause-is c =
    let flags = c.args.self.now.watched.items in
    record {
      flags_long = c.requires.flags;
      kept_long = ap length c.copy_from_slice.ensures.items;
      counted = sym (ap (λ (ks : List Drive). differing flags ks c.args.drives.now) c.copy_from_slice.ensures.items ∙ none_differs flags c.args.drives.now);
    }
