use Rattle.net_resolve.proofs.Common.{◌∙◌, List, Bool, ap, sym, subst, Drive, same_list, same_drive, NetsView, IsWatch, flagged}
use Rattle.net_resolve.proofs.FirstLemmas.{view_of}
use Rattle.net_resolve.proofs.nets.Nets.keep_watched.Goals as goal

pub keep-requires : goal.keep-requires
keep-requires c = subst (λ (ds : List Drive). IsWatch ds c.self.inside.watch) (sym c.deref.ensures.value) c.self.invariant.watch

pub invariant_of-self : goal.invariant_of-self
invariant_of-self c =
    let v = c.self.invariant in
    record {
      cut = v.cut;
      subcircuits = v.subcircuits;
      right = v.right;
      subcircuits_long = v.subcircuits_long;
      marks_room = v.marks_room;
      levels_long = v.levels_long;
      drives_long = v.drives_long;
      closed_long = v.closed_long;
      shown = v.shown;
      watch = subst (λ (ds : List Drive). IsWatch ds c.keep.new.self) c.deref.ensures.value c.keep.ensures.is;
    }

pub returns-clause-kept : goal.returns-clause-kept
returns-clause-kept c =
    let i = c.self.inside in
    ap (λ (fs : List Bool). view_of i i.drives.items fs (flagged fs c.keep.new.self.kept.items)) c.keep.ensures.watched
    ∙ ap (view_of i i.drives.items i.watch.watched.items) (c.keep.ensures.kept ∙ ap (flagged i.watch.watched.items) c.deref.ensures.value)
    ∙ ap (λ (x : NetsView). let y : NetsView = record x { kept = flagged x.watched x.drives } in y) c.self.view_is

pub returns-clause-same : goal.returns-clause-same
returns-clause-same c =
    let i = c.self.inside in
    c.keep.ensures.same
    ∙ ap (λ (ds : List Drive). same_list same_drive (flagged i.watch.watched.items i.watch.kept.items) (flagged i.watch.watched.items ds)) c.deref.ensures.value
    ∙ ap (λ (x : NetsView). same_list same_drive x.kept (flagged x.watched x.drives)) c.self.view_is
