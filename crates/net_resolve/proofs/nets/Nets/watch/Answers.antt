use Rattle.net_resolve.proofs.Common.{◌∙◌, List, Bool, ap, sym, subst, length, arith, Drive, NetsView, IsWatch, flagged}
use Rattle.net_resolve.proofs.FirstLemmas.{view_of}
use Rattle.net_resolve.proofs.nets.Nets.watch.Goals as goal

pub keep_all-requires : goal.keep_all-requires
keep_all-requires c =
    let v = c.self.invariant in
    let ds = ap length c.deref.ensures.value in
    record {
      flags = omega (arith, c.requires, ap (λ (x : NetsView). length x.wiring.net_of) c.self.view_is, ds, v.drives_long, c.self.inside.drives.ok.0);
      long = v.watch.kept_long ∙ sym ds;
    }

pub invariant_of-self : goal.invariant_of-self
invariant_of-self c =
    let v = c.self.invariant in
    record {
      cut = v.cut;
      subcircuits = v.subcircuits;
      right = v.right;
      subcircuits_long = v.subcircuits_long;
      marks_room = v.marks_room;
      levels_long = v.levels_long;
      drives_long = v.drives_long;
      closed_long = v.closed_long;
      shown = v.shown;
      watch = subst (λ (ds : List Drive). IsWatch ds c.keep_all.new.self) c.deref.ensures.value c.keep_all.ensures.is;
    }

pub returns : goal.returns
returns c =
    let i = c.self.inside in
    let pins = c.args.pins.items in
    ap (λ (fs : List Bool). view_of i i.drives.items fs (flagged fs c.keep_all.new.self.kept.items)) c.keep_all.ensures.watched
    ∙ ap (λ (ks : List Drive). view_of i i.drives.items pins (flagged pins ks)) (c.keep_all.ensures.kept ∙ c.deref.ensures.value)
    ∙ ap (λ (x : NetsView). let y : NetsView = record x { watched = pins; kept = flagged pins x.drives } in y) c.self.view_is
