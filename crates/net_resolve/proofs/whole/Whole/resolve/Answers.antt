use Rattle.net_resolve.proofs.Common.{◌≡◌, ◌∙◌, ℕ, List, length, arith, sym, ap, refl, subst, Some, slice_get, lent_whole, AreLabels, WholeView, levels_of}
use Rattle.net_resolve.proofs.WholeLemmas.{pairs_moved, groups_moved, resolve_moved}
use Rattle.net_resolve.proofs.whole.Whole.resolve.Goals as goal

pub regroup-requires : goal.regroup-requires
regroup-requires c =
    let i = c.self.inside in
    let v = c.self.invariant in
    let contacts = c.deref.ensures.value in
    record {
      contacts = pairs_moved (sym contacts) (i.groups.ok.0 ∙ ap length (sym c.deref_mut-2.ensures.value)) v.contacts_within;
      closed = c.requires.closed ∙ ap (λ (x : WholeView). length x.contacts) (sym c.self.view_is) ∙ ap length (sym contacts);
      kept = ap length c.deref_mut.ensures.value ∙ sym i.closed.ok.0 ∙ v.closed_long ∙ i.contacts.ok.0 ∙ ap length (sym contacts);
      few = omega (arith, v.few, i.groups.ok.0, ap length c.deref_mut-2.ensures.value);
      grouped = groups_moved (sym contacts) (sym c.deref_mut.ensures.value) (sym c.deref_mut-2.ensures.value) v.grouped;
    }

pub resolve-requires : goal.resolve-requires
resolve-requires c =
    let i = c.self.inside in
    let v = c.self.invariant in
    let long = c.regroup.auto.groups ∙ ap length c.deref_mut-2.ensures.value in
    let groups = c.deref-4.ensures.value ∙ lent_whole i.groups.len i.groups.items c.regroup.new.groups i.groups.ok.0 long in
    let count : i.groups.len ≡ length c.deref-4.result.now = i.groups.ok.0 ∙ sym (ap length groups ∙ long) in
    record {
      pins = c.requires.drives ∙ ap (λ (x : WholeView). length x.net_of) (sym c.self.view_is) ∙ ap length (sym c.deref-2.ensures.value);
      nets = λ k n e. omega (arith, count, v.pins_within k n (subst (λ (l : List ℕ). slice_get l k ≡ Some n) c.deref-2.ensures.value e));
      resistors = pairs_moved (sym c.deref-3.ensures.value) count v.resistors_within;
      labels = subst (λ (l : List ℕ). AreLabels l) (sym groups) c.regroup.ensures.grouped.classes.labels;
      room = record {
        strong = v.room.strong ∙ count;
        bridges = v.room.bridges ∙ i.resistors.ok.0 ∙ ap length (sym c.deref-3.ensures.value);
        areas = v.room.areas ∙ count;
        sums = v.room.sums ∙ count;
      };
      levels = c.requires.levels ∙ ap (λ (x : WholeView). x.nets) (sym c.self.view_is) ∙ count;
    }

pub invariant_of-self : goal.invariant_of-self
invariant_of-self c =
    let i = c.self.inside in
    let v = c.self.invariant in
    let r = c.regroup in
    let groups = lent_whole i.groups.len i.groups.items r.new.groups i.groups.ok.0 (r.auto.groups ∙ ap length c.deref_mut-2.ensures.value) in
    let closed = lent_whole i.closed.len i.closed.items r.new.kept i.closed.ok.0 (r.auto.kept ∙ ap length c.deref_mut.ensures.value) in
    let room = c.resolve.ensures.room in
    let count : length c.deref-4.result.now ≡ i.groups.len = ap length (c.deref-4.ensures.value ∙ groups) ∙ r.auto.groups ∙ ap length c.deref_mut-2.ensures.value ∙ sym i.groups.ok.0 in
    record {
      few = v.few;
      pins_within = v.pins_within;
      contacts_within = v.contacts_within;
      resistors_within = v.resistors_within;
      grouped = groups_moved c.deref.ensures.value (sym (closed ∙ r.ensures.kept)) (sym groups) r.ensures.grouped;
      closed_long = v.closed_long;
      room = record {
        strong = room.strong ∙ count;
        bridges = room.bridges ∙ ap length c.deref-3.ensures.value ∙ sym i.resistors.ok.0;
        areas = room.areas ∙ count;
        sums = room.sums ∙ count;
      };
    }

pub returns-clause-same : goal.returns-clause-same
returns-clause-same c = c.self.view_is

pub returns-clause-levels : goal.returns-clause-levels
returns-clause-levels c =
    let i = c.self.inside in
    let long = c.regroup.auto.groups ∙ ap length c.deref_mut-2.ensures.value in
    let groups = c.deref-4.ensures.value ∙ lent_whole i.groups.len i.groups.items c.regroup.new.groups i.groups.ok.0 long in
    let count : length c.deref-4.result.now ≡ i.groups.len = ap length groups ∙ long ∙ sym i.groups.ok.0 in
    c.resolve.ensures.levels c.deref.result.now c.args.closed.now (groups_moved refl refl (sym groups) c.regroup.ensures.grouped)
    ∙ resolve_moved c.args.closed.now c.args.drives.now count c.deref-2.ensures.value c.deref.ensures.value c.deref-3.ensures.value
    ∙ ap (λ (x : WholeView). levels_of x c.args.closed.now c.args.drives.now) c.self.view_is
