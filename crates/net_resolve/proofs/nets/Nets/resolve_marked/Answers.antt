use Rattle.net_resolve.proofs.Common.{◌≡◌, ◌<◌, ◌∙◌, ℕ, List, [], length, map, Bool, true, arith, sym, ap, refl, subst, Some, slice_get, slice_set, Drive}
use Rattle.net_resolve.proofs.Common.{Level, get_within, NetsView, AreChanged, levels_by, MarksView, has, IsWatch, flagged, whole_of, AreShown}
use Rattle.net_resolve.proofs.Common.{SubcircuitView, IsCut, AreSubcircuits, AreRight, FitsIn, Inside}
use Rattle.std.specs.Vec.{with_item}
use Rattle.net_resolve.proofs.MarkLemmas.{has_first}
use Rattle.net_resolve.proofs.RightLemmas.{set_same, right_step, changed_step, fresh_step, subs_apart, right_all, fits_in}
use Rattle.net_resolve.proofs.nets.Nets.resolve_marked.Goals as goal

abbrev view_of : Inside → List Level → List ℕ → NetsView
view_of x levels changed = record {
  wiring = x.wiring;
  drives = x.drives.items;
  closed = x.closed.items;
  levels = levels;
  changed = changed;
  watched = x.watch.watched.items;
  kept = flagged x.watch.watched.items x.watch.kept.items;
}

pub loop-q-init : goal.loop-q-init
loop-q-init c =
    let v = c.self.invariant in
    let none = ap (λ (m : MarksView). m.marked) c.clear.ensures in
    record {
      same = refl;
      subcircuits = refl;
      levels_long = v.levels_long;
      marks_room = v.marks_room;
      right = v.right;
      begun = record {
        changed = record {
          differ = λ n h.
              let on : has [] n ≡ true = ap (λ (ms : List ℕ). has ms n) (sym none) ∙ h in
              absurd cc;
          others = λ n h. refl;
        };
        waits = λ n h. refl;
      };
      fresh = λ q j n s on at e. ap (λ (ms : List ℕ). has ms n) none;
      shown = record {
        room = record { few = v.shown.room.few; room = ap (λ (m : MarksView). m.room) c.clear.ensures ∙ v.shown.room.room };
        within = v.shown.within;
        pins = v.shown.pins;
      };
    }

pub resolve-requires : goal.resolve-requires
resolve-requires c =
    let i = c.self.inside in
    let v = c.self.invariant in
    let now = c.loop-q.self-inside in
    let inv = c.loop-q.invariant in
    let q = c.in-Some.q in
    let s = c.index_mut.result.now in
    let inside : q < length now.subcircuits.items = omega (arith, c.in-Some.ensures.low, inv.marks_room, ap length inv.subcircuits, v.subcircuits_long) in
    let first = subst (λ (x : List SubcircuitView). slice_get x q ≡ Some s) inv.subcircuits (get_within now.subcircuits.items q s inside ∙ ap Some (sym c.index_mut.ensures.value)) in
    let net_of = c.as_slice.ensures ∙ ap (λ (x : Inside). x.wiring.net_of) inv.same in
    let drives = ap length (c.deref.ensures.value ∙ ap (λ (x : Inside). x.drives.items) inv.same) ∙ sym i.drives.ok.0 ∙ v.drives_long in
    let closed = ap length (c.deref-in-Some.ensures.value ∙ ap (λ (x : Inside). x.closed.items) inv.same) ∙ sym i.closed.ok.0 ∙ v.closed_long in
    let levels = sym now.shown.levels.ok.0 ∙ inv.levels_long in
    record {
      fits = subst (λ (ns : List ℕ). FitsIn ns (length c.deref.result.now) (length c.deref-in-Some.result.now) (length now.shown.levels.items) s) (sym net_of)
          (fits_in (whole_of i.wiring) i.labels.items v.cut q s (v.subcircuits q s first) (length c.deref.result.now) (length c.deref-in-Some.result.now) (length now.shown.levels.items) drives closed levels);
      fresh = λ j n e. inv.fresh q j n s (sym (c.in-Some.ensures.taken.rest q) ∙ has_first c.take.new.self.marked q q refl) first e;
      shown = subst (λ (ns : List ℕ). AreShown ns now.shown) (sym net_of) inv.shown;
    }

pub loop-q-preserved : goal.loop-q-preserved
loop-q-preserved c =
    let i = c.self.inside in
    let v = c.self.invariant in
    let w = whole_of i.wiring in
    let labels = i.labels.items in
    let now = c.loop-q.self-inside in
    let inv = c.loop-q.invariant in
    let q = c.in-Some.q in
    let t = c.in-Some.ensures.taken in
    let rest = c.take.new.self.marked in
    let s = c.index_mut.result.now in
    let r = c.resolve in
    let inside : q < length now.subcircuits.items = omega (arith, c.in-Some.ensures.low, inv.marks_room, ap length inv.subcircuits, v.subcircuits_long) in
    let at = get_within now.subcircuits.items q s inside ∙ ap Some (sym c.index_mut.ensures.value) in
    let first = subst (λ (x : List SubcircuitView). slice_get x q ≡ Some s) inv.subcircuits at in
    let is = v.subcircuits q s first in
    let drives = c.deref.ensures.value ∙ ap (λ (x : Inside). x.drives.items) inv.same in
    let closed = c.deref-in-Some.ensures.value ∙ ap (λ (x : Inside). x.closed.items) inv.same in
    let levels = sym now.shown.levels.ok.0 ∙ inv.levels_long in
    record {
      same = ap (λ (x : Inside). let y : Inside = record x { subcircuits = with_item now.subcircuits q r.new.self; marks = c.take.new.self; shown = r.new.shown } in y) inv.same;
      subcircuits = ap (slice_set now.subcircuits.items q) r.ensures.same ∙ set_same now.subcircuits.items q s at ∙ inv.subcircuits;
      levels_long = r.new.shown.levels.ok.0 ∙ r.ensures.moves.long ∙ levels;
      marks_room = c.in-Some.ensures.room ∙ inv.marks_room;
      right = right_step w labels v.cut q s is rest i.closed.items i.drives.items now.shown.levels.items r.new.shown.levels.items
          (sym i.closed.ok.0 ∙ v.closed_long) (sym i.drives.ok.0 ∙ v.drives_long)
          (λ cs ds ec ed. r.ensures.put cs ds (ec ∙ ap (λ (x : List Bool). map (slice_get x) s.contacts) (sym closed)) (ed ∙ ap (λ (x : List Drive). map (slice_get x) s.pins) (sym drives)))
          r.ensures.others (λ n less off. inv.right n less (sym (t.rest _) ∙ off));
      begun = changed_step w labels v.cut q s is rest now.shown.changed r.new.shown.changed i.shown.levels.items now.shown.levels.items r.new.shown.levels.items (sym i.shown.levels.ok.0 ∙ v.levels_long) levels t.gone
          r.ensures.others r.ensures.moves (record { changed = inv.begun.changed; waits = λ n on. inv.begun.waits n (sym (t.rest _) ∙ on) });
      fresh = fresh_step i.subcircuits.items q s rest now.shown.changed r.new.shown.changed now.shown.levels.items r.new.shown.levels.items (subs_apart w labels i.subcircuits.items v.subcircuits) first t.gone
          r.ensures.others r.ensures.moves (λ p j n o on. inv.fresh p j n o (sym (t.rest p) ∙ on));
      shown = subst (λ (ns : List ℕ). AreShown ns r.new.shown) (c.as_slice.ensures ∙ ap (λ (x : Inside). x.wiring.net_of) inv.same) r.ensures.shown;
    }

pub invariant_of-self : goal.invariant_of-self
invariant_of-self c =
    let i = c.self.inside in
    let v = c.self.invariant in
    let now = c.loop-q.self-inside in
    let inv = c.loop-q.invariant in
    let back = sym inv.same in
    let none = c.in_default.ensures.taken in
    record {
      cut = subst (λ (x : Inside). IsCut (whole_of x.wiring) x.labels.items) back v.cut;
      subcircuits = subst (λ (x : Inside). AreSubcircuits (whole_of x.wiring) x.labels.items now.subcircuits.items) back
          (subst (λ (ss : List SubcircuitView). AreSubcircuits (whole_of i.wiring) i.labels.items ss) (sym inv.subcircuits) v.subcircuits);
      right = subst (λ (x : Inside). AreRight (whole_of x.wiring) x.labels.items c.take.new.self.marked x.closed.items x.drives.items now.shown.levels.items) back
          (subst (λ (ms : List ℕ). AreRight (whole_of i.wiring) i.labels.items ms i.closed.items i.drives.items now.shown.levels.items) (none.0 ∙ sym none.1) inv.right);
      subcircuits_long = ap length inv.subcircuits ∙ subst (λ (x : Inside). length i.subcircuits.items ≡ x.wiring.nets) back v.subcircuits_long;
      marks_room = c.in_default.ensures.room ∙ subst (λ (x : Inside). now.marks.room ≡ x.wiring.nets) back inv.marks_room;
      levels_long = subst (λ (x : Inside). now.shown.levels.len ≡ x.wiring.nets) back inv.levels_long;
      drives_long = subst (λ (x : Inside). x.drives.len ≡ length x.wiring.net_of) back v.drives_long;
      closed_long = subst (λ (x : Inside). x.closed.len ≡ length x.wiring.contacts) back v.closed_long;
      shown = subst (λ (x : Inside). AreShown x.wiring.net_of now.shown) back inv.shown;
      watch = subst (λ (x : Inside). IsWatch x.drives.items x.watch) back v.watch;
    }

pub returns-clause-levels : goal.returns-clause-levels
returns-clause-levels c =
    let i = c.self.inside in
    let now = c.loop-q.self-inside in
    let inv = c.loop-q.invariant in
    let levels = now.shown.levels.items in
    let changed = now.shown.changed.marked in
    let w = whole_of i.wiring in
    let found = subst (λ (ms : List ℕ). AreRight w i.labels.items ms i.closed.items i.drives.items levels) c.in_default.ensures.taken.0 inv.right in
    let are = right_all w i.labels.items c.self.invariant.cut i.closed.items i.drives.items levels (sym now.shown.levels.ok.0 ∙ inv.levels_long) found in
    ap (λ (x : Inside). view_of x levels changed) inv.same
    ∙ ap (λ (ls : List Level). view_of i ls changed) are
    ∙ ap (λ (x : NetsView). let y : NetsView = record x { levels = levels_by x.wiring x.closed x.drives; changed = changed } in y) c.self.view_is

pub returns-clause-changed : goal.returns-clause-changed
returns-clause-changed c =
    let now = c.loop-q.self-inside in
    subst (λ (ls : List Level). AreChanged ls now.shown.levels.items now.shown.changed.marked) (ap (λ (x : NetsView). x.levels) c.self.view_is) c.loop-q.invariant.begun.changed
