use Rattle.net_resolve.proofs.Common.{◌≡◌, ◌<◌, ◌∙◌, List, Bool, length, arith, sym, ap, subst, Some, ℕ, slice_get, slice_set, slice_index, get_within, some_same}
use Rattle.std.specs.Prelude.{slice_index_or}
use Rattle.net_resolve.proofs.Common.{NetsView, MarksView, with_mark, AreRight, flagged, whole_of}
use Rattle.net_resolve.proofs.RightLemmas.{right_contact, set_same}
use Rattle.net_resolve.proofs.nets.Nets.set_contact.Goals.{After-as_slice, After-index-then-not-is_same_flag}
use Rattle.net_resolve.proofs.nets.Nets.set_contact.Goals as goal

-- the nets that the contact joins
pair : (c : After-as_slice) → (slice_get c.self.inside.wiring.contacts c.args.contact ≡ Some (slice_index_or c.as_slice.result.now c.args.contact (0, 0))) × ((slice_index_or c.as_slice.result.now c.args.contact (0, 0)).0 < c.self.inside.wiring.nets)
pair c =
    let i = c.self.inside in
    let k = c.args.contact in
    let inside : k < length i.wiring.contacts = omega (arith, c.requires, ap (λ (x : NetsView). length x.wiring.contacts) c.self.view_is) in
    let at = get_within i.wiring.contacts k (0, 0) inside ∙ ap (λ (cs : List (ℕ × ℕ)). Some (slice_index_or cs k (0, 0))) (sym c.as_slice.ensures) in
    (at, (c.self.invariant.cut.contacts_within k (slice_index_or c.as_slice.result.now k (0, 0)) at).0)

-- and the number of their subcircuit
label : (c : After-index-then-not-is_same_flag) → (slice_index_or c.as_slice.result.now c.args.contact (0, 0)).0 < c.self.inside.wiring.nets → c.index-then-not-is_same_flag.result.now ≡ slice_index c.self.inside.labels.items (slice_index_or c.as_slice.result.now c.args.contact (0, 0)).0
label c low =
    let i = c.self.inside in
    let n = (slice_index_or c.as_slice.result.now c.args.contact (0, 0)).0 in
    let within : n < length i.labels.items = omega (arith, low, c.self.invariant.cut.long) in
    some_same (sym (get_within i.labels.items n c.index-then-not-is_same_flag.result.now within ∙ ap Some (sym c.index-then-not-is_same_flag.ensures)) ∙ get_within i.labels.items n 0 within)

pub index-requires-then-not-is_same_flag : goal.index-requires-then-not-is_same_flag
index-requires-then-not-is_same_flag c = omega (arith, (pair (goal.at.index-requires-then-not-is_same_flag c).After-as_slice).1, c.self.invariant.cut.long, c.self.inside.labels.ok.0)

pub mark-requires : goal.mark-requires
mark-requires c =
    let v = c.self.invariant in
    let low = (pair (goal.at.mark-requires c).After-as_slice).1 in
    omega (arith, label (goal.at.mark-requires c).After-index-then-not-is_same_flag low, v.cut.below (slice_index_or c.as_slice.result.now c.args.contact (0, 0)).0, low, v.marks_room)

pub invariant_of-self : goal.invariant_of-self
invariant_of-self c =
    let i = c.self.inside in
    let v = c.self.invariant in
    let k = c.args.contact in
    let b = c.args.closed in
    let w = whole_of i.wiring in
    let (at, low) = pair (goal.at.invariant_of-self c).After-as_slice in
    let marked = ap (λ (m : MarksView). m.marked) c.mark.ensures ∙ ap (λ (q : ℕ). with_mark q i.marks.marked) (label (goal.at.invariant_of-self c).After-index-then-not-is_same_flag low) in
    record {
      cut = v.cut;
      subcircuits = v.subcircuits;
      right = subst (λ (ms : List ℕ). AreRight w i.labels.items ms (slice_set i.closed.items k b) i.drives.items i.shown.levels.items) (sym marked)
          (right_contact w i.labels.items v.cut i.subcircuits.items v.subcircuits_long v.subcircuits i.marks.marked i.closed.items i.drives.items i.shown.levels.items k (slice_index_or c.as_slice.result.now k (0, 0)) b
          (omega (arith, v.closed_long, i.closed.ok.0)) (omega (arith, v.drives_long, i.drives.ok.0)) at v.right);
      subcircuits_long = v.subcircuits_long;
      marks_room = ap (λ (m : MarksView). m.room) c.mark.ensures ∙ v.marks_room;
      levels_long = v.levels_long;
      drives_long = v.drives_long;
      closed_long = v.closed_long;
      shown = v.shown;
      watch = v.watch;
    }

pub returns-else-not-is_same_flag : goal.returns-else-not-is_same_flag
returns-else-not-is_same_flag c =
    let i = c.self.inside in
    let k = c.args.contact in
    let b = c.args.closed in
    let inside : k < length i.closed.items = omega (arith, c.requires, ap length (ap (λ (x : NetsView). x.wiring.contacts) c.self.view_is), c.self.invariant.closed_long, i.closed.ok.0) in
    let at = get_within i.closed.items k c.index.result.now inside ∙ ap Some (sym c.index.ensures ∙ c.is_same_flag.ensures c.if-not-is_same_flag.false) in
    sym c.self.view_is
    ∙ ap (λ (bs : List Bool). record { wiring = i.wiring; drives = i.drives.items; closed = bs; levels = i.shown.levels.items; changed = i.shown.changed.marked; watched = i.watch.watched.items; kept = flagged i.watch.watched.items i.watch.kept.items })
    (sym (set_same i.closed.items k b at))
    ∙ ap (λ (x : NetsView). record x { closed = slice_set x.closed k b }) c.self.view_is
