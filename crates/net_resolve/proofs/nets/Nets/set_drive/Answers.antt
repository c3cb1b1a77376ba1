use Rattle.net_resolve.proofs.Common.{◌≡◌, ◌<◌, ◌∙◌, List, length, arith, sym, ap, subst, Some, ℕ, slice_get, slice_set, slice_index, Drive, get_within, some_same}
use Rattle.net_resolve.proofs.Common.{drive_means, NetsView, MarksView, with_mark, AreRight, IsWatch, flagged, whole_of, Watch}
use Rattle.net_resolve.proofs.FirstLemmas.{view_of}
use Rattle.net_resolve.proofs.RightLemmas.{right_drive, set_same}
use Rattle.net_resolve.proofs.nets.Nets.set_drive.Goals.{After-as_slice, After-index-then-not-is_same_drive}
use Rattle.net_resolve.proofs.nets.Nets.set_drive.Goals as goal

pub note-requires : goal.note-requires
note-requires c =
    let i = c.self.inside in
    let v = c.self.invariant in
    record {
      pin = omega (arith, c.requires, ap (λ (x : NetsView). length x.wiring.net_of) c.self.view_is, ap length c.deref.ensures.value, v.drives_long, i.drives.ok.0);
      is = subst (λ (ds : List Drive). IsWatch ds i.watch) (sym c.deref.ensures.value) v.watch;
    }

-- the net of the pin
net : (c : After-as_slice) → (slice_get c.self.inside.wiring.net_of c.args.pin ≡ Some (slice_index c.as_slice.result.now c.args.pin)) × (slice_index c.as_slice.result.now c.args.pin < c.self.inside.wiring.nets)
net c =
    let i = c.self.inside in
    let inside : c.args.pin < length i.wiring.net_of = omega (arith, c.requires, ap (λ (x : NetsView). length x.wiring.net_of) c.self.view_is) in
    let at = get_within i.wiring.net_of c.args.pin 0 inside ∙ ap (λ (ns : List ℕ). Some (slice_index ns c.args.pin)) (sym c.as_slice.ensures) in
    (at, c.self.invariant.cut.pins_within c.args.pin (slice_index c.as_slice.result.now c.args.pin) at)

-- and the number of its subcircuit
label : (c : After-index-then-not-is_same_drive) → slice_index c.as_slice.result.now c.args.pin < c.self.inside.wiring.nets → c.index-then-not-is_same_drive.result.now ≡ slice_index c.self.inside.labels.items (slice_index c.as_slice.result.now c.args.pin)
label c low =
    let i = c.self.inside in
    let n = slice_index c.as_slice.result.now c.args.pin in
    let within : n < length i.labels.items = omega (arith, low, c.self.invariant.cut.long) in
    some_same (sym (get_within i.labels.items n c.index-then-not-is_same_drive.result.now within ∙ ap Some (sym c.index-then-not-is_same_drive.ensures)) ∙ get_within i.labels.items n 0 within)

pub index-requires-then-not-is_same_drive : goal.index-requires-then-not-is_same_drive
index-requires-then-not-is_same_drive c = omega (arith, (net (goal.at.index-requires-then-not-is_same_drive c).After-as_slice).1, c.self.invariant.cut.long, c.self.inside.labels.ok.0)

pub mark-requires : goal.mark-requires
mark-requires c =
    let v = c.self.invariant in
    let low = (net (goal.at.mark-requires c).After-as_slice).1 in
    omega (arith, label (goal.at.mark-requires c).After-index-then-not-is_same_drive low, v.cut.below (slice_index c.as_slice.result.now c.args.pin), low, v.marks_room)

pub invariant_of-self : goal.invariant_of-self
invariant_of-self c =
    let i = c.self.inside in
    let v = c.self.invariant in
    let pin = c.args.pin in
    let d = c.args.drive in
    let w = whole_of i.wiring in
    let (at, low) = net (goal.at.invariant_of-self c).After-as_slice in
    let marked = ap (λ (m : MarksView). m.marked) c.mark.ensures ∙ ap (λ (q : ℕ). with_mark q i.marks.marked) (label (goal.at.invariant_of-self c).After-index-then-not-is_same_drive low) in
    record {
      cut = v.cut;
      subcircuits = v.subcircuits;
      right = subst (λ (ms : List ℕ). AreRight w i.labels.items ms i.closed.items (slice_set i.drives.items pin d) i.shown.levels.items) (sym marked)
          (right_drive w i.labels.items v.cut i.subcircuits.items v.subcircuits_long v.subcircuits i.marks.marked i.closed.items i.drives.items i.shown.levels.items pin (slice_index c.as_slice.result.now pin) d
          (omega (arith, v.closed_long, i.closed.ok.0)) (omega (arith, v.drives_long, i.drives.ok.0)) at v.right);
      subcircuits_long = v.subcircuits_long;
      marks_room = ap (λ (m : MarksView). m.room) c.mark.ensures ∙ v.marks_room;
      levels_long = v.levels_long;
      drives_long = v.drives_long;
      closed_long = v.closed_long;
      shown = v.shown;
      watch = subst (λ (ds : List Drive). IsWatch (slice_set ds pin d) c.note.new.self) c.deref.ensures.value c.note.ensures.is;
    }

pub returns-then-not-is_same_drive : goal.returns-then-not-is_same_drive
returns-then-not-is_same_drive c =
    let i = c.self.inside in
    ap (λ (w : Watch). view_of i (slice_set i.drives.items c.args.pin c.args.drive) w.watched.items (flagged w.watched.items w.kept.items)) c.note.ensures.rest
    ∙ ap (λ (x : NetsView). let y : NetsView = record x { drives = slice_set x.drives c.args.pin c.args.drive } in y) c.self.view_is

pub returns-else-not-is_same_drive : goal.returns-else-not-is_same_drive
returns-else-not-is_same_drive c =
    let i = c.self.inside in
    let pin = c.args.pin in
    let d = c.args.drive in
    let inside : pin < length i.drives.items = omega (arith, c.requires, ap length (ap (λ (x : NetsView). x.wiring.net_of) c.self.view_is), c.self.invariant.drives_long, i.drives.ok.0) in
    let at = get_within i.drives.items pin c.index.result.now inside ∙ ap Some (sym c.index.ensures ∙ drive_means _ _ (sym c.is_same_drive.ensures ∙ c.if-not-is_same_drive.false)) in
    sym c.self.view_is
    ∙ ap (λ (ds : List Drive). view_of i ds i.watch.watched.items (flagged i.watch.watched.items i.watch.kept.items)) (sym (set_same i.drives.items pin d at))
    ∙ ap (λ (x : NetsView). record x { drives = slice_set x.drives pin d }) c.self.view_is
