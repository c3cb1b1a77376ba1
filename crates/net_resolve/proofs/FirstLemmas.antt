-- Nets as they are made: nothing was resolved yet.
use Rattle.net_resolve.proofs.Common.{◌≡◌, ℕ, ◌<◌, ◌≤◌, List, [], length, map, replicate, Bool, true, false, refl, ap, sym, ◌∙◌, subst, arith}
use Rattle.net_resolve.proofs.Common.{length-replicate, Drive, Level, level_at, NetsView, has, AreShown, IsWatch, flagged, differing, Watch, Inside}
use Rattle.net_resolve.proofs.Common.{SubcircuitView, IsCut, AreSubcircuits, AreRight, whole_of}
use Rattle.sim_base.specs.declared.signal.Drive.TheVariants as drives
use Rattle.sim_base.specs.declared.signal.Level.TheVariants as levels
use Rattle.sim_base.specs.declared.wiring.Wiring.{Wiring}
use Rattle.net_resolve.specs.declared.shown.Shown.{Shown}
use Rattle.net_resolve.proofs.PinLemmas.{pins_z}
use Rattle.net_resolve.proofs.RightLemmas.{right_none}
use Rattle.net_resolve.proofs.WatchLemmas.{none_flagged, none_differs}

abbrev nets_with : Wiring → List Drive → List Bool → List Level → List ℕ → List Bool → List Drive → NetsView
nets_with w ds cl ls ch ws ks = record { wiring = w; drives = ds; closed = cl; levels = ls; changed = ch; watched = ws; kept = ks }

-- what callers see
pub first_nets : (w : Wiring) (ds : List Drive) (cl : List Bool) (ls : List Level) (changed : List ℕ) (ws : List Bool) (ks : List Drive) →
    ds ≡ replicate (length w.net_of) drives.Z → cl ≡ replicate (length w.contacts) false → ls ≡ replicate w.nets levels.Z → changed ≡ [] → ws ≡ replicate (length w.net_of) false →
    nets_with w ds cl ls changed ws (flagged ws ks)
    ≡ nets_with w (replicate (length w.net_of) drives.Z) (replicate (length w.contacts) false) (replicate w.nets levels.Z) [] (replicate (length w.net_of) false) []
first_nets w ds cl ls changed ws ks ed ef el eh ew = rw (ed, ef, el, eh, ew, none_flagged (length w.net_of) ks) refl

first_watch : (n : ℕ) (ds : List Drive) (w : Watch) → ds ≡ replicate n drives.Z → w.watched.items ≡ replicate n false → w.kept.items ≡ replicate n drives.Z → w.differing ≡ 0 → IsWatch ds w
first_watch n ds w ed ew ek none = record {
  flags_long = ap length ew ∙ length-replicate n false ∙ sym (ap length ed ∙ length-replicate n drives.Z);
  kept_long = ap length (ek ∙ sym ed);
  counted = none ∙ sym (ap (λ (ks : List Drive). differing w.watched.items ks ds) (ek ∙ sym ed) ∙ none_differs w.watched.items ds);
}

-- what holds of them: all are marked
pub first_invariant : (w : Wiring) (n : ℕ) (shown : Shown) → n ≡ length shown.levels.items → shown.levels.items ≡ replicate w.nets levels.Z →
    (labels : List ℕ) → IsCut (whole_of w) labels → (subs : List SubcircuitView) → length subs ≡ w.nets → AreSubcircuits (whole_of w) labels subs →
    (room : ℕ) (marked : List ℕ) → room ≡ w.nets → room ≤ 65535 → ((q : ℕ) → q < w.nets → has marked q ≡ true) →
    shown.changed.room ≡ w.nets → shown.pin_levels.items ≡ replicate (length w.net_of) levels.Z →
    (driven : ℕ) (ds : List Drive) → driven ≡ length ds → ds ≡ replicate (length w.net_of) drives.Z →
    (flags : ℕ) (cl : List Bool) → flags ≡ length cl → cl ≡ replicate (length w.contacts) false →
    (watch : Watch) → watch.watched.items ≡ replicate (length w.net_of) false → watch.kept.items ≡ replicate (length w.net_of) drives.Z → watch.differing ≡ 0 → record {
      cut : IsCut (whole_of w) labels;
      subcircuits : AreSubcircuits (whole_of w) labels subs;
      right : AreRight (whole_of w) labels marked cl ds shown.levels.items;
      subcircuits_long : length subs ≡ w.nets;
      marks_room : room ≡ w.nets;
      levels_long : n ≡ w.nets;
      drives_long : driven ≡ length w.net_of;
      closed_long : flags ≡ length w.contacts;
      shown : AreShown w.net_of shown;
      watch : IsWatch ds watch;
    }
first_invariant w n shown en els labels cut subs subs_long are room marked room_is few all changed_is epl driven ds ed eds flags cl ef ecl watch ew ek none =
    let long = ap length els ∙ length-replicate w.nets levels.Z in
    record {
      cut = cut;
      subcircuits = are;
      right = right_none (whole_of w) labels cut marked cl ds shown.levels.items all;
      subcircuits_long = subs_long;
      marks_room = room_is;
      levels_long = en ∙ long;
      drives_long = ed ∙ ap length eds ∙ length-replicate (length w.net_of) drives.Z;
      closed_long = ef ∙ ap length ecl ∙ length-replicate (length w.contacts) false;
      shown = record {
        room = record { few = omega (arith, few, room_is, long); room = changed_is ∙ sym long };
        within = λ k m e. omega (arith, cut.pins_within k m e, long);
        pins = epl ∙ pins_z w.nets w.net_of ∙ ap (λ (x : List Level). map (level_at x) w.net_of) (sym els);
      };
      watch = first_watch (length w.net_of) ds watch eds ew ek none;
    }

-- what callers see of what Nets has inside, with these drives, flags and kept drives
abbrev pub view_of : Inside → List Drive → List Bool → List Drive → NetsView
view_of x ds ws ks = nets_with x.wiring ds x.closed.items x.shown.levels.items x.shown.changed.marked ws ks
