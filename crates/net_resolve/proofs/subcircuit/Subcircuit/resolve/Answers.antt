use Rattle.net_resolve.proofs.Common.{◌≡◌, ◌∙◌, ℕ, sym, ap, subst, arith, length, map, List, Some, refl, slice_get, Level, WholeView, whole_with, levels_of}
use Rattle.net_resolve.proofs.Common.{AreResolutions, last_of, Resolution, length-map, Lacks, AreNumbers, SubcircuitView, level_at, lent_whole}
use Rattle.net_resolve.proofs.ResolutionLemmas.{last_is, levels_same}
use Rattle.net_resolve.proofs.PlaceLemmas.{same_somes}
use Rattle.net_resolve.proofs.PinLemmas.{pins_follow}
use Rattle.net_resolve.proofs.subcircuit.Subcircuit.resolve.Goals as goal

pub resolve_other-requires-clause-places : goal.resolve_other-requires-clause-places
resolve_other-requires-clause-places c =
    let v = c.self.invariant in
    let pins = c.deref.ensures.value ∙ ap (λ (v : SubcircuitView). v.pins) c.self.view_is in
    let contacts = c.deref-2.ensures.value ∙ ap (λ (v : SubcircuitView). v.contacts) c.self.view_is in
    record {
      pins_within = λ j k e. omega (arith, c.requires.fits.each, c.requires.fits.pins j k (subst (λ (l : List ℕ). slice_get l j ≡ Some k) pins e));
      contacts_within = λ j k e. c.requires.fits.contacts j k (subst (λ (l : List ℕ). slice_get l j ≡ Some k) contacts e);
      pins_long = omega (arith, c.deref.ensures.len, v.pins_long);
      contacts_long = omega (arith, c.deref-2.ensures.len, v.contacts_long);
    }

pub put_levels-requires : goal.put_levels-requires
put_levels-requires c =
    let nets = c.deref-4.ensures.value ∙ ap (λ (v : SubcircuitView). v.nets) c.self.view_is in
    let found = last_is c.self.inside.whole c.resolve_other.new.kept c.resolve_other.ensures.kept in
    record {
      nets = subst (λ (l : List ℕ). AreNumbers (length c.args.shown.now.levels.items) l) (sym nets) c.requires.fits.nets;
      each = omega (arith, c.deref-3.ensures.len, ap (λ (a : Resolution). a.levels.len) c.last.ensures, found.levels_long, c.self.invariant.nets_long, c.deref-4.ensures.len);
      room = c.requires.shown.room;
      fresh = λ j n e. c.requires.fresh j n (subst (λ (l : List ℕ). slice_get l j ≡ Some n) nets e);
    }

pub invariant_of-self : goal.invariant_of-self
invariant_of-self c =
    let same = c.resolve_other.ensures.same in
    record {
      nets_long = c.self.invariant.nets_long ∙ sym (ap (λ (x : WholeView). x.nets) same);
      pins_long = c.self.invariant.pins_long ∙ sym (ap (λ (x : WholeView). length x.net_of) same);
      contacts_long = c.self.invariant.contacts_long ∙ sym (ap (λ (x : WholeView). length x.contacts) same);
      kept = subst (λ (x : WholeView). AreResolutions x c.resolve_other.new.kept) (sym same) c.resolve_other.ensures.kept;
    }

pub returns-clause-others : goal.returns-clause-others
returns-clause-others c = λ n lacks.
    c.put_levels.ensures.others n (λ j e. lacks j (subst (λ (l : List ℕ). slice_get l j ≡ Some n) (c.deref-4.ensures.value ∙ ap (λ (v : SubcircuitView). v.nets) c.self.view_is) e))

pub returns-clause-put : goal.returns-clause-put
returns-clause-put c = λ cs ds ec ed j n e.
    let v = c.self.view_is in
    let w = c.self.inside.whole in
    let found = last_of c.resolve_other.new.kept in
    let nets = c.deref-4.ensures.value ∙ ap (λ (v : SubcircuitView). v.nets) v in
    let pins = c.deref.ensures.value ∙ ap (λ (v : SubcircuitView). v.pins) v in
    let contacts = c.deref-2.ensures.value ∙ ap (λ (v : SubcircuitView). v.contacts) v in
    let put = c.put_levels.ensures.put j n (subst (λ (l : List ℕ). slice_get l j ≡ Some n) (sym nets) e) in
    let at_pins = ed ∙ ap (λ (l : List ℕ). map (slice_get c.args.drives.now) l) (sym pins) in
    let at_contacts = ec ∙ ap (λ (l : List ℕ). map (slice_get c.args.closed.now) l) (sym contacts) in
    let same_cs : found.closed.items ≡ cs = same_somes found.closed.items cs (c.resolve_other.ensures.by.closed_are ∙ sym at_contacts) in
    let same_ds : found.drives.items ≡ ds = same_somes found.drives.items ds (c.resolve_other.ensures.by.drives_are ∙ sym at_pins) in
    let levels = c.deref-3.ensures.value ∙ ap (λ (a : Resolution). a.levels.items) c.last.ensures ∙ (last_is w c.resolve_other.new.kept c.resolve_other.ensures.kept).levels_are ∙ levels_same w same_cs same_ds in
    let count : w.nets ≡ length c.args.self.now.nets = omega (arith, c.self.invariant.nets_long, c.deref-4.ensures.len, ap length nets) in
    put ∙ ap (λ (l : List Level). slice_get l j) levels
    ∙ ap (λ (x : ℕ). slice_get (levels_of (whole_with x w.net_of w.contacts w.resistors) cs ds) j) count
    ∙ ap (λ (v : SubcircuitView). slice_get (levels_of (whole_with (length c.args.self.now.nets) v.own_nets v.own_contacts v.own_resistors) cs ds) j) v

pub put_pins-requires : goal.put_pins-requires
put_pins-requires c =
    let pins = c.deref-5.ensures.value ∙ ap (λ (v : SubcircuitView). v.pins) c.self.view_is in
    record {
      pins = λ j k e. c.requires.fits.pins j k (subst (λ (l : List ℕ). slice_get l j ≡ Some k) pins e);
      nets = λ k n e. omega (arith, c.requires.shown.within k n e, c.put_levels.ensures.moves.long, ap length c.deref-6.ensures.value);
      each = ap length (c.deref_mut.ensures.value ∙ c.put_levels.ensures.pins ∙ c.requires.shown.pins) ∙ simp length-map refl;
    }

pub returns-clause-shown : goal.returns-clause-shown
returns-clause-shown c =
    let nets = c.deref-4.ensures.value ∙ ap (λ (v : SubcircuitView). v.nets) c.self.view_is in
    let pins = c.deref-5.ensures.value ∙ ap (λ (v : SubcircuitView). v.pins) c.self.view_is in
    let net_of = c.args.net_of.now in
    let put = c.put_levels.ensures in
    let room = c.requires.shown.room in
    let levels = c.deref-6.ensures.value in
    let old = c.put_levels.new.self.pin_levels in
    record {
      room = record { few = omega (arith, room.few, put.moves.long); room = put.moves.room ∙ room.room ∙ sym put.moves.long };
      within = λ k n e. omega (arith, c.requires.shown.within k n e, put.moves.long);
      pins = lent_whole old.len old.items c.put_pins.new.pin_levels old.ok.0 (c.put_pins.auto.pin_levels ∙ ap length c.deref_mut.ensures.value) ∙ pins_follow net_of c.deref-5.result.now c.deref-4.result.now c.args.shown.now.levels.items c.deref-6.result.now c.deref_mut.result.now c.put_pins.new.pin_levels
          c.put_pins.ensures.long (c.deref_mut.ensures.value ∙ put.pins ∙ c.requires.shown.pins) c.put_pins.ensures.put c.put_pins.ensures.others
          (λ k n e lacks. subst (λ (l : List ℕ). Lacks l n) (sym nets) (c.requires.fits.whole k n e (subst (λ (l : List ℕ). Lacks l k) pins lacks)))
          (λ n lacks. ap (λ (l : List Level). slice_get l n) levels ∙ put.others n lacks)
          ∙ ap (λ (l : List Level). map (level_at l) net_of) levels;
    }
