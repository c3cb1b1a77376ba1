-- Levels that stay right while drives and contacts change, and subcircuits are resolved.
use Rattle.net_resolve.proofs.Common.{◌≡◌, ℕ, zero, suc, ◌<◌, List, [], ◌∷◌, length, map, Bool, true, false, refl, ap, sym, ◌∙◌, arith, inl, inr, subst, Some}
use Rattle.net_resolve.proofs.Common.{get_or, length-set, ◌⊎◌, eqb_tells, length-map, slice_get_within, slice_get, slice_index, slice_set, Drive, Level, below}
use Rattle.net_resolve.proofs.Common.{some_same, some_map, get_within, get_set_other, get-below, length-below, same_lists, WholeView, levels_of, AreChanged}
use Rattle.net_resolve.proofs.Common.{MarksView, has, with_mark, Moves, Lacks, SubcircuitView, IsCut, IsSubcircuit, AreSubcircuits, AreRight, FitsIn, AreApart}
use Rattle.net_resolve.proofs.Common.{own_whole, labels_of, level_now, map-map}
use Rattle.sim_base.specs.declared.signal.Drive.TheVariants as drives
use Rattle.board_model.specs.Resolve.{level_of, resolve}
use Rattle.net_resolve.proofs.SubcircuitLemmas.{nets_once, net_label, net_labelled, net_there, others_lack, own_level}
use Rattle.net_resolve.proofs.PinLemmas.{all_pins}
use Rattle.net_resolve.proofs.MarkLemmas.{has_first, has_rest, still_fresh, with_has, with_less}
use Rattle.net_resolve.proofs.ReachLemmas.{map_here}
use Rattle.net_resolve.proofs.CutLemmas.{picked_within, places_within}

-- a list with an item put where it stands
pub set_same : {A : Type 0} (xs : List A) (i : ℕ) (x : A) → slice_get xs i ≡ Some x → slice_set xs i x ≡ xs
set_same [] i x e = refl
set_same {A = A} (y ∷ xs) zero x e = ap (λ (z : A). z ∷ xs) (sym (some_same e))
set_same {A = A} (y ∷ xs) (suc i) x e = ap (λ (l : List A). y ∷ l) (set_same xs i x e)

-- where an item is set whose key is marked, those whose keys are not are as they were
set_marked : {A : Type 0} (keys marked : List ℕ) (xs : List A) (i : ℕ) (x : A) (key : ℕ) → slice_get keys i ≡ Some key →
    (k q : ℕ) → slice_get keys k ≡ Some q → has (with_mark key marked) q ≡ false → slice_get xs k ≡ slice_get (slice_set xs i x) k
set_marked keys marked xs i x key at k q f e = elim (eqb_tells k i) [
  | inl t ↦
      let same : key ≡ q = some_same (sym at ∙ ap (slice_get keys) (sym t.1) ∙ f) in
      let on : has (with_mark key marked) q ≡ true = ap (has (with_mark key marked)) (sym same) ∙ with_has marked key in
      absurd cc
  | inr o ↦ sym (get_set_other xs i k x o.1)
]

-- while subcircuits are resolved: what changed, and that the nets of those that are left wait
pub record Begun (labels rest : List ℕ) (first now : List Level) (moved : List ℕ) : Type 0 where
  pub changed : AreChanged first now moved
  pub waits : (n : ℕ) → has rest (slice_index labels n) ≡ true → slice_get now n ≡ slice_get first n

-- of the subcircuits that are left no net is listed
abbrev pub AreFresh : List SubcircuitView → List ℕ → List ℕ → Type 0
AreFresh subs rest moved = (q j n : ℕ) (s : SubcircuitView) → has rest q ≡ true → slice_get subs q ≡ Some s → slice_get s.nets j ≡ Some n → has moved n ≡ false

pub fresh_step : (subs : List SubcircuitView) (q : ℕ) (s : SubcircuitView) (rest : List ℕ) (before after : MarksView) (old new : List Level) → AreApart subs → slice_get subs q ≡ Some s → has rest q ≡ false →
    ((n : ℕ) → Lacks s.nets n → slice_get new n ≡ slice_get old n) → Moves old new before after → AreFresh subs (q ∷ rest) before.marked → AreFresh subs rest after.marked
fresh_step subs q s rest before after old new apart at once others moves fresh p j n t left there e =
    still_fresh old new before after n moves (fresh p j n t (has_rest rest q p left) there e) (others n (λ k f.
    let same : q ≡ p = apart q p k j n s t at there f e in
    let on : has rest q ≡ true = ap (has rest) same ∙ left in
    absurd cc))

pub subs_apart : (w : WholeView) (labels : List ℕ) (subs : List SubcircuitView) → AreSubcircuits w labels subs → AreApart subs
subs_apart w labels subs are p q j k n s t at there e f =
    sym (net_label labels p s.nets (are p s at).nets_are j n e) ∙ net_label labels q t.nets (are q t there).nets_are k n f

item_there : {A : Type 0} (xs : List A) (i : ℕ) → i < length xs → (x : A) × (slice_get xs i ≡ Some x)
item_there [] i h = absurd (omega arith)
item_there (x ∷ xs) zero h = (x, refl)
item_there (x ∷ xs) (suc i) h = item_there xs i (omega arith)

module _ (w : WholeView) (labels : List ℕ) (cut : IsCut w labels) where
  -- the items at the places of pins and of contacts
  module _ (q : ℕ) (s : SubcircuitView) (is : IsSubcircuit w labels q s) where
    abbrev own_drives : List Drive → List Drive
    own_drives ds = map (λ k. get_or ds k drives.Z) s.pins

    abbrev own_closed : List Bool → List Bool
    own_closed cs = map (λ k. get_or cs k false) s.contacts

    own_drives_are : (ds : List Drive) → length ds ≡ length w.net_of → map Some (own_drives ds) ≡ map (slice_get ds) s.pins
    own_drives_are ds long = map-map (λ (x : Drive). Some x) (λ (k : ℕ). get_or ds k drives.Z) s.pins
        ∙ map_here (λ (k : ℕ). Some (get_or ds k drives.Z)) (slice_get ds) s.pins (λ j k e.
        sym (get_within ds k drives.Z (omega (arith, long, places_within (slice_index labels) w.net_of q s.pins is.pins_are j k e))))

    own_closed_are : (cs : List Bool) → length cs ≡ length w.contacts → map Some (own_closed cs) ≡ map (slice_get cs) s.contacts
    own_closed_are cs long = map-map (λ (x : Bool). Some x) (λ (k : ℕ). get_or cs k false) s.contacts
        ∙ map_here (λ (k : ℕ). Some (get_or cs k false)) (slice_get cs) s.contacts (λ j k e.
        sym (get_within cs k false (omega (arith, long, places_within (λ (x : ℕ × ℕ). slice_index labels x.0) w.contacts q s.contacts is.contacts_are j k e))))

    -- what the pins and contacts of other subcircuits do does not matter
    same_level : (cs cs2 : List Bool) (ds ds2 : List Drive) → length cs ≡ length w.contacts → length ds ≡ length w.net_of → length ds2 ≡ length w.net_of →
        ((k : ℕ) → slice_get (map (slice_index labels) w.net_of) k ≡ Some q → slice_get ds k ≡ slice_get ds2 k) →
        ((k : ℕ) → slice_get (labels_of labels w.contacts) k ≡ Some q → slice_get cs k ≡ slice_get cs2 k) →
        (n : ℕ) → n < w.nets → slice_index labels n ≡ q → level_now w cs ds n ≡ level_now w cs2 ds2 n
    same_level cs cs2 ds ds2 lc ld ld2 same_ds same_cs n l e =
        let t = net_there labels q s.nets is.nets_are n (omega (arith, cut.long)) e in
        let d = own_drives_are ds ld in
        let c = own_closed_are cs lc in
        let d2 = d ∙ map_here (slice_get ds) (slice_get ds2) s.pins (λ j k f. same_ds k (picked_within q (map (slice_index labels) w.net_of) j k (subst (λ (x : List ℕ). slice_get x j ≡ Some k) is.pins_are f))) in
        let c2 = c ∙ map_here (slice_get cs) (slice_get cs2) s.contacts (λ j k f. same_cs k (picked_within q (labels_of labels w.contacts) j k (subst (λ (x : List ℕ). slice_get x j ≡ Some k) is.contacts_are f))) in
        some_same (
        sym (own_level w labels cut q s is cs ds (own_closed cs) (own_drives ds) ld c d t.0 n t.1)
        ∙ own_level w labels cut q s is cs2 ds2 (own_closed cs) (own_drives ds) ld2 c2 d2 t.0 n t.1)

    -- it can be resolved
    pub fits_in : (drives_long closed_long levels_long : ℕ) → drives_long ≡ length w.net_of → closed_long ≡ length w.contacts → levels_long ≡ w.nets → FitsIn w.net_of drives_long closed_long levels_long s
    fits_in dl cl ll ed ec el = record {
      each = sym ed;
      pins = places_within (slice_index labels) w.net_of q s.pins is.pins_are;
      contacts = λ j k e. omega (arith, ec, places_within (λ (x : ℕ × ℕ). slice_index labels x.0) w.contacts q s.contacts is.contacts_are j k e);
      nets = record {
        within = λ j k e. omega (arith, el, cut.long, slice_get_within labels k q (net_labelled labels q s.nets is.nets_are j k e));
        once = nets_once labels q s.nets is.nets_are;
      };
      whole = all_pins w labels q s is;
    }

    -- its nets are right once it is resolved, and the others as they were
    pub right_step : (rest : List ℕ) (cs : List Bool) (ds : List Drive) (old new : List Level) → length cs ≡ length w.contacts → length ds ≡ length w.net_of →
        ((own_cs : List Bool) (own_ds : List Drive) → map Some own_cs ≡ map (slice_get cs) s.contacts → map Some own_ds ≡ map (slice_get ds) s.pins →
        (j n : ℕ) → slice_get s.nets j ≡ Some n → slice_get new n ≡ slice_get (levels_of (own_whole s) own_cs own_ds) j) →
        ((n : ℕ) → Lacks s.nets n → slice_get new n ≡ slice_get old n) → AreRight w labels (q ∷ rest) cs ds old → AreRight w labels rest cs ds new
    right_step rest cs ds old new lc ld put others right n l e = elim (eqb_tells (slice_index labels n) q) [
      | inl t ↦
          let at = net_there labels q s.nets is.nets_are n (omega (arith, cut.long)) t.1 in
          let c = own_closed_are cs lc in
          let d = own_drives_are ds ld in
          put (own_closed cs) (own_drives ds) c d at.0 n at.1 ∙ own_level w labels cut q s is cs ds (own_closed cs) (own_drives ds) ld c d at.0 n at.1
      | inr f ↦
          others n (others_lack labels q s.nets is.nets_are n f.1)
          ∙ right n l (rw f.0 e)
    ]

    -- the nets whose levels changed since the first, where those of this subcircuit had not
    pub changed_step : (rest : List ℕ) (before after : MarksView) (first old new : List Level) → length first ≡ w.nets → length old ≡ w.nets → has rest q ≡ false →
        ((n : ℕ) → Lacks s.nets n → slice_get new n ≡ slice_get old n) → Moves old new before after → Begun labels (q ∷ rest) first old before.marked → Begun labels rest first new after.marked
    changed_step rest before after first old new lf lo apart others moves begun = record {
      changed = record {
        differ = λ n h. elim (moves.differ n h) [
          | inl earlier ↦ elim (mine n) [
            | inl here ↦ absurd (begun.changed.differ n earlier (begun.waits n (has_first rest q (slice_index labels n) here)))
            | inr away ↦ λ same. begun.changed.differ n earlier (sym away ∙ same)
          ]
          | inr moved ↦ elim (mine n) [
            | inl here ↦ λ same. moved (same ∙ sym (begun.waits n (has_first rest q (slice_index labels n) here)))
            | inr away ↦ absurd (moved away)
          ]
        ];
        others = λ n h.
            let late = moves.others n h in
            late.1 ∙ begun.changed.others n late.0;
      };
      waits = λ n h. elim (mine n) [
        | inl here ↦
            let off : has rest (slice_index labels n) ≡ false = ap (has rest) here ∙ apart in
            absurd cc
        | inr away ↦ away ∙ begun.waits n (elim (eqb_tells (slice_index labels n) q) [ inl t ↦ rw t.0 refl | inr f ↦ rw f.0 h ])
      ];
    }
      where
        mine : (n : ℕ) → (slice_index labels n ≡ q) ⊎ (slice_get new n ≡ slice_get old n)
        mine n = elim (eqb_tells (slice_index labels n) q) [
          | inl t ↦ inl t.1
          | inr f ↦ inr (others n (others_lack labels q s.nets is.nets_are n f.1))
        ]

  -- levels stay right where no drive and no contact of their subcircuit changed
  pub right_kept : (subs : List SubcircuitView) → length subs ≡ w.nets → AreSubcircuits w labels subs → (marked more : List ℕ) (cs cs2 : List Bool) (ds ds2 : List Drive) (levels : List Level) →
      length cs ≡ length w.contacts → length ds ≡ length w.net_of → length ds2 ≡ length w.net_of →
      ((q : ℕ) → has more q ≡ false → has marked q ≡ false) →
      ((k q : ℕ) → slice_get (map (slice_index labels) w.net_of) k ≡ Some q → has more q ≡ false → slice_get ds k ≡ slice_get ds2 k) →
      ((k q : ℕ) → slice_get (labels_of labels w.contacts) k ≡ Some q → has more q ≡ false → slice_get cs k ≡ slice_get cs2 k) →
      AreRight w labels marked cs ds levels → AreRight w labels more cs2 ds2 levels
  right_kept subs long are marked more cs cs2 ds ds2 levels lc ld ld2 less same_ds same_cs right n l e =
      let q = slice_index labels n in
      let s = item_there subs q (omega (arith, cut.below n, long)) in
      right n l (less q e)
      ∙ ap Some (same_level q s.0 (are q s.0 s.1) cs cs2 ds ds2 lc ld ld2 (λ k f. same_ds k q f e) (λ k f. same_cs k q f e) n l refl)

  -- a pin drives something else
  pub right_drive : (subs : List SubcircuitView) → length subs ≡ w.nets → AreSubcircuits w labels subs → (marked : List ℕ) (cs : List Bool) (ds : List Drive) (levels : List Level) (pin net : ℕ) (d : Drive) →
      length cs ≡ length w.contacts → length ds ≡ length w.net_of → slice_get w.net_of pin ≡ Some net →
      AreRight w labels marked cs ds levels → AreRight w labels (with_mark (slice_index labels net) marked) cs (slice_set ds pin d) levels
  right_drive subs long are marked cs ds levels pin net d lc ld at =
      let key = slice_index labels net in
      right_kept subs long are marked (with_mark key marked) cs cs ds (slice_set ds pin d) levels lc ld (length-set ds pin d ∙ ld) (with_less marked key)
      (set_marked (map (slice_index labels) w.net_of) marked ds pin d key (some_map (slice_index labels) w.net_of pin net at)) (λ k q f e. refl)

  -- a contact is closed or opened
  pub right_contact : (subs : List SubcircuitView) → length subs ≡ w.nets → AreSubcircuits w labels subs → (marked : List ℕ) (cs : List Bool) (ds : List Drive) (levels : List Level) (contact : ℕ) (pair : ℕ × ℕ) (b : Bool) →
      length cs ≡ length w.contacts → length ds ≡ length w.net_of → slice_get w.contacts contact ≡ Some pair →
      AreRight w labels marked cs ds levels → AreRight w labels (with_mark (slice_index labels pair.0) marked) (slice_set cs contact b) ds levels
  right_contact subs long are marked cs ds levels contact pair b lc ld at =
      let key = slice_index labels pair.0 in
      right_kept subs long are marked (with_mark key marked) cs (slice_set cs contact b) ds ds levels lc ld ld (with_less marked key) (λ k q f e. refl)
      (set_marked (labels_of labels w.contacts) marked cs contact b key (some_map (λ (p : ℕ × ℕ). slice_index labels p.0) w.contacts contact pair at))

  -- where nothing is marked the levels are those of the definition
  pub right_all : (cs : List Bool) (ds : List Drive) (levels : List Level) → length levels ≡ w.nets →
      AreRight w labels [] cs ds levels → levels ≡ resolve w.nets w.net_of w.contacts w.resistors cs ds
  unfolding resolve
  right_all cs ds levels long right =
      same_lists levels (map (level_of w.nets w.net_of w.contacts w.resistors cs ds) (below w.nets)) (simp length-map (omega (arith, long, length-below w.nets))) (λ k x y ex ey.
      let l : k < w.nets = omega (arith, long, slice_get_within levels k x ex) in
      let at = some_map (level_of w.nets w.net_of w.contacts w.resistors cs ds) (below w.nets) k k (get-below w.nets k l) in
      some_same (sym ex ∙ right k l refl ∙ sym at ∙ ey))

-- where everything is marked nothing is said
pub right_none : (w : WholeView) (labels : List ℕ) → IsCut w labels → (marked : List ℕ) (cs : List Bool) (ds : List Drive) (levels : List Level) → ((q : ℕ) → q < w.nets → has marked q ≡ true) → AreRight w labels marked cs ds levels
right_none w labels cut marked cs ds levels all n l f =
    let on = all (slice_index labels n) (omega (arith, cut.below n)) in
    absurd cc
