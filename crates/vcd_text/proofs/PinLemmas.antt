-- Pins that are shown, and what is kept of their drives.
use Rattle.std.proofs.Common.{◌≡◌, ◌⊎◌, ℕ, List, [], ◌∷◌, ◌==◌, length, refl, ap, sym, ◌∙◌, subst, arith, inl, inr, Option, None, Some, Bool, true, ◌||◌, ◌&&◌}
use Rattle.std.specs.Prelude.{replicate, slice_get, slice_index, unwrap_or}
use Rattle.std.specs.Option.{option_map_or}
use Rattle.std.proofs.lemmas.Bool.Decides.{eqb_tells}
use Rattle.std.proofs.lemmas.List.{get_or-replicate, length-map}
use Rattle.std.proofs.lemmas.Option.{slice_get_within}
use Rattle.std.proofs.lemmas.Bool.{or_cases, and_parts}
use Rattle.sim_base.specs.declared.signal.Drive.{Drive}
use Rattle.sim_base.specs.declared.signal.Drive.TheVariants as drives
use Rattle.sim_base.specs.declared.signal.Level.{Level}
use Rattle.text_model.specs.Wave.{Source, Net, Strong, Weak, Variable, char_z, strong_value, weak_value, shown_value}
use Rattle.vcd_text.specs.declared.follow.Scope.{Scope}
use Rattle.vcd_text.specs.declared.follow.Scope.TheVariants as scope
use Rattle.wave_lines.specs.Same.{same_drive}
use Rattle.vcd_text.specs.Chains.{sources, values_at, IsNet, PinsRest, OthersRest, RestBut}
use Rattle.vcd_text.specs.Pins.{drive_at, has_pin, is_among, AreAmong, drive_as_kept, with_drives, kept_after, AreKept}
use Rattle.vcd_text.proofs.ChainLemmas.{value_at}
use Rattle.wave_lines.proofs.SameLemmas.{same_means, same_refl}

eqb_is : (a b : ℕ) → (a == b) ≡ true → a ≡ b
eqb_is a b e = elim (eqb_tells a b) [
  | inl same ↦ same.1
  | inr far ↦ absurd (let f = far.0 in cc)
]

set_kept : (ds : List Drive) (pins : List (ℕ × Drive)) → drive_as_kept ds (with_drives ds pins) ≡ true
set_kept ds [] = refl
set_kept ds (k ∷ ks) = ap (λ (b : Bool). b && drive_as_kept ds (with_drives ds ks)) (same_refl (drive_at ds k.0)) ∙ set_kept ds ks

has_set : (ds : List Drive) (pins : List (ℕ × Drive)) (p : ℕ) → has_pin (with_drives ds pins) p ≡ has_pin pins p
has_set ds [] p = refl
has_set ds (k ∷ ks) p = ap (λ (b : Bool). (k.0 == p) || b) (has_set ds ks p)

among_set : (ds : List Drive) (pins : List (ℕ × Drive)) (s : Source) → is_among (with_drives ds pins) s ≡ is_among pins s
among_set ds pins (Net n) = refl
among_set ds pins (Strong p) = has_set ds pins p
among_set ds pins (Weak p) = has_set ds pins p

-- where two lists of drives are as kept, a pin that is kept drives the same in both
pin_drives : (pins : List (ℕ × Drive)) (ds es : List Drive) (p : ℕ) → drive_as_kept ds pins ≡ true → drive_as_kept es pins ≡ true → has_pin pins p ≡ true → drive_at ds p ≡ drive_at es p
pin_drives [] ds es p a b h = absurd cc
pin_drives (k ∷ ks) ds es p a b h =
    let da = and_parts (same_drive (drive_at ds k.0) k.1) (drive_as_kept ds ks) a in
    let ea = and_parts (same_drive (drive_at es k.0) k.1) (drive_as_kept es ks) b in
    elim (or_cases (k.0 == p) (has_pin ks p) h) [
      | inl e ↦ subst (λ (q : ℕ). drive_at ds q ≡ drive_at es q) (eqb_is k.0 p e) (same_means (drive_at ds k.0) k.1 da.0 ∙ sym (same_means (drive_at es k.0) k.1 ea.0))
      | inr e ↦ pin_drives ks ds es p da.1 ea.1 e
    ]

pub strong_shown : (o : Option Drive) → option_map_or strong_value o char_z ≡ strong_value (unwrap_or o drives.Z)
strong_shown None = refl
strong_shown (Some d) = refl

pub weak_shown : (o : Option Drive) → option_map_or weak_value o char_z ≡ weak_value (unwrap_or o drives.Z)
weak_shown None = refl
weak_shown (Some d) = refl

-- ---- the values of variables that show pins

shown_so : (pins : List (ℕ × Drive)) (before after : List Level) (ds es : List Drive) (s : Source) → drive_as_kept ds pins ≡ true → drive_as_kept es pins ≡ true → is_among pins s ≡ true
    → IsNet s ⊎ (shown_value before ds s ≡ shown_value after es s)
shown_so pins before after ds es (Net n) a b h = inl (n, refl)
shown_so pins before after ds es (Strong p) a b h = inr (strong_shown (slice_get ds p) ∙ ap strong_value (pin_drives pins ds es p a b h) ∙ sym (strong_shown (slice_get es p)))
shown_so pins before after ds es (Weak p) a b h = inr (weak_shown (slice_get ds p) ∙ ap weak_value (pin_drives pins ds es p a b h) ∙ sym (weak_shown (slice_get es p)))

-- where the pins drive what is kept, the variables that show one have the values that they had
pub pins_rest : (pins : List (ℕ × Drive)) (vs : List Variable) (values : List ℕ) (levels : List Level) (ds : List Drive) → AreAmong pins (sources vs) → AreKept pins vs values → drive_as_kept ds pins ≡ true → PinsRest vs values levels ds
pins_rest pins vs values levels ds among kept on k s at = elim (kept.values_are k s at) [
  | inl net ↦ inl net
  | inr same ↦ elim (shown_so pins [] levels kept.drives ds s kept.kept on (among k s at)) [
    | inl net ↦ inl net
    | inr e ↦ inr (same ∙ value_at vs [] kept.drives k s at ∙ e ∙ sym (value_at vs levels ds k s at))
  ]
]

-- before any row
pub kept_first : (pins : List (ℕ × Drive)) (vs : List Variable) (n : ℕ) → n ≡ length vs → drive_as_kept [] pins ≡ true → AreKept pins vs (replicate n char_z)
kept_first pins vs n long kept = record {
  drives = [];
  kept = kept;
  values_are = λ k s at. elim (unknown s) [
    | inl net ↦ inl net
    | inr e ↦
        let w = slice_get_within (sources vs) k s at in
        inr (get_or-replicate n k char_z 0 (omega (arith, w, long, length-map vs (λ (v : Variable). v.shows))) ∙ e ∙ sym (value_at vs [] [] k s at))
  ];
}
  where
    unknown : (s : Source) → IsNet s ⊎ (char_z ≡ shown_value [] [] s)
    unknown (Net n) = inl (n, refl)
    unknown (Strong p) = inr refl
    unknown (Weak p) = inr refl

kept_set : (pins : List (ℕ × Drive)) (vs : List Variable) (levels : List Level) (ds : List Drive) → AreKept (with_drives ds pins) vs (values_at levels ds vs)
kept_set pins vs levels ds = record {
  drives = ds;
  kept = set_kept ds pins;
  values_are = λ k s at. elim (of_drives s) [
    | inl net ↦ inl net
    | inr e ↦ inr (value_at vs levels ds k s at ∙ e ∙ sym (value_at vs [] ds k s at))
  ];
}
  where
    of_drives : (s : Source) → IsNet s ⊎ (shown_value levels ds s ≡ shown_value [] ds s)
    of_drives (Net n) = inl (n, refl)
    of_drives (Strong p) = inr refl
    of_drives (Weak p) = inr refl

kept_still : (pins : List (ℕ × Drive)) (vs : List Variable) (values : List ℕ) (levels : List Level) (ds : List Drive) (one two : ℕ) → OthersRest (one, two) vs values levels ds → AreKept pins vs values → AreKept pins vs (values_at levels ds vs)
kept_still pins vs values levels ds one two rest kept = record {
  drives = kept.drives;
  kept = kept.kept;
  values_are = λ k s at. elim (still k s at) [
    | inl net ↦ inl net
    | inr e ↦ elim (kept.values_are k s at) [
      | inl net ↦ inl net
      | inr was ↦ inr (sym e ∙ was)
    ]
  ];
}
  where
    still : (k : ℕ) (s : Source) → slice_get (sources vs) k ≡ Some s → IsNet s ⊎ (slice_index values k ≡ slice_index (values_at levels ds vs) k)
    still k (Net n) at = inl (n, refl)
    still k (Strong p) at = let w = slice_get_within (sources vs) k (Strong p) at in inr (rest k (omega (arith, w, length-map vs (λ (v : Variable). v.shows))) (λ e. cc) (λ e. cc))
    still k (Weak p) at = let w = slice_get_within (sources vs) k (Weak p) at in inr (rest k (omega (arith, w, length-map vs (λ (v : Variable). v.shows))) (λ e. cc) (λ e. cc))

-- behind a row
pub kept_next : (on : Scope) (pins : List (ℕ × Drive)) (vs : List Variable) (values : List ℕ) (levels : List Level) (ds : List Drive) → RestBut on vs values levels ds → AreKept pins vs values → AreKept (kept_after on ds pins) vs (values_at levels ds vs)
kept_next scope.All pins vs values levels ds rest kept = kept_set pins vs levels ds
kept_next (scope.NetsAndPins one two) pins vs values levels ds rest kept = kept_set pins vs levels ds
kept_next (scope.Nets one two) pins vs values levels ds rest kept = kept_still pins vs values levels ds one two rest kept

pub among_next : (on : Scope) (pins : List (ℕ × Drive)) (ds : List Drive) (shows : List Source) → AreAmong pins shows → AreAmong (kept_after on ds pins) shows
among_next scope.All pins ds shows among k s at = among_set ds pins s ∙ among k s at
among_next (scope.NetsAndPins one two) pins ds shows among k s at = among_set ds pins s ∙ among k s at
among_next (scope.Nets one two) pins ds shows among k s at = among k s at
