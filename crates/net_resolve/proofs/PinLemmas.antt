-- The levels of pins follow those of their nets.
use Rattle.net_resolve.proofs.Common.{◌≡◌, ◌≢◌, ℕ, zero, suc, ◌+◌, List, [], ◌∷◌, length, map, replicate, refl, ap, sym, ◌∙◌, arith, inl, inr, Some, ◌⊎◌}
use Rattle.net_resolve.proofs.Common.{eqb_tells, length-map, slice_get, slice_index, unwrap_or, Level, level_at, some_same, some_map, get_map_some, same_lists}
use Rattle.net_resolve.proofs.Common.{WholeView, Lacks, SubcircuitView, IsSubcircuit, HasAllPins}
use Rattle.sim_base.specs.declared.signal.Level.TheVariants as levels
use Rattle.net_resolve.proofs.PickLemmas.{picked_at}
use Rattle.net_resolve.proofs.SubcircuitLemmas.{net_label}

z_at : (n net : ℕ) → level_at (replicate n levels.Z) net ≡ levels.Z
z_at zero net = refl
z_at (suc n) zero = refl
z_at (suc n) (suc net) = z_at n net

-- on nets that are all Z all pins are Z
pub pins_z : (n : ℕ) (net_of : List ℕ) → replicate (length net_of) levels.Z ≡ map (level_at (replicate n levels.Z)) net_of
pins_z n [] = refl
pins_z n (net ∷ net_of) =
    let here : levels.Z ≡ level_at (replicate n levels.Z) net = sym (z_at n net) in
    let rest : replicate (length net_of) levels.Z ≡ map (level_at (replicate n levels.Z)) net_of = pins_z n net_of in
    cc

-- a number is at some place or at none
pub here_or_lacks : (ns : List ℕ) (n : ℕ) → ((j : ℕ) × (slice_get ns j ≡ Some n)) ⊎ Lacks ns n
here_or_lacks [] n = inr (λ j e. absurd cc)
here_or_lacks (x ∷ ns) n = elim (eqb_tells x n) [
  | inl t ↦ inl (0, ap Some t.1)
  | inr f ↦ elim (here_or_lacks ns n) [
    | inl there ↦ inl (suc there.0, there.1)
    | inr none ↦ inr (both f.1 none)
  ]
]
  where
    both : x ≢ n → Lacks ns n → (j : ℕ) → slice_get (x ∷ ns) j ≡ Some n → ⊥
    both other none zero e = other (some_same e)
    both other none (suc j) e = none j e

-- a subcircuit has all pins on its nets
pub all_pins : (w : WholeView) (labels : List ℕ) (q : ℕ) (s : SubcircuitView) → IsSubcircuit w labels q s → HasAllPins w.net_of s
all_pins w labels q s is k n e lacks j there =
    let labelled : slice_get (map (slice_index labels) w.net_of) k ≡ Some q = some_map (slice_index labels) w.net_of k n e ∙ ap Some (net_label labels q s.nets is.nets_are j n there) in
    let at = picked_at q 0 (map (slice_index labels) w.net_of) k labelled in
    let same : 0 + k ≡ k = omega arith in
    lacks at.0 (ap (λ (l : List ℕ). slice_get l at.0) is.pins_are ∙ at.1 ∙ ap Some same)

-- where the levels of some nets changed, and those of all pins on them were put anew
pub pins_follow : (net_of pins nets : List ℕ) (old new before after : List Level) → length after ≡ length net_of → before ≡ map (level_at old) net_of →
    ((j k : ℕ) → slice_get pins j ≡ Some k → slice_get after k ≡ slice_get (map (level_at new) net_of) k) → ((k : ℕ) → Lacks pins k → slice_get after k ≡ slice_get before k) →
    ((k n : ℕ) → slice_get net_of k ≡ Some n → Lacks pins k → Lacks nets n) → ((n : ℕ) → Lacks nets n → slice_get new n ≡ slice_get old n) → after ≡ map (level_at new) net_of
pins_follow net_of pins nets old new before after long were put others whole kept = same_lists after (map (level_at new) net_of) (long ∙ sym (simp length-map refl)) (λ k x y ex ey.
    elim (here_or_lacks pins k) [
      | inl there ↦ some_same (sym ex ∙ put there.0 k there.1 ∙ ey)
      | inr lacks ↦
          let a = get_map_some (level_at new) net_of k y ey in
          let same : level_at old a.0 ≡ level_at new a.0 = ap (λ (o : _). unwrap_or o levels.Z) (sym (kept a.0 (whole k a.0 a.1 lacks))) in
          some_same (sym ex ∙ others k lacks ∙ ap (λ (l : List Level). slice_get l k) were ∙ some_map (level_at old) net_of k a.0 a.1) ∙ same ∙ a.2
    ])
