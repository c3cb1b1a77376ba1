-- Labels of places that were alone before pairs joined them.
use Rattle.std.proofs.Common.{◌≡◌, ℕ, ◌<◌, ◌≤◌, List, length, Bool, true, ap, sym, ◌∙◌, arith, ◌⊎◌, inl, inr, subst}
use Rattle.std.proofs.lemmas.Bool.{eqb-true, or_cases, and_parts}
use Rattle.std.proofs.lemmas.Bool.Decides.{nat_tests}
use Rattle.std.proofs.lemmas.List.{get_or_past}
use Rattle.std.proofs.lemmas.Option.{get_or_from_slice_get}
use Rattle.std.specs.Prelude.{◌==◌, ◌&&◌, slice_index, nat_lt}
use Rattle.board_model.specs.Walks.{Walk, here, further, below}
use Rattle.board_model.proofs.WalkLemmas.{walk_join, walk_back}
use Rattle.board_model.proofs.Lists.{get-below, length-below}
use Rattle.net_union_find.specs.Forest.{AreLabels, AreClasses, Joins, root_of, same_or}
use Rattle.net_union_find.proofs.ForestLemmas.{label_root, own_root}

-- an index in a list
below_index : (n x : ℕ) → x < n → slice_index (below n) x ≡ x
below_index n x l = get_or_from_slice_get (below n) x x 0 (get-below n x l)

lt_of : (a b : ℕ) → nat_lt a b ≡ true → a < b
lt_of a b h = grind (arith, nat_tests)

lt_or_ge : (a b : ℕ) → (a < b) ⊎ (b ≤ a)
lt_or_ge a b = grind arith

below_least : (n y : ℕ) → slice_index (below n) y ≤ y
below_least n y = elim (lt_or_ge y n) [
  | inl l ↦ omega (arith, below_index n y l)
  | inr h ↦ omega (arith, get_or_past (below n) y 0 (omega (arith, length-below n, h)))
]

-- each place alone is its own root
alone_root : (n x : ℕ) → x < n → root_of (below n) x ≡ x
alone_root n x l = own_root (below n) (below_least n) x (below_index n x l)

-- places that are alone are labels
pub below_labels : (n : ℕ) → AreLabels (below n)
below_labels n = record {
  forest = below_least n;
  flat = λ x l. let e : slice_index (below n) x ≡ x = below_index n x (omega (arith, length-below n)) in ap (slice_index (below n)) e;
}

module _ (step : ℕ → ℕ → Bool) (old new : List ℕ) (long : length new ≡ length old) (before : AreLabels old) (after : AreLabels new) (j : Joins step old new) where
  root_label : (x : ℕ) → x < length old → root_of new x ≡ slice_index new x
  root_label x l = label_root new after x (omega (arith, long))

  -- places of one label have one label
  pub joins_keep : (x y : ℕ) → x < length old → y < length old → slice_index old x ≡ slice_index old y → slice_index new x ≡ slice_index new y
  joins_keep x y lx ly e =
      sym (root_label x lx) ∙ j.keeps x y lx ly (label_root old before x lx ∙ e ∙ sym (label_root old before y ly)) ∙ root_label y ly

  -- places that a step joins have one label
  pub joins_same : (x y : ℕ) → x < length old → y < length old → step x y ≡ true → slice_index new x ≡ slice_index new y
  joins_same x y lx ly s = sym (root_label x lx) ∙ j.joined x y s ∙ root_label y ly

module _ (step : ℕ → ℕ → Bool) (n : ℕ) (bounds : (x y : ℕ) → step x y ≡ true → (x < n) × (y < n)) (back : (x y : ℕ) → step x y ≡ true → step y x ≡ true)
    (labels : List ℕ) (long : length labels ≡ n) (flat : AreLabels labels) (j : Joins step (below n) labels) where
  -- steps within trees of one place each are none
  real_walk : (x y : ℕ) → Walk (same_or (below n) step) x y → Walk step x y
  real_walk x _ here = here
  real_walk x _ (further k m w s) =
      let count = length (below n) in
      elim (or_cases (nat_lt k count && nat_lt m count && (root_of (below n) k == root_of (below n) m)) (step k m) s) [
        | inl l ↦
            let a = and_parts (nat_lt k count && nat_lt m count) (root_of (below n) k == root_of (below n) m) l in
            let b = and_parts (nat_lt k count) (nat_lt m count) a.0 in
            let kn : k < n = omega (arith, lt_of k count b.0, length-below n) in
            let mn : m < n = omega (arith, lt_of m count b.1, length-below n) in
            let e : k ≡ m = sym (alone_root n k kn) ∙ eqb-true (root_of (below n) k) (root_of (below n) m) a.1 ∙ alone_root n m mn in
            subst (λ (z : ℕ). Walk step x z) e (real_walk x k w)
        | inr r ↦ further k m (real_walk x k w) r
      ]

  to_label : (x : ℕ) → x < n → Walk step x (slice_index labels x)
  to_label x l = subst (λ (z : ℕ). Walk step x z) (label_root labels flat x (omega (arith, long))) (real_walk x (root_of labels x) (j.walks x (omega (arith, length-below n))))

  pub classes : AreClasses step labels
  classes = record {
    labels = flat;
    walks = λ a b la lb e. walk_join step a (slice_index labels b) b
        (subst (λ (z : ℕ). Walk step a z) e (to_label a (omega (arith, long)))) (walk_back step back b (slice_index labels b) (to_label b (omega (arith, long))));
    same = λ a b s.
        let at = bounds a b s in
        joins_same step (below n) labels (long ∙ sym (length-below n)) (below_labels n) flat j a b (omega (arith, at.0, length-below n)) (omega (arith, at.1, length-below n)) s;
  }
