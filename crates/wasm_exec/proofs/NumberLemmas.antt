-- Types that are looked up one by one.
use Rattle.std.proofs.Common.{◌≡◌, ℕ, ◌≤◌, List, [], ◌∷◌, ◌++◌, length, Some, sym, ap, subst, ◌∙◌, inl, inr, ◌⊎◌}
use Rattle.std.specs.Prelude.{slice_get}
use Rattle.wasm_code.specs.declared.types.FuncType.{FuncType}
use Rattle.wasm_exec.proofs.ListLemmas.{get_snoc}

pub few_more : (found more : List FuncType) (x : FuncType) → ((i : ℕ) (t : FuncType) → slice_get found i ≡ Some t → length t.params ≤ 16) → length x.params ≤ 16 → more ≡ found ++ x ∷ [] → (i : ℕ) (t : FuncType) → slice_get more i ≡ Some t → length t.params ≤ 16
few_more found more x few le e i t g = by (get_snoc found x t i (ap (λ (ts : List FuncType). slice_get ts i) (sym e) ∙ g))
  where
    by : (slice_get found i ≡ Some t) ⊎ (i ≡ length found) × (x ≡ t) → length t.params ≤ 16
    by (inl q) = few i t q
    by (inr q) = subst (λ (y : FuncType). length y.params ≤ 16) q.1 le
