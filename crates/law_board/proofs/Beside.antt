-- Two boards with one wiring and one script, side by side.
use Rattle.std.specs.Prelude.{◌≡◌, ℕ, suc, ◌+◌, ◌<◌, List, Some, slice_get}
use Rattle.sim_base.specs.declared.wiring.Wiring.{Wiring}
use Rattle.sim_base.specs.declared.wiring.Input.{Input}
use Rattle.part_law.specs.Machine.{Machine}
use Rattle.board_model.specs.Board.{part_step, levels_of, states}
use Rattle.law_board.specs.Alike.{Alike, SameShow}

-- Two boards with one wiring and one script, in the `end` cycles from c on. R t k relates the states of part k at c + t.
-- Related states drive and connect the same, and related states that step on the same levels are related.
pub record Beside {A B : Type 0} (m : Machine A) (n : Machine B) (w : Wiring) (inputs : List Input) (xs : List A) (ys : List B) (c end : ℕ) (R : ℕ → ℕ → A → B → Type 0) : Type 0 where
  pub starts : Alike (R 0) xs ys
  pub shows : (t k : ℕ) (a : A) (b : B) → t < end → slice_get (states m w inputs xs c t) k ≡ Some a → slice_get (states n w inputs ys c t) k ≡ Some b →
      R t k a b → SameShow m n a b
  pub steps : (t k : ℕ) (a : A) (b : B) → t < end → slice_get (states m w inputs xs c t) k ≡ Some a → slice_get (states n w inputs ys c t) k ≡ Some b →
      R t k a b → R (suc t) k (part_step m w inputs (levels_of m w (states m w inputs xs c t)) (c + t) k a).0 (part_step n w inputs (levels_of m w (states m w inputs xs c t)) (c + t) k b).0

-- and emit the same
abbrev pub EmitSame : {A B : Type 0} → Machine A → Machine B → Wiring → List Input → List A → List B → ℕ → ℕ → (ℕ → ℕ → A → B → Type 0) → Type 0
EmitSame {A = A} {B = B} m n w inputs xs ys c end R = (t k : ℕ) (a : A) (b : B) → t < end → slice_get (states m w inputs xs c t) k ≡ Some a → slice_get (states n w inputs ys c t) k ≡ Some b →
    R t k a b → (part_step m w inputs (levels_of m w (states m w inputs xs c t)) (c + t) k a).1 ≡ (part_step n w inputs (levels_of m w (states m w inputs xs c t)) (c + t) k b).1
