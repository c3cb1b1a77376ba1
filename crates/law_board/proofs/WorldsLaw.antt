-- Two worlds: as long as the chips drive the same, the rest of the boards is the same.
use Rattle.std.proofs.Common.{◌≡◌, ℕ, ◌+◌, ◌<◌, ◌≤◌, List, [], ◌∙◌, Bool, true, false, Option, refl, ap, sym}
use Rattle.sim_base.specs.declared.signal.Level.{Level}
use Rattle.sim_base.specs.declared.wiring.Wiring.{Wiring}
use Rattle.sim_base.specs.declared.wiring.Input.{Input}
use Rattle.part_law.specs.Machine.{Machine}
use Rattle.board_model.specs.Board.{part_step, levels_of, states, bytes}
use Rattle.board_model.specs.Rows.{Shown, rows}
use Rattle.law_board.specs.Alike.{SameShow}
use Rattle.law_board.proofs.Beside.{Beside}
use Rattle.law_board.specs.Worlds.{is_chip, IsQuietKind, TheseAre, SameRest, SameChips}
use Rattle.law_board.proofs.AlikeLemmas.{alike_weaker}
use Rattle.law_board.proofs.BesideLaw.{beside_states, beside_levels, beside_bytes, beside_rows}

module _ {S : Type 0} (m : Machine S) (IsOf : S → Type 0) (w : Wiring) where
  -- the parts k of two worlds
  record Twins (k : ℕ) (a b : S) : Type 0 where
    rest : is_chip w k ≡ false → a ≡ b
    one : is_chip w k ≡ true → IsOf a
    other : is_chip w k ≡ true → IsOf b

  show_same : ((s : S) → IsOf s → m.contacts s ≡ []) → (k : ℕ) (a b : S) (chip : Bool) → is_chip w k ≡ chip → Twins k a b → (is_chip w k ≡ true → m.drives a ≡ m.drives b) → SameShow m m a b
  show_same none k a b true e h d = record { drives = d e; contacts = none a (h.one e) ∙ sym (none b (h.other e)) }
  show_same none k a b false e h d = record { drives = ap m.drives (h.rest e); contacts = ap m.contacts (h.rest e) }

module _ {S : Type 0} (m : Machine S) (IsOf : S → Type 0) (stays : (s : S) (t : ℕ) (l : List Level) (i : Option ℕ) → IsOf s → IsOf (m.step s t l i).0) (none : (s : S) → IsOf s → m.contacts s ≡ [])
    (w : Wiring) (inputs : List Input) (xs ys : List S) (c end : ℕ) (one : TheseAre IsOf (is_chip w) xs) (other : TheseAre IsOf (is_chip w) ys) (rest : SameRest w xs ys)
    (chips : (t : ℕ) → t < end → SameChips m w (states m w inputs xs c t) (states m w inputs ys c t)) where
  worlds : Beside m m w inputs xs ys c end (λ t k a b. Twins m IsOf w k a b)
  worlds = record {
    starts = alike_weaker (λ k a b. is_chip w k ≡ false → a ≡ b) (λ k a b. Twins m IsOf w k a b) xs ys rest (λ k a b ea eb r. record { rest = r; one = λ e. one k a e ea; other = λ e. other k b e eb });
    shows = λ t k a b l ea eb h. show_same m IsOf w none k a b (is_chip w k) refl h ((chips t l).each k a b ea eb);
    steps = λ t k a b l ea eb h.
        let ls = levels_of m w (states m w inputs xs c t) in
        record {
          rest = λ e. ap (λ (s : S). (part_step m w inputs ls (c + t) k s).0) (h.rest e);
          one = λ e. stays a (c + t) _ _ (h.one e);
          other = λ e. stays b (c + t) _ _ (h.other e);
        };
  }

  -- the states of all other parts are the same, at the end of these cycles too
  pub bare_states : (t : ℕ) → t ≤ end → SameRest w (states m w inputs xs c t) (states m w inputs ys c t)
  bare_states t h = alike_weaker (λ k a b. Twins m IsOf w k a b) (λ k a b. is_chip w k ≡ false → a ≡ b) _ _ (beside_states m m w inputs xs ys c end (λ t k a b. Twins m IsOf w k a b) worlds t h) (λ k a b ea eb r. r.rest)

  pub bare_levels : (t : ℕ) → t < end → levels_of m w (states m w inputs xs c t) ≡ levels_of m w (states m w inputs ys c t)
  bare_levels t h = beside_levels m m w inputs xs ys c end (λ t k a b. Twins m IsOf w k a b) worlds t h

module _ {S : Type 0} (m : Machine S) (IsOf : S → Type 0) (kind : IsQuietKind m IsOf) (w : Wiring) (inputs : List Input) (xs ys : List S) (c end : ℕ)
    (one : TheseAre IsOf (is_chip w) xs) (other : TheseAre IsOf (is_chip w) ys) (rest : SameRest w xs ys)
    (chips : (t : ℕ) → t < end → SameChips m w (states m w inputs xs c t) (states m w inputs ys c t)) where
  quiet_worlds : Beside m m w inputs xs ys c end (λ t k a b. Twins m IsOf w k a b)
  quiet_worlds = worlds m IsOf kind.stays kind.no_contacts w inputs xs ys c end one other rest chips

  same_byte : (t k : ℕ) (a b : S) (chip : Bool) → is_chip w k ≡ chip → Twins m IsOf w k a b →
      (part_step m w inputs (levels_of m w (states m w inputs xs c t)) (c + t) k a).1 ≡ (part_step m w inputs (levels_of m w (states m w inputs xs c t)) (c + t) k b).1
  same_byte t k a b true e h = kind.no_byte a (c + t) _ _ (h.one e) ∙ sym (kind.no_byte b (c + t) _ _ (h.other e))
  same_byte t k a b false e h = ap (λ (s : S). (part_step m w inputs (levels_of m w (states m w inputs xs c t)) (c + t) k s).1) (h.rest e)

  pub worlds_states : (t : ℕ) → t ≤ end → SameRest w (states m w inputs xs c t) (states m w inputs ys c t)
  worlds_states = bare_states m IsOf kind.stays kind.no_contacts w inputs xs ys c end one other rest chips

  pub worlds_levels : (t : ℕ) → t < end → levels_of m w (states m w inputs xs c t) ≡ levels_of m w (states m w inputs ys c t)
  worlds_levels = bare_levels m IsOf kind.stays kind.no_contacts w inputs xs ys c end one other rest chips

  pub worlds_bytes : (t : ℕ) → t ≤ end → bytes m w inputs xs c t ≡ bytes m w inputs ys c t
  worlds_bytes t h = beside_bytes m m w inputs xs ys c end (λ t k a b. Twins m IsOf w k a b) quiet_worlds (λ t k a b l ea eb r. same_byte t k a b (is_chip w k) refl r) t h

  pub worlds_rows : (before : Option Shown) (t : ℕ) → t ≤ end → rows m w inputs before xs c t ≡ rows m w inputs before ys c t
  worlds_rows before t h = beside_rows m m w inputs xs ys c end (λ t k a b. Twins m IsOf w k a b) quiet_worlds before t h
