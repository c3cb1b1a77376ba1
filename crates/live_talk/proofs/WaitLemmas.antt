-- Waits that were found one after the other, and the first that holds.
use Rattle.std.proofs.Common.{◌≡◌, ◌∙◌, ℕ, suc, ◌+◌, ◌-◌, ◌<◌, List, [], ◌∷◌, ◌++◌, map, length, Bool, true, false, not, refl, ap, sym, append_assoc, Result, Ok, Err}
use Rattle.std.specs.Prelude.{◌==◌, nat_le, if◌then◌else◌}
use Rattle.std.proofs.lemmas.List.{append-nil}
use Rattle.text_model.specs.Wave.{Variable, Source}
use Rattle.live_request.specs.Condition.{Condition}
use Rattle.live_request.specs.Words.{◌>>=◌}
use Rattle.live_model.specs.Leg.{Wait, Has, Turns, HasSent, wait_for, waits_for, holds, held_from, held}
use Rattle.live_talk.specs.Waiting.{seen, holds_by, held_by}

-- what is found of conditions, behind some that were found
abbrev pub with_front : List Wait → Result (List Wait) ℕ → Result (List Wait) ℕ
with_front front r = r >>= λ ws. Ok (front ++ ws)

pub front_none : (r : Result (List Wait) ℕ) → with_front [] r ≡ r
front_none (Ok ws) = refl
front_none (Err n) = refl

one_more : (front : List Wait) (w : Wait) (r : Result (List Wait) ℕ) → with_front front (r >>= λ ws. Ok (w ∷ ws)) ≡ with_front (front ++ w ∷ []) r
one_more front w (Ok ws) = ap (λ (l : List Wait). Ok l) (sym (append_assoc front (w ∷ []) ws))
one_more front w (Err n) = refl

pub found_more : (variables : List Variable) (front : List Wait) (c : Condition) (cs : List Condition) (w : Wait) → wait_for variables c ≡ Ok w →
    with_front front (waits_for variables (c ∷ cs)) ≡ with_front (front ++ w ∷ []) (waits_for variables cs)
found_more variables front c cs w is = ap (λ (r : Result Wait ℕ). with_front front (r >>= λ w. waits_for variables cs >>= λ ws. Ok (w ∷ ws))) is ∙ one_more front w (waits_for variables cs)

pub found_none : (variables : List Variable) (front : List Wait) (c : Condition) (cs : List Condition) (n : ℕ) → wait_for variables c ≡ Err n →
    with_front front (waits_for variables (c ∷ cs)) ≡ Err n
found_none variables front c cs n is = ap (λ (r : Result Wait ℕ). with_front front (r >>= λ w. waits_for variables cs >>= λ ws. Ok (w ∷ ws))) is

pub found_all : (variables : List Variable) (front : List Wait) → with_front front (waits_for variables []) ≡ Ok front
found_all variables front = ap (λ (l : List Wait). Ok l) (append-nil front)

-- what holds by the values of a cycle and of the one before holds in it
module _ (value : ℕ → Source → ℕ) (sent : ℕ → List ℕ) (t : ℕ) (now before : Source → ℕ) (same : (shows : Source) → now shows ≡ value t shows)
    (last : (shows : Source) → before shows ≡ value (t - 1) shows) where
  holds_alike : (w : Wait) → holds_by (seen now w) (seen before w) (length (sent t)) w ≡ holds value sent t w
  holds_alike (Has shows it) = rw (same shows) refl
  holds_alike (Turns shows) = rw (same shows, last shows) refl
  holds_alike (HasSent n) = refl

  pub held_alike : (number : ℕ) (ws : List Wait) → held_by now before (length (sent t)) number ws ≡ held_from value sent number t ws
  held_alike number [] = refl
  held_alike number (w ∷ ws) = rw (holds_alike w, held_alike (suc number) ws) refl
