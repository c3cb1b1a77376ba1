-- A leg that goes on from cycle to cycle, over some in which nothing is new.
use Rattle.std.proofs.Common.{◌≡◌, ◌∙◌, ℕ, zero, suc, ◌+◌, ◌-◌, ◌<◌, ◌≤◌, List, [], ◌∷◌, length, drop, Bool, true, false, not, ◌||◌, refl, ap, sym, arith, subst}
use Rattle.std.specs.Prelude.{nat_le, ◌==◌, if◌then◌else◌}
use Rattle.std.proofs.lemmas.Bool.Decides.{nat_tests}
use Rattle.text_model.specs.Wave.{Source}
use Rattle.live_model.specs.Leg.{Wait, Has, Turns, HasSent, most_sent, sent_from, holds, held_from, held, ends_at, end_after, leg_end}

same_is : (n : ℕ) → (n == n) ≡ true
same_is n = grind (arith, nat_tests)

module _ (value : ℕ → Source → ℕ) (sent : ℕ → List ℕ) where
  -- From cycle c to the last before u no value is another, and no byte comes.
  pub record IsStill (c u : ℕ) : Type 0 where
    pub values : (t : ℕ) (shows : Source) → c ≤ t → t < u → value t shows ≡ value c shows
    pub silent : (t : ℕ) → c ≤ t → t < u → sent t ≡ sent c

  -- what does not hold in cycle c does not hold up to u
  hold_still : (c u t : ℕ) (w : Wait) → IsStill c u → c < t → t < u → holds value sent c w ≡ false → holds value sent t w ≡ false
  hold_still c u t (Has shows it) still further within none = rw (still.values t shows (omega (arith, further)) within) none
  hold_still c u t (Turns shows) still further within none =
      rw (still.values t shows (omega (arith, further)) within, still.values (t - 1) shows (omega (arith, further)) (omega (arith, within))) (ap not (same_is (value c shows)))
  hold_still c u t (HasSent n) still further within none = rw (still.silent t (omega (arith, further)) within) none

  held_still : (c u t number : ℕ) (ws : List Wait) → IsStill c u → c < t → t < u → held_from value sent (suc number) c ws ≡ 0 → held_from value sent (suc number) t ws ≡ 0
  held_still c u t number [] still further within none = refl
  held_still c u t number (w ∷ ws) still further within none =
      here (holds value sent c w) refl none (held_still c u t (suc number) ws still further within)
    where
      here : (b : Bool) → holds value sent c w ≡ b → (if b then suc number else held_from value sent (suc (suc number)) c ws) ≡ 0
          → (held_from value sent (suc (suc number)) c ws ≡ 0 → held_from value sent (suc (suc number)) t ws ≡ 0) → held_from value sent (suc number) t (w ∷ ws) ≡ 0
      here true is e rest = absurd cc
      here false is e rest = rw (hold_still c u t w still further within is) (rest e)

  quiet : (n : ℕ) (b : Bool) → (not (n == 0) || b) ≡ false → n ≡ 0
  quiet n b e = here (n == 0) refl e
    where
      here : (t : Bool) → (n == 0) ≡ t → (not t || b) ≡ false → n ≡ 0
      here true is e = grind (arith, nat_tests)
      here false is e = absurd cc

  few : (t b : Bool) → (not t || b) ≡ false → b ≡ false
  few true b e = e
  few false b e = absurd cc

  zero_is : (n : ℕ) (b : Bool) → n ≡ 0 → b ≡ false → (not (n == 0) || b) ≡ false
  zero_is n b e f = rw (e, f) refl

  module _ (from : ℕ) (ws : List Wait) where
    -- a leg that does not end in cycle c does not end before u
    pub none_between : (c u : ℕ) → IsStill c u → ends_at value sent from ws c ≡ false → (t : ℕ) → c < t → t < u → ends_at value sent from ws t ≡ false
    none_between c u still none t further within =
        let full = nat_le most_sent (length (sent_from value sent from c)) in
        zero_is (held value sent t ws) (nat_le most_sent (length (sent_from value sent from t)))
        (held_still c u t 0 ws still further within (quiet (held value sent c ws) full none))
        (rw (still.silent t (omega (arith, further)) within) (few (held value sent c ws == 0) full none))

    -- where it ends in none of k cycles
    skips : (k t n : ℕ) → ((u : ℕ) → t < u → u ≤ t + k → ends_at value sent from ws u ≡ false) → end_after value sent from ws t (n + k) ≡ end_after value sent from ws (t + k) n
    unfolding end_after
    skips zero t n none =
        let e : n + 0 ≡ n = omega arith in
        let f : t ≡ t + 0 = omega arith in
        ap (end_after value sent from ws t) e ∙ ap (λ (x : ℕ). end_after value sent from ws x n) f
    skips (suc k) t n none =
        let more : n + suc k ≡ suc (n + k) = omega arith in
        rw (more, none (suc t) (omega arith) (omega arith))
        (skips k (suc t) n (λ u (l : suc t < u) (h : u ≤ suc t + k). none u (omega (arith, l)) (omega (arith, h)))
        ∙ ap (λ (x : ℕ). end_after value sent from ws x n) (let e : suc t + k ≡ t + suc k = omega arith in e))

    not_before : (t n : ℕ) → t ≤ end_after value sent from ws t n
    unfolding end_after
    not_before t zero = omega arith
    not_before t (suc n) = here (ends_at value sent from ws (suc t)) (not_before (suc t) n)
      where
        here : (b : Bool) → suc t ≤ end_after value sent from ws (suc t) n → t ≤ (if b then suc t else end_after value sent from ws (suc t) n)
        here true h = omega arith
        here false h = omega (arith, h)

    module _ (until c u : ℕ) (further : c < u) (within : u ≤ until) (none : (t : ℕ) → c < t → t < u → ends_at value sent from ws t ≡ false)
        (at : leg_end value sent from until ws ≡ end_after value sent from ws c (until - c)) where
      -- it goes on from the cycle before u
      comes : leg_end value sent from until ws ≡ end_after value sent from ws (u - 1) (suc (until - u))
      comes =
          let e : until - c ≡ suc (until - u) + (u - 1 - c) = omega (arith, further, within) in
          let f : c + (u - 1 - c) ≡ u - 1 = omega (arith, further) in
          at ∙ ap (end_after value sent from ws c) e
          ∙ skips (u - 1 - c) c (suc (until - u)) (λ t (l : c < t) (h : t ≤ c + (u - 1 - c)). none t l (omega (arith, further, h)))
          ∙ ap (λ (x : ℕ). end_after value sent from ws x (suc (until - u))) f

      -- it ends in cycle u, or goes on from it
      pub one_more : (b : Bool) → ends_at value sent from ws u ≡ b → leg_end value sent from until ws ≡ (if b then u else end_after value sent from ws u (until - u))
      unfolding end_after
      one_more b is =
          let e : suc (u - 1) ≡ u = omega (arith, further) in
          let Ends : ℕ → Type 0 = λ x. leg_end value sent from until ws ≡ (if ends_at value sent from ws x then x else end_after value sent from ws x (until - u)) in
          let h : Ends u = subst Ends e comes in
          h ∙ ap (λ (x : Bool). if x then u else end_after value sent from ws u (until - u)) is

      pub stops : ends_at value sent from ws u ≡ true → leg_end value sent from until ws ≡ u
      stops is = one_more true is

      pub passes : ends_at value sent from ws u ≡ false → leg_end value sent from until ws ≡ end_after value sent from ws u (until - u)
      passes is = one_more false is

      -- and does not end before it
      pub reaches : u ≤ leg_end value sent from until ws
      reaches = rw (one_more (ends_at value sent from ws u) refl) (here (ends_at value sent from ws u))
        where
          here : (b : Bool) → u ≤ (if b then u else end_after value sent from ws u (until - u))
          here true = omega arith
          here false = not_before u (until - u)

    -- at its last cycle it ends
    pub is_over : (until : ℕ) → leg_end value sent from until ws ≡ end_after value sent from ws until (until - until) → leg_end value sent from until ws ≡ until
    unfolding end_after
    is_over until at = let e : until - until ≡ 0 = omega arith in at ∙ ap (end_after value sent from ws until) e
