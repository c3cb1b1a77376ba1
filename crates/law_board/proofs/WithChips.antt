-- The board with other chips has the same rest.
use Rattle.std.proofs.Common.{◌≡◌, ℕ, zero, suc, ◌+◌, ◌<◌, ◌≤◌, List, [], ◌∷◌, ◌∙◌, length, Bool, true, false, Some, refl, ap, sym, arith}
use Rattle.std.specs.Prelude.{slice_get, if◌then◌else◌}
use Rattle.sim_base.specs.declared.wiring.Wiring.{Wiring}
use Rattle.board_model.proofs.Lists.{some_same}
use Rattle.law_board.specs.Worlds.{is_chip, SameRest}
use Rattle.law_board.specs.Twin.{with_chips_from, with_chips, chips_before}

length-with : {S : Type 0} (w : Wiring) (i : ℕ) (ss chips : List S) → length ss ≡ length (with_chips_from w i ss chips)
length-with w i [] chips = refl
length-with w i (s ∷ ss) [] = refl
length-with {S = S} w i (s ∷ ss) (c ∷ chips) = here (is_chip w i) (length-with w (i + 1) ss chips) (length-with w (i + 1) ss (c ∷ chips))
  where
    here : (x : Bool) → length ss ≡ length (with_chips_from w (i + 1) ss chips) → length ss ≡ length (with_chips_from w (i + 1) ss (c ∷ chips)) →
        length (s ∷ ss) ≡ length (if x then c ∷ with_chips_from w (i + 1) ss chips else s ∷ with_chips_from w (i + 1) ss (c ∷ chips))
    here true a b = ap suc a
    here false a b = ap suc b

rest_with : {S : Type 0} (w : Wiring) (i k : ℕ) (ss chips : List S) (a b : S) → slice_get ss k ≡ Some a → slice_get (with_chips_from w i ss chips) k ≡ Some b → is_chip w (i + k) ≡ false → a ≡ b
rest_with w i k [] chips a b ea eb no_chip = cc
rest_with w i k (s ∷ ss) [] a b ea eb no_chip = some_same (sym ea ∙ eb)
rest_with w i zero (s ∷ ss) (c ∷ chips) a b ea eb no_chip =
    let e : i + 0 ≡ i = omega arith in
    let first : slice_get (with_chips_from w i (s ∷ ss) (c ∷ chips)) 0 ≡ Some s =
    ap (λ (x : Bool). slice_get (if x then c ∷ with_chips_from w (i + 1) ss chips else s ∷ with_chips_from w (i + 1) ss (c ∷ chips)) 0) (ap (is_chip w) (sym e) ∙ no_chip) in
    some_same (sym ea ∙ sym first ∙ eb)
rest_with {S = S} w i (suc k) (s ∷ ss) (c ∷ chips) a b ea eb no_chip =
    let e : i + 1 + k ≡ i + suc k = omega arith in
    here (is_chip w i) (λ f. rest_with w (i + 1) k ss chips a b ea f (ap (is_chip w) e ∙ no_chip)) (λ f. rest_with w (i + 1) k ss (c ∷ chips) a b ea f (ap (is_chip w) e ∙ no_chip)) eb
  where
    here : (x : Bool) → (slice_get (with_chips_from w (i + 1) ss chips) k ≡ Some b → a ≡ b) → (slice_get (with_chips_from w (i + 1) ss (c ∷ chips)) k ≡ Some b → a ≡ b) →
        slice_get (if x then c ∷ with_chips_from w (i + 1) ss chips else s ∷ with_chips_from w (i + 1) ss (c ∷ chips)) (suc k) ≡ Some b → a ≡ b
    here true p q f = p f
    here false p q f = q f

-- whatever the chips are
pub rest_with_chips : {S : Type 0} (w : Wiring) (ss chips : List S) → SameRest w ss (with_chips w ss chips)
rest_with_chips w ss chips = record {
  long = length-with w 0 ss chips;
  each = λ k a b ea eb is. let e : 0 + k ≡ k = omega arith in rest_with w 0 k ss chips a b ea eb (ap (is_chip w) e ∙ is);
}

before_more : (w : Wiring) (i : ℕ) (b : Bool) → is_chip w i ≡ b → chips_before w (i + 1) ≡ chips_before w i + (if b then 1 else 0)
before_more w i b is = let e : i + 1 ≡ suc i = omega arith in ap (chips_before w) e ∙ ap (λ (x : Bool). chips_before w i + (if x then 1 else 0)) is

before_rises : (w : Wiring) (i k : ℕ) → chips_before w i ≤ chips_before w (i + k)
before_rises w i zero = let e : i + 0 ≡ i = omega arith in rw e (omega arith)
before_rises w i (suc k) = let e : i + suc k ≡ suc (i + k) = omega arith in rw e (omega (arith, before_rises w i k))

chip_with : {S : Type 0} (w : Wiring) (i k n : ℕ) (ss chips : List S) (b : S) → k < length ss → is_chip w (i + k) ≡ true → chips_before w i + n ≡ chips_before w (i + k) → slice_get chips n ≡ Some b →
    slice_get (with_chips_from w i ss chips) k ≡ Some b
chip_with w i k n [] chips b l is place e = absurd (omega arith)
chip_with w i k n (s ∷ ss) [] b l is place e = absurd cc
chip_with w i zero n (s ∷ ss) (c ∷ chips) b l is place e =
    let e0 : i + 0 ≡ i = omega arith in
    let n0 : n ≡ 0 = omega (arith, place, ap (chips_before w) e0) in
    let first : slice_get (c ∷ chips) 0 ≡ Some b = ap (slice_get (c ∷ chips)) (sym n0) ∙ e in
    ap (λ (x : Bool). slice_get (if x then c ∷ with_chips_from w (i + 1) ss chips else s ∷ with_chips_from w (i + 1) ss (c ∷ chips)) 0) (ap (is_chip w) (sym e0) ∙ is) ∙ first
chip_with {S = S} w i (suc k) n (s ∷ ss) (c ∷ chips) b l is place e =
    let e1 : i + 1 + k ≡ i + suc k = omega arith in
    here (is_chip w i) refl n place e (λ n' p f. chip_with w (i + 1) k n' ss chips b (omega arith) (ap (is_chip w) e1 ∙ is) p f)
    (λ n' p f. chip_with w (i + 1) k n' ss (c ∷ chips) b (omega arith) (ap (is_chip w) e1 ∙ is) p f)
  where
    here : (x : Bool) → is_chip w i ≡ x → (n : ℕ) → chips_before w i + n ≡ chips_before w (i + suc k) → slice_get (c ∷ chips) n ≡ Some b →
        ((n' : ℕ) → chips_before w (i + 1) + n' ≡ chips_before w (i + 1 + k) → slice_get chips n' ≡ Some b → slice_get (with_chips_from w (i + 1) ss chips) k ≡ Some b) →
        ((n' : ℕ) → chips_before w (i + 1) + n' ≡ chips_before w (i + 1 + k) → slice_get (c ∷ chips) n' ≡ Some b → slice_get (with_chips_from w (i + 1) ss (c ∷ chips)) k ≡ Some b) →
        slice_get (with_chips_from w i (s ∷ ss) (c ∷ chips)) (suc k) ≡ Some b
    here true y zero place e p q =
        let e1 : i + 1 + k ≡ i + suc k = omega arith in
        absurd (omega (arith, place, before_more w i true y, before_rises w (i + 1) k, ap (chips_before w) e1))
    here true y (suc n) place e p q =
        let e1 : i + 1 + k ≡ i + suc k = omega arith in
        let there : chips_before w (i + 1) + n ≡ chips_before w (i + 1 + k) = omega (arith, place, before_more w i true y, ap (chips_before w) e1) in
        ap (λ (x : Bool). slice_get (if x then c ∷ with_chips_from w (i + 1) ss chips else s ∷ with_chips_from w (i + 1) ss (c ∷ chips)) (suc k)) y ∙ p n there e
    here false y n place e p q =
        let e1 : i + 1 + k ≡ i + suc k = omega arith in
        let there : chips_before w (i + 1) + n ≡ chips_before w (i + 1 + k) = omega (arith, place, before_more w i false y, ap (chips_before w) e1) in
        ap (λ (x : Bool). slice_get (if x then c ∷ with_chips_from w (i + 1) ss chips else s ∷ with_chips_from w (i + 1) ss (c ∷ chips)) (suc k)) y ∙ q n there e

-- the chip that is part k is the next of them
pub get-with_chips : {S : Type 0} (w : Wiring) (k : ℕ) (ss chips : List S) (b : S) → k < length ss → is_chip w k ≡ true → slice_get chips (chips_before w k) ≡ Some b → slice_get (with_chips w ss chips) k ≡ Some b
get-with_chips w k ss chips b l is e =
    let e0 : 0 + k ≡ k = omega arith in
    let place : chips_before w 0 + chips_before w k ≡ chips_before w (0 + k) = omega (arith, ap (chips_before w) e0) in
    chip_with w 0 k (chips_before w k) ss chips b l (ap (is_chip w) e0 ∙ is) place e
