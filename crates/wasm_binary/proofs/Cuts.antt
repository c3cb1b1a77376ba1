-- Bytes that are cut into a front and a rest.
use Rattle.std.proofs.Common.{◌≡◌, ℕ, List, [], ◌∷◌, ◌++◌, length, refl, sym, ap, ◌∙◌, arith, append_assoc}
use Rattle.std.specs.Prelude.{take}

abbrev pub head_of : ℕ → List ℕ → ℕ
head_of d [] = d
head_of d (x ∷ xs) = x

abbrev pub tail_of : List ℕ → List ℕ
tail_of [] = []
tail_of (x ∷ xs) = xs

-- what stands in front
pub take_front : (a r : List ℕ) → take (length a) (a ++ r) ≡ a
take_front [] r = refl
take_front (x ∷ a) r = ap (λ (z : List ℕ). x ∷ z) (take_front a r)

-- equal fronts leave equal rests
pub rest_is : (a b r s : List ℕ) → a ≡ b → a ++ r ≡ b ++ s → r ≡ s
rest_is [] [] r s q e = e
rest_is [] (y ∷ b) r s q e = absurd cc
rest_is (x ∷ a) [] r s q e = absurd cc
rest_is (x ∷ a) (y ∷ b) r s q e = rest_is a b r s (ap tail_of q) (ap tail_of e)

-- the same bytes, cut in two ways
pub recut : (whole1 whole2 a b a' b' r s : List ℕ) → whole1 ≡ a ++ b → whole2 ≡ a' ++ b' → whole1 ++ r ≡ whole2 ++ s → a ++ (b ++ r) ≡ a' ++ (b' ++ s)
recut whole1 whole2 a b a' b' r s p q e =
    sym (append_assoc a b r) ∙ sym (ap (λ (z : List ℕ). z ++ r) p) ∙ e ∙ ap (λ (z : List ℕ). z ++ s) q ∙ append_assoc a' b' s

pub whole_is : (whole1 whole2 a b a' b' : List ℕ) → whole1 ≡ a ++ b → whole2 ≡ a' ++ b' → a ≡ a' → b ≡ b' → whole1 ≡ whole2
whole_is whole1 whole2 a b a' b' p q e f = p ∙ ap (λ (z : List ℕ). z ++ b) e ∙ ap (λ (z : List ℕ). a' ++ z) f ∙ sym q

-- fronts of one length are equal
pub same_length : (a b r s : List ℕ) → length a ≡ length b → a ++ r ≡ b ++ s → a ≡ b
same_length [] [] r s l e = refl
same_length [] (y ∷ b) r s l e = absurd (omega arith)
same_length (x ∷ a) [] r s l e = absurd (omega arith)
same_length (x ∷ a) (y ∷ b) r s l e =
    let q : x ≡ y = ap (head_of 0) e in
    ap (λ (z : ℕ). z ∷ a) q ∙ ap (λ (z : List ℕ). y ∷ z) (same_length a b r s (omega arith) (ap tail_of e))
