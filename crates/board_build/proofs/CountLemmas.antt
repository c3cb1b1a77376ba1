-- Counting the parts that pass a test, one after the other.
use Rattle.std.proofs.Common.{◌≡◌, ◌+◌, ◌-◌, ◌<◌, ◌≤◌, ℕ, suc, List, [], ◌∷◌, length, drop, get_or, Bool, true, false, refl, ap, sym, ◌∙◌, add-one, Result, Ok, Err, slice_get, arith}
use Rattle.std.proofs.lemmas.List.{drop_more, drop_all}
use Rattle.sim_base.specs.declared.fault.Refusal.{Refusal}
use Rattle.sim_base.specs.declared.fault.Place.TheVariants as places
use Rattle.sim_refusals.specs.Refusals.{BoardCount}
use Rattle.document_model.specs.Reading.{refusal}
use Rattle.board_build.specs.Parts.{numbers_from, one_of}

-- what the numbers of further Unos make, where one was found or none
abbrev pub judged : Bool → List ℕ → Result (Unit {0}) Refusal
judged false ns = one_of ns
judged true [] = Ok tt
judged true (n ∷ ns) = Err (refusal BoardCount (places.Part n))

-- the numbers from place i on, where the item there passes, where it does not, and at the end
pub numbers_yes : {A : Type 0} (test : A → Bool) (xs : List A) (i : ℕ) (d : A) → i < length xs → test (get_or xs i d) ≡ true →
    numbers_from test (i + 1) (drop i xs) ≡ (i + 1) ∷ numbers_from test (i + 1 + 1) (drop (i + 1) xs)
unfolding numbers_from
numbers_yes test xs i d l h = rw (drop_more xs i d l, h, add-one (i + 1)) refl

pub numbers_no : {A : Type 0} (test : A → Bool) (xs : List A) (i : ℕ) (d : A) → i < length xs → test (get_or xs i d) ≡ false →
    numbers_from test (i + 1) (drop i xs) ≡ numbers_from test (i + 1 + 1) (drop (i + 1) xs)
unfolding numbers_from
numbers_no test xs i d l h = rw (drop_more xs i d l, h, add-one (i + 1)) refl

pub numbers_end : {A : Type 0} (test : A → Bool) (xs : List A) (i k : ℕ) → length xs ≤ i → numbers_from test k (drop i xs) ≡ []
unfolding numbers_from
numbers_end test xs i k h = rw (drop_all i xs h) refl

-- the first Uno of all was found
pub judged_first : (found new : Bool) (n : ℕ) (before after : List ℕ) (all : Result (Unit {0}) Refusal) → found ≡ false → new ≡ true → before ≡ n ∷ after →
    judged found before ≡ all → judged new after ≡ all
judged_first found new n before after all no_uno now is so_far = rw now (opened after ∙ sym (ap (λ (b : Bool). judged b (n ∷ after)) no_uno) ∙ sym (ap (judged found) is) ∙ so_far)
  where
    opened : (after : List ℕ) → judged true after ≡ judged false (n ∷ after)
    opened [] = refl
    opened (m ∷ ns) = refl

pub judged_same : (found new : Bool) (before after : List ℕ) (all : Result (Unit {0}) Refusal) → new ≡ found → before ≡ after → judged found before ≡ all → judged new after ≡ all
judged_same found new before after all same is so_far = rw same (sym (ap (judged found) is) ∙ so_far)

pub judged_as : (found known : Bool) (numbers is : List ℕ) (all : Result (Unit {0}) Refusal) → found ≡ known → numbers ≡ is → judged found numbers ≡ all → all ≡ judged known is
judged_as found known numbers is all f n so_far = sym so_far ∙ ap (λ (b : Bool). judged b numbers) f ∙ ap (judged known) n

-- the ninth of a list is the eighth after its first
pub ninth_later : (n x : ℕ) (before after : List ℕ) → n < 8 → before ≡ x ∷ after → slice_get before (8 - n) ≡ slice_get after (8 - (n + 1))
ninth_later n x before after h is =
    let e : 8 - n ≡ suc (8 - (n + 1)) = omega arith in
    ap (λ (l : List ℕ). slice_get l (8 - n)) is ∙ ap (λ (k : ℕ). slice_get (x ∷ after) k) e
