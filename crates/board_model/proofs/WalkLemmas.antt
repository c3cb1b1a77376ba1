-- Walks of any length: the definition by at most so many steps finds them all.
use Rattle.std.proofs.Common.{◌≡◌, ℕ, zero, suc, ◌+◌, ◌<◌, ◌≤◌, Bool, true, false, not, ◌&&◌, ◌⊎◌, inl, inr, refl, ap, subst, arith, eq-eqb}
use Rattle.std.proofs.lemmas.Bool.{eqb-true, or_left, or_right, or_cases, and_from, and_parts, cases_Bool}
use Rattle.std.specs.Prelude.{if◌then◌else◌}
use Rattle.board_model.specs.Walks.{Walk, here, further, any_below, walk_within, leads}

lt_split : (j c : ℕ) → j < suc c → (j < c) ⊎ (j ≡ c)
lt_split j c h = grind arith

pub some_below : (c : ℕ) (test : ℕ → Bool) → any_below c test ≡ true → (j : ℕ) × (j < c) × (test j ≡ true)
some_below zero test h = absurd cc
some_below (suc c) test h = elim (or_cases (any_below c test) (test c) h) [
  | inl l ↦ let s = some_below c test l in (s.0, omega (arith, s.1), s.2)
  | inr r ↦ (c, omega arith, r)
]

pub any_below_some : (c : ℕ) (test : ℕ → Bool) (j : ℕ) → j < c → test j ≡ true → any_below c test ≡ true
any_below_some zero test j h t = absurd (omega arith)
any_below_some (suc c) test j h t = elim (lt_split j c h) [
  | inl l ↦ or_left (any_below c test) (test c) (any_below_some c test j l t)
  | inr e ↦ or_right (any_below c test) (test c) (subst (λ (x : ℕ). test x ≡ true) e t)
]

-- walks join, and turn round where steps do
pub walk_join : (step : ℕ → ℕ → Bool) (n j m : ℕ) → Walk step n j → Walk step j m → Walk step n m
walk_join step n j _ a here = a
walk_join step n j _ a (further k m b s) = further k m (walk_join step n j k a b) s

pub walk_back : (step : ℕ → ℕ → Bool) → ((a b : ℕ) → step a b ≡ true → step b a ≡ true) → (n m : ℕ) → Walk step n m → Walk step m n
walk_back step both n _ here = here
walk_back step both n _ (further k m w s) = walk_join step m k n (further m k here (both k m s)) (walk_back step both n k w)

-- a walk over steps that are steps of another kind too
pub walk_as : (step other : ℕ → ℕ → Bool) → ((a b : ℕ) → step a b ≡ true → other a b ≡ true) → (n m : ℕ) → Walk step n m → Walk other n m
walk_as step other also n _ here = here
walk_as step other also n _ (further k m w s) = further k m (walk_as step other also n k w) (also k m s)

count_below : ℕ → (ℕ → Bool) → ℕ
count_below zero test = 0
count_below (suc j) test = count_below j test + (if test j then 1 else 0)

one_of : Bool → ℕ
one_of b = if b then 1 else 0

one_most : (b : Bool) → (if b then 1 else 0) ≤ 1
one_most true = omega arith
one_most false = omega arith

one_more : (a b : Bool) → (a ≡ true → b ≡ true) → (if a then 1 else 0) ≤ (if b then 1 else 0)
one_more true b h = let e = h refl in rw e (omega arith)
one_more false true h = omega arith
one_more false false h = omega arith

count_most : (c : ℕ) (test : ℕ → Bool) → count_below c test ≤ c
unfolding count_below
count_most zero test = omega arith
count_most (suc c) test = omega (arith, count_most c test, one_most (test c))

count_grows : (c : ℕ) (a b : ℕ → Bool) → ((j : ℕ) → a j ≡ true → b j ≡ true) → count_below c a ≤ count_below c b
unfolding count_below
count_grows zero a b h = omega arith
count_grows (suc c) a b h = omega (arith, count_grows c a b h, one_more (a c) (b c) (h c))

count_more : (c : ℕ) (a b : ℕ → Bool) → ((j : ℕ) → a j ≡ true → b j ≡ true) → (j : ℕ) → j < c → a j ≡ false → b j ≡ true → count_below c a + 1 ≤ count_below c b
unfolding count_below
count_more zero a b h j l lacks did = absurd (omega arith)
count_more (suc c) a b h j l lacks did = elim (lt_split j c l) [
  | inl less ↦ omega (arith, count_more c a b h j less lacks did, one_more (a c) (b c) (h c))
  | inr e ↦
      let f : a c ≡ false = subst (λ (x : ℕ). a x ≡ false) e lacks in
      let t : b c ≡ true = subst (λ (x : ℕ). b x ≡ true) e did in
      let g = count_grows c a b h in
      rw f (rw t (omega (arith, g)))
]

module _ (count : ℕ) (step : ℕ → ℕ → Bool) where
  -- what the definition finds is a walk
  pub walk_sound : (k n m : ℕ) → walk_within count step k n m ≡ true → Walk step n m
  unfolding walk_within
  walk_sound zero n m h = subst (λ (x : ℕ). Walk step n x) (eqb-true n m h) here
  walk_sound (suc k) n m h = elim (or_cases (walk_within count step k n m) (any_below count (λ j. walk_within count step k n j && step j m)) h) [
    | inl l ↦ walk_sound k n m l
    | inr r ↦
        let s = some_below count (λ j. walk_within count step k n j && step j m) r in
        let both = and_parts (walk_within count step k n s.0) (step s.0 m) s.2 in
        further s.0 m (walk_sound k n s.0 both.0) both.1
  ]

  within_more : (k n m : ℕ) → walk_within count step k n m ≡ true → walk_within count step (suc k) n m ≡ true
  unfolding walk_within
  within_more k n m h = or_left (walk_within count step k n m) _ h

  within_step : (k n j m : ℕ) → j < count → walk_within count step k n j ≡ true → step j m ≡ true → walk_within count step (suc k) n m ≡ true
  unfolding walk_within
  within_step k n j m l w s =
      or_right (walk_within count step k n m) _ (any_below_some count (λ i. walk_within count step k n i && step i m) j l (and_from (walk_within count step k n j) (step j m) w s))

  within_here : (k n : ℕ) → walk_within count step k n n ≡ true
  unfolding walk_within
  within_here zero n = eq-eqb n n refl
  within_here (suc k) n = or_left (walk_within count step k n n) _ (within_here k n)

  -- a further step finds nothing new
  IsStable : ℕ → ℕ → Type 0
  IsStable k n = (m : ℕ) → m < count → walk_within count step (suc k) n m ≡ true → walk_within count step k n m ≡ true

  stable_next : (k n : ℕ) → IsStable k n → IsStable (suc k) n
  unfolding walk_within IsStable
  stable_next k n stable m l h = elim (or_cases (walk_within count step (suc k) n m) (any_below count (λ j. walk_within count step (suc k) n j && step j m)) h) [
    | inl a ↦ a
    | inr r ↦
        let s = some_below count (λ j. walk_within count step (suc k) n j && step j m) r in
        let both = and_parts (walk_within count step (suc k) n s.0) (step s.0 m) s.2 in
        within_step k n s.0 m s.1 (stable s.0 s.1 both.0) both.1
  ]

  nothing_new : (k n : ℕ) → any_below count (λ j. walk_within count step (suc k) n j && not (walk_within count step k n j)) ≡ false → IsStable k n
  unfolding IsStable
  nothing_new k n none m l h = elim (cases_Bool (walk_within count step k n m)) [
    | inl did ↦ did
    | inr lacks ↦
        let not_it : not (walk_within count step k n m) ≡ true = ap not lacks in
        let some = any_below_some count (λ j. walk_within count step (suc k) n j && not (walk_within count step k n j)) m l (and_from (walk_within count step (suc k) n m) (not (walk_within count step k n m)) h not_it) in
        absurd cc
  ]

  -- either each step found a new place, or nothing new is found
  grows : (k n : ℕ) → n < count → (k + 1 ≤ count_below count (walk_within count step k n)) ⊎ IsStable k n
  grows zero n l = inl (
      let h = count_more count (λ j. false) (walk_within count step 0 n) (λ j f. absurd cc) n l refl (within_here 0 n) in
      omega (arith, h))
  grows (suc k) n l = elim (grows k n l) [
    | inr stable ↦ inr (stable_next k n stable)
    | inl many ↦ elim (cases_Bool (any_below count (λ j. walk_within count step (suc k) n j && not (walk_within count step k n j)))) [
      | inl new ↦
          let s = some_below count (λ j. walk_within count step (suc k) n j && not (walk_within count step k n j)) new in
          let both = and_parts (walk_within count step (suc k) n s.0) (not (walk_within count step k n s.0)) s.2 in
          let lacks : walk_within count step k n s.0 ≡ false = grind (arith, both.1) in
          let h = count_more count (walk_within count step k n) (walk_within count step (suc k) n) (within_more k n) s.0 s.1 lacks both.0 in
          inl (omega (arith, h, many))
      | inr none ↦ inr (stable_next k n (nothing_new k n none))
    ]
  ]

  stable_at_count : (n : ℕ) → n < count → IsStable count n
  stable_at_count n l = elim (grows count n l) [
    | inl many ↦ absurd (omega (arith, many, count_most count (walk_within count step count n)))
    | inr stable ↦ stable
  ]

  -- each walk is found, where steps join places that there are
  pub walk_complete : ((a b : ℕ) → step a b ≡ true → (a < count) × (b < count)) → (n m : ℕ) → n < count → Walk step n m → leads count step n m ≡ true
  unfolding IsStable
  walk_complete there n _ l here = within_here count n
  walk_complete there n _ l (further j m w s) =
      stable_at_count n l m (there j m s).1 (within_step count n j m (there j m s).0 (walk_complete there n j l w) s)
