-- Labels that tell the nets of pairs give the numbers of the definition.
use Rattle.std.proofs.Common.{◌≡◌, ◌≢◌, ℕ, zero, suc, ◌+◌, ◌<◌, ◌≤◌, List, [], ◌∷◌, ◌++◌, length, map, filter, Bool, true, false, get_or, set, refl, ap, sym, ◌∙◌, subst, arith, inl, inr, ◌⊎◌, eq-eqb, add-one, length-append}
use Rattle.std.specs.Prelude.{◌==◌, if◌then◌else◌}
use Rattle.std.specs.List.{All, position_or_len}
use Rattle.std.proofs.lemmas.Bool.{eqb-true, eqb-false, cases_lt, cases_Bool}
use Rattle.std.proofs.lemmas.List.{get_or-map, length-map, append-nil, map-append, ext_get_or}
use Rattle.std.proofs.lemmas.List.Elements.{filter-append}
use Rattle.std.proofs.lemmas.List.Folds.{position_or_len_push}
use Rattle.std.proofs.lemmas.Option.{get_or_from_slice_get, slice_get_within}
use Rattle.board_model.specs.Pairs.{ArePairs}
use Rattle.board_model.specs.Walks.{Walk, here, further, below, any_below}
use Rattle.board_model.specs.Nets.{joined_by}
use Rattle.board_model.proofs.WalkLemmas.{some_below, any_below_some, walk_sound, walk_complete}
use Rattle.board_model.proofs.Lists.{length-below, get-below, get_within, some_same}
use Rattle.net_union_find.specs.Forest.{AreLabels, AreClasses}
use Rattle.net_union_find.proofs.PairLemmas.{joined_bounds}
use Rattle.net_pins.specs.Labels.{IsBelow, is_own, owns, numbered}
use Rattle.net_pins.specs.Numbering.{is_one_net, is_first, first_pins, number_of_net, net_numbers, net_count}
use Rattle.net_pins.proofs.FillLemmas.{Filled, filled_none, filled_next}

-- numbers below another that pass a test
abbrev pub passing : (ℕ → Bool) → ℕ → List ℕ
passing test m = filter test (below m)

pub passing_yes : (test : ℕ → Bool) (m : ℕ) → test m ≡ true → passing test (suc m) ≡ passing test m ++ m ∷ []
passing_yes test m h = filter-append test (below m) (m ∷ []) ∙ ap (λ (b : Bool). passing test m ++ (if b then m ∷ [] else [])) h

pub passing_no : (test : ℕ → Bool) (m : ℕ) → test m ≡ false → passing test (suc m) ≡ passing test m
passing_no test m h = filter-append test (below m) (m ∷ []) ∙ ap (λ (b : Bool). passing test m ++ (if b then m ∷ [] else [])) h ∙ append-nil (passing test m)

-- two tests that agree below a number pass the same
passing_same : (f g : ℕ → Bool) (m : ℕ) → ((q : ℕ) → q < m → f q ≡ g q) → passing f m ≡ passing g m
passing_same f g zero same = refl
passing_same f g (suc m) same =
    let before : passing f m ≡ passing g m = passing_same f g m (λ q (h : q < m). same q (omega arith)) in
    let e : f m ≡ g m = same m (omega arith) in
    elim (cases_Bool (g m)) [
      | inl t ↦ passing_yes f m (e ∙ t) ∙ ap (λ (l : List ℕ). l ++ m ∷ []) before ∙ sym (passing_yes g m t)
      | inr n ↦ passing_no f m (e ∙ n) ∙ before ∙ sym (passing_no g m n)
    ]

-- one that passes is counted
counted : (test : ℕ → Bool) (x : ℕ) → test x ≡ true → (m : ℕ) → x < m → length (passing test x) + 1 ≤ length (passing test m)
counted test x h zero l = absurd (omega arith)
counted test x h (suc m) l = elim (cases_lt x m) [
  | inl less ↦
      let before = counted test x h m less in
      elim (cases_Bool (test m)) [
        | inl t ↦ rw (passing_yes test m t) (omega (arith, before, length-append (passing test m) (m ∷ [])))
        | inr n ↦ rw (passing_no test m n) before
      ]
  | inr most ↦
      let e : m ≡ x = omega arith in
      subst (λ (y : ℕ). length (passing test x) + 1 ≤ length (passing test (suc y))) (sym e)
      (rw (passing_yes test x h) (omega (arith, length-append (passing test x) (x ∷ []))))
]

-- where none below a number passes a second test, it finds none
found_none : (f t : ℕ → Bool) (m : ℕ) → ((q : ℕ) → q < m → f q ≡ true → t q ≡ false) → position_or_len t (passing f m) ≡ length (passing f m)
found_none f t zero none = refl
found_none f t (suc m) none =
    let before : position_or_len t (passing f m) ≡ length (passing f m) = found_none f t m (λ q (h : q < m) g. none q (omega arith) g) in
    elim (cases_Bool (f m)) [
      | inl yes_f ↦
          let no_t : t m ≡ false = none m (omega arith) yes_f in
          let same = eq-eqb (position_or_len t (passing f m)) (length (passing f m)) before in
          rw (passing_yes f m yes_f, position_or_len_push t (passing f m) m, same, no_t) (sym (length-append (passing f m) (m ∷ [])))
      | inr no_f ↦ rw (passing_no f m no_f) before
    ]

-- the place of the first that passes a second test among those that pass a first one
found_at : (f t : ℕ → Bool) (x : ℕ) → f x ≡ true → t x ≡ true → ((q : ℕ) → q < x → f q ≡ true → t q ≡ false) → (m : ℕ) → x < m →
    position_or_len t (passing f m) ≡ length (passing f x)
found_at f t x fx tx none zero l = absurd (omega arith)
found_at f t x fx tx none (suc m) l = elim (cases_lt x m) [
  | inl less ↦
      let before = found_at f t x fx tx none m less in
      elim (cases_Bool (f m)) [
        | inl yes_f ↦
            let count = counted f x fx m less in
            let apart : (position_or_len t (passing f m) == length (passing f m)) ≡ false = not_equal _ _ (omega (arith, count, before)) in
            rw (passing_yes f m yes_f, position_or_len_push t (passing f m) m, apart) before
        | inr no_f ↦ rw (passing_no f m no_f) before
      ]
  | inr most ↦
      let e : m ≡ x = omega arith in
      let before = found_none f t x none in
      let same = eq-eqb (position_or_len t (passing f x)) (length (passing f x)) before in
      subst (λ (y : ℕ). position_or_len t (passing f (suc y)) ≡ length (passing f x)) (sym e)
      (rw (passing_yes f x fx, position_or_len_push t (passing f x) x, same, tx) (omega arith))
]
  where
    not_equal : (a b : ℕ) → a < b → (a == b) ≡ false
    not_equal a b h = elim (cases_Bool (a == b)) [
      | inl t ↦ let e = eqb-true a b t in absurd (omega arith)
      | inr f ↦ f
    ]

-- a step joins the two pins of one of the pairs
pub pairs_below : (count : ℕ) (pairs : List (ℕ × ℕ)) → All (IsBelow count) pairs → ArePairs count pairs
pairs_below count pairs inside k c e =
    let l = slice_get_within pairs k c e in
    subst (IsBelow count) (some_same (sym (get_within pairs k (0, 0) l) ∙ e)) (inside k (0, 0) l)

module _ (pairs : List (ℕ × ℕ)) (labels : List ℕ) (inside : All (IsBelow (length labels)) pairs) (classes : AreClasses (joined_by pairs) labels) where
  abbrev n : ℕ
  n = length labels

  abbrev label : ℕ → ℕ
  label p = get_or labels p 0

  step_same : (p q : ℕ) → joined_by pairs p q ≡ true → (p < n) × (q < n) × (label p ≡ label q)
  step_same p q h = let b = joined_bounds n pairs (pairs_below n pairs inside) p q h in (b.0, b.1, classes.same p q h)

  walk_same : (p q : ℕ) → Walk (joined_by pairs) p q → label p ≡ label q
  walk_same p _ here = refl
  walk_same p _ (further j q w s) = walk_same p j w ∙ (step_same j q s).2

  leads_same : (p q : ℕ) → is_one_net pairs n p q ≡ true → label p ≡ label q
  leads_same p q h = walk_same p q (walk_sound n (joined_by pairs) n p q h)

  leads_there : (p q : ℕ) → p < n → q < n → label p ≡ label q → is_one_net pairs n p q ≡ true
  leads_there p q hp hq e =
      walk_complete n (joined_by pairs) (λ a b h. let s = step_same a b h in (s.0, s.1)) p q hp (classes.walks p q hp hq e)

  label_in : (p : ℕ) → p < n → label p < n
  label_in p h = let l = classes.labels.forest p in omega arith

  own_label : (p : ℕ) → p < n → is_own labels (label p) ≡ true
  own_label p h = eq-eqb (label (label p)) (label p) (classes.labels.flat p h)

  first_own : (p : ℕ) → p < n → is_first pairs n p ≡ is_own labels p
  first_own p h = elim (cases_Bool (label p == p)) [
    | inl own ↦
        let e = eqb-true (label p) p own in
        elim (cases_Bool (any_below p (λ q. is_one_net pairs n q p))) [
          | inl some ↦
              let s = some_below p (λ q. is_one_net pairs n q p) some in
              let same = leads_same s.0 p s.2 in
              let inside : s.0 < n = omega (arith, s.1) in
              let least = classes.labels.forest s.0 in
              absurd (omega (arith, s.1))
          | inr none ↦ rw (none, own) refl
        ]
    | inr other ↦
        let l = classes.labels.forest p in
        let ne = eqb-false (label p) p other in
        let less : label p < p = omega (arith, ne) in
        let there = leads_there (label p) p (label_in p h) h (classes.labels.flat p h) in
        let some = any_below_some p (λ q. is_one_net pairs n q p) (label p) less there in
        rw (some, other) refl
  ]

  firsts_own : first_pins pairs n ≡ passing (is_own labels) n
  unfolding first_pins
  firsts_own = passing_same (is_first pairs n) (is_own labels) n first_own

  pub count_own : net_count pairs n ≡ owns labels n
  unfolding owns
  count_own = ap (λ (l : List ℕ). length l) firsts_own

  number_own : (p : ℕ) → p < n → number_of_net pairs n p ≡ owns labels (label p)
  unfolding owns
  number_own p h =
      let there = leads_there (label p) p (label_in p h) h (classes.labels.flat p h) in
      ap (λ (l : List ℕ). position_or_len (λ q. is_one_net pairs n q p) l) firsts_own
      ∙ found_at (is_own labels) (λ q. is_one_net pairs n q p) (label p) (own_label p h) there
      (λ q (l : q < label p) own. before q l own (cases_Bool (is_one_net pairs n q p))) n (label_in p h)
    where
      before : (q : ℕ) → q < label p → is_own labels q ≡ true → (is_one_net pairs n q p ≡ true) ⊎ (is_one_net pairs n q p ≡ false) → is_one_net pairs n q p ≡ false
      before q l own (inl yes_one) = let e = eqb-true (label q) q own in let same = leads_same q p yes_one in absurd (omega arith)
      before q l own (inr not_one) = not_one

  maps_same : (f g : ℕ → ℕ) (m : ℕ) → ((q : ℕ) → q < m → f q ≡ g q) → map f (below m) ≡ map g (below m)
  maps_same f g zero same = refl
  maps_same f g (suc m) same =
      map-append f (below m) (m ∷ [])
      ∙ ap (λ (l : List ℕ). l ++ f m ∷ []) (maps_same f g m (λ q (h : q < m). same q (omega arith)))
      ∙ ap (λ (x : ℕ). map g (below m) ++ x ∷ []) (same m (omega arith))
      ∙ sym (map-append g (below m) (m ∷ []))

  pub numbers_own : net_numbers pairs n ≡ numbered labels
  unfolding net_numbers numbered
  numbers_own = maps_same (number_of_net pairs n) (λ p. owns labels (label p)) n number_own

-- counting one pin after the other
pub owns_none : (labels : List ℕ) → owns labels 0 ≡ 0
unfolding owns
owns_none labels = refl

pub owns_own : (labels : List ℕ) (p : ℕ) → get_or labels p 0 ≡ p → owns labels (p + 1) ≡ owns labels p + 1
unfolding owns
owns_own labels p e =
    rw (add-one p, passing_yes (is_own labels) p (eq-eqb (get_or labels p 0) p e)) (length-append (passing (is_own labels) p) (p ∷ []))

pub owns_other : (labels : List ℕ) (p : ℕ) → get_or labels p 0 ≢ p → owns labels (p + 1) ≡ owns labels p
unfolding owns
owns_other labels p ne = elim (cases_Bool (is_own labels p)) [
  | inl t ↦ absurd (ne (eqb-true (get_or labels p 0) p t))
  | inr f ↦ rw (add-one p, passing_no (is_own labels) p f) refl
]

pub get_or-below : (n p : ℕ) → p < n → get_or (below n) p 0 ≡ p
get_or-below n p h = get_or_from_slice_get (below n) p p 0 (get-below n p h)

-- a list with the numbers in all places is the list of them
pub all_numbered : (labels xs : List ℕ) (i : ℕ) → length xs ≡ length labels → length labels ≤ i → Filled (λ p. owns labels (get_or labels p 0)) labels xs i → xs ≡ numbered labels
unfolding numbered
all_numbered labels xs i e h filled =
    let f : ℕ → ℕ = λ p. owns labels (get_or labels p 0) in
    let len : length (map f (below (length labels))) ≡ length labels = length-map (below (length labels)) f ∙ length-below (length labels) in
    ext_get_or 0 xs (map f (below (length labels))) (e ∙ sym len)
    (λ p (l : p < length xs).
    let inside : p < length labels = omega arith in
    let done : p < i = omega arith in
    let within : p < length (below (length labels)) = rw (length-below (length labels)) inside in
    filled.done p done ∙ ap f (sym (get_or-below (length labels) p inside)) ∙ sym (get_or-map f (below (length labels)) p 0 0 within))

-- the state of the loop that numbers: the numbers before a pin, and how many there are
pub record Numbered (labels now : List ℕ) (pin nets : ℕ) : Type 0 where
  pub filled : Filled (λ p. owns labels (get_or labels p 0)) labels now pin
  pub count : nets ≡ owns labels pin
  pub few : nets ≤ pin

pub numbered_begun : (labels : List ℕ) → Numbered labels labels 0 0
numbered_begun labels = record { filled = filled_none _ labels; count = sym (owns_none labels); few = omega arith }

pub numbered_own : (labels now : List ℕ) (pin nets : ℕ) → Numbered labels now pin nets → pin < length now → get_or now pin 0 ≡ pin →
    Numbered labels (set now pin nets) (pin + 1) (nets + 1)
numbered_own labels now pin nets state inside e =
    let own : get_or labels pin 0 ≡ pin = sym (state.filled.left pin (omega arith)) ∙ e in
    let value : nets ≡ owns labels (get_or labels pin 0) = state.count ∙ ap (owns labels) (sym own) in
    record {
      filled = filled_next (λ p. owns labels (get_or labels p 0)) labels now pin nets state.filled inside value;
      count = omega (arith, state.count, owns_own labels pin own);
      few = omega (arith, state.few);
    }

pub numbered_other : (labels now : List ℕ) (pin nets : ℕ) → AreLabels labels → Numbered labels now pin nets → pin < length now → length now ≡ length labels → get_or now pin 0 ≢ pin →
    Numbered labels (set now pin (get_or now (get_or now pin 0) 0)) (pin + 1) nets
numbered_other labels now pin nets least state inside same ne =
    let here : get_or now pin 0 ≡ get_or labels pin 0 = state.filled.left pin (omega arith) in
    let within : pin < length labels = omega arith in
    let most : get_or labels pin 0 ≤ pin = least.forest pin in
    let other : get_or labels pin 0 ≢ pin = λ (h : get_or labels pin 0 ≡ pin). ne (here ∙ h) in
    let less : get_or labels pin 0 < pin = omega arith in
    let value : get_or now (get_or now pin 0) 0 ≡ owns labels (get_or labels pin 0) =
    ap (λ (x : ℕ). get_or now x 0) here ∙ state.filled.done (get_or labels pin 0) less ∙ ap (owns labels) (least.flat pin within) in
    record {
      filled = filled_next (λ p. owns labels (get_or labels p 0)) labels now pin _ state.filled inside value;
      count = state.count ∙ sym (owns_other labels pin other);
      few = omega (arith, state.few);
    }
