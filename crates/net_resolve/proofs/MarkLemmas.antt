-- Numbers that are marked, each once.
use Rattle.std.proofs.Common.{◌≡◌, ◌≢◌, ℕ, ◌+◌, ◌<◌, ◌≤◌, List, [], ◌∷◌, ◌++◌, length, Bool, true, false, ◌||◌, refl, ap, sym, ◌∙◌, arith, inl, inr, Some, eqb, eq-eqb, length-append, length-set, subst}
use Rattle.net_resolve.proofs.Common.{cases_Bool, or_parts, or-true, or-false, eqb_tells, list_any-append, Level, get_set_same, get_set_other, MarksView, has}
use Rattle.net_resolve.proofs.Common.{with_mark, Taken, Moves}
use Rattle.std.proofs.lemmas.Map.Steps.{length-le_from_distinct_below}
use Rattle.std.specs.List.{IsDistinct, AllByRecursion}
use Rattle.std.specs.Prelude.{slice_get, slice_set, option_to_list, Option, None, MatchOption, IfSome}

has_more : (ns : List ℕ) (n m : ℕ) → has (ns ++ n ∷ []) m ≡ (has ns m || (eqb m n || false))
has_more ns n m = list_any-append (eqb m) ns (n ∷ [])

pub has_last : (ns : List ℕ) (n : ℕ) → has (ns ++ n ∷ []) n ≡ true
has_last ns n = rw (has_more ns n n, eq-eqb n n refl) (or-true (has ns n))

pub has_other : (ns : List ℕ) (n m : ℕ) → m ≢ n → has (ns ++ n ∷ []) m ≡ has ns m
has_other ns n m ne = has_more ns n m ∙ elim (eqb_tells m n) [
  | inl e ↦ absurd (ne e.1)
  | inr f ↦ rw f.0 (or-false (has ns m))
]

-- what holds once n is marked
pub with_has : (ns : List ℕ) (n : ℕ) → has (with_mark n ns) n ≡ true
with_has ns n = elim (cases_Bool (has ns n)) [ inl t ↦ rw (t, t) refl | inr f ↦ rw f (has_last ns n) ]

pub with_other : (ns : List ℕ) (n m : ℕ) → m ≢ n → has (with_mark n ns) m ≡ has ns m
with_other ns n m ne = elim (cases_Bool (has ns n)) [ inl t ↦ rw t refl | inr f ↦ rw f (has_other ns n m ne) ]

pub with_less : (ns : List ℕ) (n m : ℕ) → has (with_mark n ns) m ≡ false → has ns m ≡ false
with_less ns n m h = elim (eqb_tells m n) [
  | inl e ↦
      let on : has (with_mark n ns) m ≡ true = ap (has (with_mark n ns)) e.1 ∙ with_has ns n in
      absurd cc
  | inr f ↦ sym (with_other ns n m f.1) ∙ h
]

-- a number that is not there stays once
pub distinct_push : (ns : List ℕ) (n : ℕ) → has ns n ≡ false → IsDistinct eqb ns → IsDistinct eqb (ns ++ n ∷ [])
unfolding IsDistinct
distinct_push [] n h once = (cc, cc)
distinct_push (x ∷ ns) n h once = (all ns once.0, distinct_push ns n (or_parts (eqb n x) (has ns n) h).1 once.1)
  where
    apart : eqb x n ≡ false
    apart = elim (eqb_tells x n) [
      | inl e ↦
          let on : (eqb n x || has ns n) ≡ true = rw (eq-eqb n x (sym e.1)) refl in
          absurd cc
      | inr f ↦ f.0
    ]

    all : (ys : List ℕ) → AllByRecursion (λ y. eqb x y ≡ false) ys → AllByRecursion (λ y. eqb x y ≡ false) (ys ++ n ∷ [])
    all [] h = (apart, h)
    all (y ∷ ys) h = (h.0, all ys h.1)

pub moves_put : (levels : List Level) (ms : MarksView) (n : ℕ) (x : Level) → n < length levels → slice_get levels n ≢ Some x → Moves levels (slice_set levels n x) ms (record ms { marked = with_mark n ms.marked })
moves_put levels ms n x inside ne = record {
  long = length-set levels n x;
  room = refl;
  differ = λ m h. elim (eqb_tells m n) [
    | inl e ↦ inr (λ same. ne (ap (slice_get levels) (sym e.1) ∙ sym same ∙ ap (slice_get (slice_set levels n x)) e.1 ∙ get_set_same levels n x inside))
    | inr f ↦ inl (sym (with_other ms.marked n m f.1) ∙ h)
  ];
  others = λ m h. elim (eqb_tells m n) [
    | inl e ↦
        let on : has (with_mark n ms.marked) m ≡ true = ap (has (with_mark n ms.marked)) e.1 ∙ with_has ms.marked n in
        absurd cc
    | inr f ↦ (sym (with_other ms.marked n m f.1) ∙ h, get_set_other levels n m x f.1)
  ];
}

-- a move of one place after moves of others
pub moves_then : (a b c : List Level) (before between after : MarksView) (n : ℕ) → Moves a b before between → slice_get b n ≡ slice_get a n → Moves b c between after → ((m : ℕ) → m ≢ n → slice_get c m ≡ slice_get b m) → Moves a c before after
moves_then a b c before between after n first same second only = record {
  long = second.long ∙ first.long;
  room = second.room ∙ first.room;
  differ = λ m h. elim (second.differ m h) [
    | inl earlier ↦ elim (first.differ m earlier) [
      | inl old ↦ inl old
      | inr moved ↦ elim (eqb_tells m n) [
        | inl e ↦ absurd (moved (ap (slice_get b) e.1 ∙ same ∙ ap (slice_get a) (sym e.1)))
        | inr f ↦ inr (λ back. moved (sym (only m f.1) ∙ back))
      ]
    ]
    | inr moved ↦ elim (eqb_tells m n) [
      | inl e ↦ inr (λ back. moved (back ∙ ap (slice_get a) e.1 ∙ sym same ∙ ap (slice_get b) (sym e.1)))
      | inr f ↦ absurd (moved (only m f.1))
    ]
  ];
  others = λ m h.
      let late = second.others m h in
      let early = first.others m late.0 in
      (early.0, late.1 ∙ early.1);
}

-- a number that was not marked, and whose level stands, is not marked
pub still_fresh : (old new : List Level) (before after : MarksView) (n : ℕ) → Moves old new before after → has before.marked n ≡ false → slice_get new n ≡ slice_get old n → has after.marked n ≡ false
still_fresh old new before after n moves off same = elim (cases_Bool (has after.marked n)) [
  | inl on ↦ elim (moves.differ n on) [
    | inl earlier ↦ absurd cc
    | inr moved ↦ absurd (moved same)
  ]
  | inr none ↦ none
]

pub has_rest : (ns : List ℕ) (n m : ℕ) → has ns m ≡ true → has (n ∷ ns) m ≡ true
has_rest ns n m h = elim (cases_Bool (eqb m n)) [ inl t ↦ rw t refl | inr f ↦ rw (f, h) refl ]

pub has_first : (ns : List ℕ) (n m : ℕ) → m ≡ n → has (n ∷ ns) m ≡ true
has_first ns n m e = let same : eqb m n ≡ true = eq-eqb m n e in rw same refl

-- there is room for a number that is not marked
pub room_left : (ns : List ℕ) (room n : ℕ) → n < room → has ns n ≡ false → IsDistinct eqb ns → ((m : ℕ) → has ns m ≡ true → m < room) → length ns < room
room_left ns room n l none once low =
    let most : length (ns ++ n ∷ []) ≤ room = length-le_from_distinct_below (ns ++ n ∷ []) room (distinct_push ns n none once) (λ m h. elim (eqb_tells m n) [
      | inl e ↦ omega (arith, l, e.1)
      | inr f ↦ low m (sym (has_other ns n m f.1) ∙ h)
    ]) in
    omega (arith, most, length-append ns (n ∷ []))

pub flagged_more : (flags : List Bool) (ns : List ℕ) (n : ℕ) → n < length flags → ((m : ℕ) → m < length flags → slice_get flags m ≡ Some (has ns m)) →
    (m : ℕ) → m < length flags → slice_get (slice_set flags n true) m ≡ Some (has (ns ++ n ∷ []) m)
flagged_more flags ns n l flagged m h = elim (eqb_tells m n) [
  | inl e ↦ ap (slice_get (slice_set flags n true)) e.1 ∙ get_set_same flags n true l ∙ ap Some (sym (ap (has (ns ++ n ∷ [])) e.1 ∙ has_last ns n))
  | inr f ↦ get_set_other flags n m true f.1 ∙ flagged m h ∙ ap Some (sym (has_other ns n m f.1))
]

pub low_more : (ns : List ℕ) (n room : ℕ) → n < room → ((m : ℕ) → has ns m ≡ true → m < room) → (m : ℕ) → has (ns ++ n ∷ []) m ≡ true → m < room
low_more ns n room l low m h = elim (eqb_tells m n) [
  | inl e ↦ omega (arith, l, e.1)
  | inr f ↦ low m (sym (has_other ns n m f.1) ∙ h)
]

pub distinct_none : IsDistinct eqb []
unfolding IsDistinct
distinct_none = cc

-- a list without its last number
distinct_left : (ns : List ℕ) (n : ℕ) → IsDistinct eqb (ns ++ n ∷ []) → IsDistinct eqb ns × (has ns n ≡ false)
unfolding IsDistinct
distinct_left [] n once = (cc, refl)
distinct_left (x ∷ ns) n once =
    let rest = distinct_left ns n once.1 in (
      (front ns once.0, rest.0),
      elim (eqb_tells n x) [
        | inl e ↦
            let on : eqb x n ≡ true = eq-eqb x n (sym e.1) in
            let off : eqb x n ≡ false = last ns once.0 in
            absurd cc
        | inr f ↦ rw f.0 rest.1
      ],
    )
  where
    front : (ys : List ℕ) → AllByRecursion (λ y. eqb x y ≡ false) (ys ++ n ∷ []) → AllByRecursion (λ y. eqb x y ≡ false) ys
    front [] h = cc
    front (y ∷ ys) h = (h.0, front ys h.1)

    last : (ys : List ℕ) → AllByRecursion (λ y. eqb x y ≡ false) (ys ++ n ∷ []) → eqb x n ≡ false
    last [] h = h.0
    last (y ∷ ys) h = last ys h.1

first_or_last : (ns : List ℕ) (n m : ℕ) → has (n ∷ ns) m ≡ has (ns ++ n ∷ []) m
first_or_last ns n m = elim (eqb_tells m n) [
  | inl e ↦ has_first ns n m e.1 ∙ sym (ap (has (ns ++ n ∷ [])) e.1 ∙ has_last ns n)
  | inr f ↦ rw f.0 (sym (has_other ns n m f.1))
]

no_numbers : (ns : List ℕ) → length ns ≡ 0 → ns ≡ []
no_numbers [] e = refl
no_numbers (n ∷ ns) e = absurd (omega (arith, e))

-- what a pop leaves of numbers, each once
module _ (old new : List ℕ) where
  pub popped : (r : Option ℕ) (was is : ℕ) → old ≡ new ++ option_to_list r → MatchOption r ((was ≡ 0) × (is ≡ 0)) (λ _. is + 1 ≡ was) → was ≡ length old → is ≡ length new → IsDistinct eqb old →
      MatchOption r ((old ≡ []) × (new ≡ [])) (λ n. Taken n old new)
  popped None was is e cases lo ln once = (no_numbers old (sym lo ∙ cases.0), no_numbers new (sym ln ∙ cases.1))
  popped (Some n) was is e cases lo ln once = record {
    rest = λ m. first_or_last new n m ∙ ap (λ (ns : List ℕ). has ns m) (sym e);
    gone = (distinct_left new n (subst (λ (ns : List ℕ). IsDistinct eqb ns) e once)).1;
    fewer = omega (arith, cases, lo, ln);
  }

  pub popped_had : (r : Option ℕ) → old ≡ new ++ option_to_list r → (m : ℕ) → has new m ≡ true → has old m ≡ true
  popped_had r e m h = ap (λ (ns : List ℕ). has ns m) e ∙ list_any-append (eqb m) new (option_to_list r) ∙ rw h refl

  pub popped_once : (r : Option ℕ) (was is : ℕ) → old ≡ new ++ option_to_list r → MatchOption r ((was ≡ 0) × (is ≡ 0)) (λ _. is + 1 ≡ was) → is ≡ length new → IsDistinct eqb old → IsDistinct eqb new
  popped_once None was is e cases ln once = subst (λ (ns : List ℕ). IsDistinct eqb ns) (sym (no_numbers new (sym ln ∙ cases.1))) distinct_none
  popped_once (Some n) was is e cases ln once = (distinct_left new n (subst (λ (ns : List ℕ). IsDistinct eqb ns) e once)).0

  pub popped_low : (r : Option ℕ) (room : ℕ) → old ≡ new ++ option_to_list r → ((m : ℕ) → has old m ≡ true → m < room) → IfSome r (λ n. n < room)
  popped_low None room e low = cc
  popped_low (Some n) room e low = low n (ap (λ (ns : List ℕ). has ns n) e ∙ has_last new n)
