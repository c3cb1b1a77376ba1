-- What is read of parts part by part, each at its place.
use Rattle.board_run.proofs.Common.{◌≡◌, ◌≢◌, ◌⊎◌, inl, inr, ℕ, zero, suc, ◌+◌, ◌-◌, ◌<◌, ◌≤◌, List, [], ◌∷◌, ◌++◌, length, map, take, Bool, true, false, Some}
use Rattle.board_run.proofs.Common.{refl, ap, sym, ◌∙◌, arith, add-one, append_assoc, length-append, length-set, ◌==◌, min, not, slice_get, slice_set}
use Rattle.board_run.proofs.Common.{flat_map, map-set, take-set, slice_get_within, Level, Drive, Wiring, Machine, drives_of, contacts_of, same_list}
use Rattle.board_run.proofs.Common.{same_level, Fits, some_same, lt_or_eq, get_set_same, get_set_other, take_whole, some_map, same_lists, level_same}
use Rattle.board_run.proofs.Common.{list_same, levels_mean, NetsView, AreChanged, has, ReadingView, Suits, IsOf, retold, HasAt, Put, Gathered, IsTold}
use Rattle.board_run.proofs.Common.{AreDiffering, levels_on, PartSet, has_part}
use Rattle.part_law.specs.declared.span.Span.{Span}
use Rattle.part_law.specs.Spans.{IsIn}

-- one more item
pub put_more : {A : Type 0} (at n : ℕ) (items old mid : List A) (x : A) → Put at n items old mid → slice_get items n ≡ Some x → at + n < length mid → Put at (n + 1) items old (slice_set mid (at + n) x)
put_more at n items old mid x put ex room = record {
  long = length-set mid (at + n) x ∙ put.long;
  here = λ j h. elim (lt_or_eq j n h) [
    | inl less ↦
        let other : at + j ≢ at + n = omega arith in
        get_set_other mid (at + n) (at + j) x other ∙ put.here j less
    | inr same ↦
        ap (λ (i : ℕ). slice_get (slice_set mid (at + n) x) (at + i)) same ∙ get_set_same mid (at + n) x room ∙ sym ex ∙ ap (slice_get items) (sym same)
  ];
  before = λ j h. let other : j ≢ at + n = omega arith in get_set_other mid (at + n) j x other ∙ put.before j h;
  after = λ j h. let other : j ≢ at + n = omega arith in get_set_other mid (at + n) j x other ∙ put.after j (omega arith);
}

-- what is there already
pub put_there : {A : Type 0} (at : ℕ) (items xs : List A) → HasAt at items xs → Put at (length items) items xs xs
put_there at items xs has = record { long = refl; here = has; before = λ j h. refl; after = λ j h. refl }

pub less_or : (j n : ℕ) → (j < n) ⊎ (n ≤ j)
less_or j n = grind arith

-- the pins of a span were put, and the others were there
pub span_put : {A : Type 0} (items old new : List A) (span : Span) (place n from to : ℕ) → n ≡ length items → n ≤ 255 → to ≡ min span.to n → from ≡ min span.from to → length new ≡ length old →
    ((j : ℕ) → from ≤ j → j < to → slice_get new (place + j) ≡ slice_get items j) → ((x : ℕ) → (x < place + from) ⊎ (place + to ≤ x) → slice_get new x ≡ slice_get old x) →
    ((j : ℕ) → j < length items → j < 255 → ¬ IsIn span j → slice_get old (place + j) ≡ slice_get items j) → Put place (length items) items old new
span_put items old new span place n from to count few is_to is_from long told rest others = record {
  long = long;
  here = λ j h. elim (less_or j from) [
    | inl before ↦ rest (place + j) (inl (omega (arith, before))) ∙ others j h (omega (arith, h, count, few)) (λ i. let a = i.0 in grind (arith, a, before, is_from, is_to))
    | inr after ↦ elim (less_or j to) [
      | inl inside ↦ told j after inside
      | inr beyond ↦ rest (place + j) (inr (omega (arith, beyond))) ∙ others j h (omega (arith, h, count, few)) (λ i. let b = i.1 in grind (arith, b, beyond, is_to, h, count))
    ]
  ];
  before = λ j h. rest j (inl (omega (arith, h)));
  after = λ j h. rest j (inr (let l : to ≤ n = grind (arith, is_to) in omega (arith, h, count, l)));
}

-- the pins of a span have what was there, and so have the others
pub span_there : {A : Type 0} (items old : List A) (span : Span) (place n from to : ℕ) → n ≡ length items → n ≤ 255 → to ≡ min span.to n → from ≡ min span.from to →
    ((j : ℕ) → from ≤ j → j < to → slice_get old (place + j) ≡ slice_get items j) →
    ((j : ℕ) → j < length items → j < 255 → ¬ IsIn span j → slice_get old (place + j) ≡ slice_get items j) → HasAt place items old
span_there items old span place n from to count few is_to is_from there others j h = elim (less_or j from) [
  | inl before ↦ others j h (omega (arith, h, count, few)) (λ i. let a = i.0 in grind (arith, a, before, is_from, is_to))
  | inr after ↦ elim (less_or j to) [
    | inl inside ↦ there j after inside
    | inr beyond ↦ others j h (omega (arith, h, count, few)) (λ i. let b = i.1 in grind (arith, b, beyond, is_to, h, count))
  ]
]

get_left : {B : Type 0} (xs ys : List B) (j : ℕ) → j < length xs → slice_get (xs ++ ys) j ≡ slice_get xs j
get_left [] ys j h = absurd (omega arith)
get_left (x ∷ xs) ys zero h = refl
get_left (x ∷ xs) ys (suc j) h = get_left xs ys j (omega arith)

get_right : {B : Type 0} (xs ys : List B) (j : ℕ) → slice_get (xs ++ ys) (length xs + j) ≡ slice_get ys j
get_right [] ys j = let e : 0 + j ≡ j = omega arith in ap (slice_get ys) e
get_right (x ∷ xs) ys j = let e : suc (length xs) + j ≡ suc (length xs + j) = omega arith in ap (slice_get (x ∷ (xs ++ ys))) e ∙ get_right xs ys j

-- items that were put in place of as many between two lists
put_between : {B : Type 0} (front was items after old xs : List B) (at : ℕ) → length items ≡ length was → at ≡ length front → old ≡ front ++ (was ++ after) →
    Put at (length items) items old xs → xs ≡ front ++ (items ++ after)
put_between {B} front was items after old xs at long place is put =
    let as_long : length (front ++ (was ++ after)) ≡ length (front ++ (items ++ after)) = simp length-append (omega (arith, long)) in
    same_lists xs (front ++ (items ++ after)) (put.long ∙ ap length is ∙ as_long) (λ x a b ea eb. some_same (sym ea ∙ here x ∙ eb))
  where
    here : (x : ℕ) → slice_get xs x ≡ slice_get (front ++ (items ++ after)) x
    here x = elim (less_or x at) [
      | inl less ↦
          let l : x < length front = omega (arith, less, place) in
          put.before x less ∙ ap (λ (l : List B). slice_get l x) is ∙ get_left front (was ++ after) x l ∙ sym (get_left front (items ++ after) x l)
      | inr from ↦ elim (less_or x (at + length items)) [
        | inl inside ↦
            let e : at + (x - at) ≡ x = omega (arith, from) in
            let g : length front + (x - at) ≡ x = omega (arith, from, place) in
            let within : x - at < length items = omega (arith, from, inside) in
            ap (slice_get xs) (sym e) ∙ put.here (x - at) within ∙ sym (get_left items after (x - at) within)
            ∙ sym (get_right front (items ++ after) (x - at)) ∙ ap (slice_get (front ++ (items ++ after))) g
        | inr beyond ↦
            let past = λ (ys : List B) (same : length ys ≡ length items).
            let n : x ≡ length front + (length ys + (x - at - length items)) = omega (arith, beyond, place, same) in
            ap (slice_get (front ++ (ys ++ after))) n ∙ get_right front (ys ++ after) (length ys + (x - at - length items))
            ∙ get_right ys after (x - at - length items) in
            put.after x beyond ∙ ap (λ (l : List B). slice_get l x) is ∙ past was (sym long) ∙ sym (past items refl)
      ]
    ]

module _ {S B : Type 0} (f : S → List B) where
  -- all items, and those where one part has others: the same before them and behind them
  flat_set : (ss : List S) (i : ℕ) (s new : S) → slice_get ss i ≡ Some s →
      (after : List B) × (flat_map f ss ≡ flat_map f (take i ss) ++ (f s ++ after))
      × (flat_map f (slice_set ss i new) ≡ flat_map f (take i ss) ++ (f new ++ after))
  flat_set [] i s new e = absurd cc
  flat_set (y ∷ ss) zero s new e = (flat_map f ss, ap (λ (z : S). f z ++ flat_map f ss) (some_same e), refl)
  flat_set (y ∷ ss) (suc i) s new e =
      let (after, was, is) = flat_set ss i s new e in (
        after,
        ap (λ (l : List B). f y ++ l) was ∙ sym (append_assoc (f y) (flat_map f (take i ss)) (f s ++ after)),
        ap (λ (l : List B). f y ++ l) is ∙ sym (append_assoc (f y) (flat_map f (take i ss)) (f new ++ after)),
      )

  -- the place after one more part
  pub place_more : (ss : List S) (i : ℕ) (s : S) → slice_get ss i ≡ Some s → length (flat_map f (take (i + 1) ss)) ≡ length (flat_map f (take i ss)) + length (f s)
  place_more ss i s es = rw add-one (more ss i es)
    where
      more : (ss : List S) (i : ℕ) → slice_get ss i ≡ Some s → length (flat_map f (take (suc i) ss)) ≡ length (flat_map f (take i ss)) + length (f s)
      more [] i e = absurd cc
      more (x ∷ ss) zero e =
          let a : length (f x) ≡ length (f s) = ap (λ (z : S). length (f z)) (some_same e) in
          omega (arith, length-append (f x) (flat_map f []), a)
      more (x ∷ ss) (suc i) e =
          omega (arith, length-append (f x) (flat_map f (take (suc i) ss)), length-append (f x) (flat_map f (take i ss)), more ss i e)

  -- an item of part i among those of all
  pub flat_get : (ss : List S) (i : ℕ) (s : S) (j : ℕ) → slice_get ss i ≡ Some s → j < length (f s) → slice_get (flat_map f ss) (length (flat_map f (take i ss)) + j) ≡ slice_get (f s) j
  flat_get ss i s j e h =
      let (after, was, is) = flat_set ss i s s e in
      let before = flat_map f (take i ss) in
      ap (λ (l : List B). slice_get l (length before + j)) was ∙ get_right before (f s ++ after) j ∙ get_left (f s) after j h

  -- parts with as much room stand at the same places
  same_place : (xs ys : List S) → length xs ≡ length ys → ((k : ℕ) (x y : S) → slice_get xs k ≡ Some x → slice_get ys k ≡ Some y → length (f x) ≡ length (f y)) → (i : ℕ) → length (flat_map f (take i xs)) ≡ length (flat_map f (take i ys))
  same_place xs ys long each zero = refl
  same_place [] [] long each (suc i) = refl
  same_place (x ∷ xs) (y ∷ ys) long each (suc i) =
      let rest : length (flat_map f (take i xs)) ≡ length (flat_map f (take i ys)) = same_place xs ys (omega arith) (λ k a b ea eb. each (suc k) a b ea eb) i in
      omega (arith, length-append (f x) (flat_map f (take i xs)), length-append (f y) (flat_map f (take i ys)), each 0 x y refl refl, rest)
  same_place xs ys long each (suc i) = absurd (omega arith)

  -- where all have the same in all, each has
  pub flat_each : (xs ys : List S) → length xs ≡ length ys → ((k : ℕ) (x y : S) → slice_get xs k ≡ Some x → slice_get ys k ≡ Some y → length (f x) ≡ length (f y)) → flat_map f xs ≡ flat_map f ys →
      (k : ℕ) (x y : S) → slice_get xs k ≡ Some x → slice_get ys k ≡ Some y → f x ≡ f y
  flat_each xs ys long each same k x y ex ey = same_lists (f x) (f y) (each k x y ex ey) (λ j a b ea eb.
      some_same (sym ea ∙ sym (flat_get xs k x j ex (slice_get_within (f x) j a ea)) ∙ ap (λ (l : List B). slice_get l (length (flat_map f (take k xs)) + j)) same
      ∙ ap (λ (n : ℕ). slice_get (flat_map f ys) (n + j)) (same_place xs ys long each k) ∙ flat_get ys k y j ey (slice_get_within (f y) j b eb) ∙ eb))

  pub gathered_more : (ss : List S) (i at n : ℕ) (old mid new : List B) (s : S) → slice_get ss i ≡ Some s → n ≡ length (f s) → Gathered f ss i at old mid → Put at (length (f s)) (f s) mid new → Gathered f ss (i + 1) (at + n) old new
  gathered_more ss i at n old mid new s es count g put = record {
    place = let more = place_more ss i s es in omega (arith, g.place, more, count);
    long = put.long ∙ g.long;
    done = λ j h. elim (less_or j at) [
      | inl less ↦ put.before j less ∙ g.done j less
      | inr far ↦
          let e : at + (j - at) ≡ j = omega arith in
          let within : j - at < length (f s) = omega (arith, count) in
          let f2 : length (flat_map f (take i ss)) + (j - at) ≡ j = omega (arith, g.place) in
          ap (slice_get new) (sym e) ∙ put.here (j - at) within ∙ sym (flat_get ss i s (j - at) es within) ∙ ap (slice_get (flat_map f ss)) f2
    ];
    rest = λ j h. put.after j (omega (arith, count)) ∙ g.rest j (omega arith);
  }

  pub gathered_end : (ss : List S) (i at : ℕ) (old new : List B) → length ss ≤ i → Gathered f ss i at old new → length old ≡ length (flat_map f ss) → new ≡ flat_map f ss
  gathered_end ss i at old new end g long =
      let whole : length (flat_map f (take i ss)) ≡ length (flat_map f ss) = ap (λ (xs : List S). length (flat_map f xs)) (take_whole i ss end) in
      same_lists new (flat_map f ss) (g.long ∙ long) (λ k x y ex ey.
      some_same (sym ex ∙ g.done k (omega (arith, slice_get_within (flat_map f ss) k y ey, whole, g.place)) ∙ ey))

  -- what was put in place of them is what all parts have
  pub put_is : (ss : List S) (i at : ℕ) (s new : S) (old xs : List B) → slice_get ss i ≡ Some s → length (f new) ≡ length (f s) → at ≡ length (flat_map f (take i ss)) → old ≡ flat_map f ss →
      Put at (length (f new)) (f new) old xs → xs ≡ flat_map f (slice_set ss i new)
  put_is ss i at s new old xs es long place is put =
      let (after, was, now) = flat_set ss i s new es in
      put_between (flat_map f (take i ss)) (f s) (f new) after old xs at long place (is ∙ was) put ∙ sym now

-- The nets are told what one part has.
module _ {S P : Type 0} (m : Machine S) (state : P → S) (parts : List P) (i : ℕ) (p q : P) (c new : NetsView) (here : slice_get parts i ≡ Some p) (told : IsTold m (map state parts) c)
    (pins : length (m.drives (state q)) ≡ length (m.drives (state p))) (ports : length (m.contacts (state q)) ≡ length (m.contacts (state p))) where
  at : slice_get (map state parts) i ≡ Some (state p)
  at = some_map state parts i p here

  before_same : {B : Type 0} (f : S → List B) → length (flat_map f (take i (map state (slice_set parts i q)))) ≡ length (flat_map f (take i (map state parts)))
  before_same f = ap (λ l. length (flat_map f (take i l))) (map-set state parts i q) ∙ ap (λ l. length (flat_map f l)) (take-set (map state parts) i (state q))

  -- what they had of it
  drive_at : (first j : ℕ) → first ≡ length (drives_of m (take i (map state parts))) → j < length (m.drives (state p)) →
      slice_get c.drives (first + j) ≡ slice_get (m.drives (state p)) j
  drive_at first j place h = rw (told.drives_are, place) (flat_get m.drives (map state parts) i (state p) j at h)

  contact_at : (j : ℕ) → j < length (m.contacts (state p)) →
      slice_get c.closed (length (contacts_of m (take i (map state (slice_set parts i q)))) + j) ≡ slice_get (m.contacts (state p)) j
  contact_at j h = rw (told.closed_are, before_same m.contacts) (flat_get m.contacts (map state parts) i (state p) j at h)

  pub told_more : (first : ℕ) → first ≡ length (drives_of m (take i (map state parts))) →
      Put first (length (m.drives (state q))) (m.drives (state q)) c.drives new.drives →
      Put (length (contacts_of m (take i (map state (slice_set parts i q))))) (length (m.contacts (state q))) (m.contacts (state q)) c.closed new.closed →
      IsTold m (map state (slice_set parts i q)) new
  told_more first place ds cs = record {
    drives_are = put_is m.drives (map state parts) i first (state p) (state q) c.drives new.drives at pins place told.drives_are ds
        ∙ ap (drives_of m) (sym (map-set state parts i q));
    closed_are = put_is m.contacts (map state parts) i _ (state p) (state q) c.closed new.closed at ports (before_same m.contacts) told.closed_are cs
        ∙ ap (contacts_of m) (sym (map-set state parts i q));
  }

  -- it has them already, where it is still
  pub still_told : (first : ℕ) → first ≡ length (drives_of m (take i (map state parts))) → m.drives (state q) ≡ m.drives (state p) → m.contacts (state q) ≡ m.contacts (state p) →
      HasAt first (m.drives (state q)) c.drives × HasAt (length (contacts_of m (take i (map state (slice_set parts i q))))) (m.contacts (state q)) c.closed
  still_told first place ds cs = (λ j h. rw ds (drive_at first j place (rw ds at h)), λ j h. rw cs (contact_at j (rw cs at h)))

  -- and it is still, where it has them already
  pub told_still : (first : ℕ) → first ≡ length (drives_of m (take i (map state parts))) → HasAt first (m.drives (state q)) c.drives →
      HasAt (length (contacts_of m (take i (map state (slice_set parts i q))))) (m.contacts (state q)) c.closed → (m.drives (state q) ≡ m.drives (state p)) × (m.contacts (state q) ≡ m.contacts (state p))
  told_still first place ds cs = (
    same_lists (m.drives (state q)) (m.drives (state p)) pins (λ j a b ea eb.
        some_same (sym ea ∙ sym (ds j (slice_get_within (m.drives (state q)) j a ea)) ∙ drive_at first j place (slice_get_within (m.drives (state p)) j b eb)
        ∙ eb)),
    same_lists (m.contacts (state q)) (m.contacts (state p)) ports (λ j a b ea eb.
        some_same (sym ea ∙ sym (cs j (slice_get_within (m.contacts (state q)) j a ea)) ∙ contact_at j (slice_get_within (m.contacts (state p)) j b eb) ∙ eb)),
  )

  -- and else those of the pins that did not move
  pub others_told : (first : ℕ) → first ≡ length (drives_of m (take i (map state parts))) → (moves : ℕ → Bool) → ((j : ℕ) → moves j ≡ false → slice_get (m.drives (state q)) j ≡ slice_get (m.drives (state p)) j) →
      (j : ℕ) → j < length (m.drives (state q)) → moves j ≡ false → slice_get c.drives (first + j) ≡ slice_get (m.drives (state q)) j
  others_told first place moves same j h none = drive_at first j place (omega (arith, pins, h)) ∙ sym (same j none)

module _ {S : Type 0} (m : Machine S) where
  -- what suits a wiring does so after the nets were told
  pub retold_suits : (w : Wiring) (ss : List S) (reading : ReadingView) (ds : List Drive) (cs : List Bool) → Fits m w ss → Suits w reading → IsTold m ss (retold reading ds cs).nets → Suits w (retold reading ds cs)
  retold_suits w ss reading ds cs fits suits told = record {
    wired = let c = suits.wired in record { wiring = c.wiring; levels_long = c.levels_long; watched = c.watched };
    drives_long = ap length told.drives_are ∙ sym fits.pins;
    closed_long = ap length told.closed_are ∙ sym fits.contacts;
    on_long = suits.on_long;
    on_are = suits.on_are;
  }

  -- what is of parts is so after the nets were told what those drive and connect
  pub retold_is : (w : Wiring) (ss : List S) (reading : ReadingView) (ds : List Drive) (cs : List Bool) → IsTold m ss (retold reading ds cs).nets → IsOf m w ss reading → IsOf m w ss (retold reading ds cs)
  retold_is w ss reading ds cs told is = record { drives_are = told.drives_are; closed_are = told.closed_are; levels_are = is.levels_are; chips_are = is.chips_are }

  -- where no level changed no part has another one
  pub none_differ : (w : Wiring) (ss : List S) (ls : List Level) (set : PartSet) → ((k : ℕ) → has_part set k ≡ false) → AreDiffering m w ls ls ss set
  none_differ w ss ls set none k s es = none k ∙ sym (ap not (list_same same_level level_same (levels_on m w ls k s)))

here : (n : ℕ) (ns : List ℕ) → has (n ∷ ns) n ≡ true
here n ns = grind arith

-- whether a resolution changed no level is whether all are the same
pub none_changed : (old new : List Level) (changed : List ℕ) (none : Bool) → length old ≡ length new → AreChanged old new changed → none ≡ (length changed == 0) → none ≡ same_list same_level old new
none_changed old new [] none long are is =
    let same : old ≡ new = same_lists old new long (λ k x y ex ey. some_same (sym ex ∙ sym (are.others k refl) ∙ ey)) in
    is ∙ sym (ap (same_list same_level old) (sym same) ∙ list_same same_level level_same old)
none_changed old new (n ∷ changed) none long are is = is ∙ some_there ∙ sym (go (same_list same_level old new) refl)
  where
    some_there : (length (n ∷ changed) == 0) ≡ false
    some_there = grind arith

    go : (b : Bool) → same_list same_level old new ≡ b → same_list same_level old new ≡ false
    go true e = absurd (are.differ n (here n changed) (ap (λ (l : List Level). slice_get l n) (sym (levels_mean old new e))))
    go false e = e
