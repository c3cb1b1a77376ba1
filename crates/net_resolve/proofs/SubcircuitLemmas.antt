-- A subcircuit is a board within the board.
use Rattle.net_resolve.proofs.Common.{◌≡◌, ◌≢◌, ℕ, suc, ◌+◌, ◌<◌, List, [], ◌∷◌, length, map, Bool, true, refl, ap, sym, ◌∙◌, arith, inl, inr, subst, Option}
use Rattle.net_resolve.proofs.Common.{Some, get_or, eqb_tells, slice_get_within, slice_get, slice_index, zip, Drive, below, joins, some_same, some_map}
use Rattle.net_resolve.proofs.Common.{get_map_some, get_within, get-below, WholeView, levels_of, Lacks, AreOnce, SubcircuitView, IsCut, IsSubcircuit, AreOwn}
use Rattle.net_resolve.proofs.Common.{own_whole, picked, labels_of, level_now, joins_cases, joins_is, joins_swap, contact_of, contact_is, contact_bounds}
use Rattle.net_resolve.proofs.Common.{joined_bounds}
use Rattle.board_model.specs.Resolve.{level_of, resolve}
use Rattle.net_resolve.proofs.ReachLemmas.{any_at, any_some}
use Rattle.net_resolve.proofs.PickLemmas.{picked_key, picked_at, picked_once}
use Rattle.net_resolve.proofs.LocalLemmas.{Sub, none, passed, taken, IsInner, inner_level}

-- what a number of lists that are the same by places says of their items
chosen_at : {A : Type 0} (own : List A) (whole : List A) (places : List ℕ) → map Some own ≡ map (slice_get whole) places →
    (p k : ℕ) (x : A) → slice_get places p ≡ Some k → slice_get whole k ≡ Some x → slice_get own p ≡ Some x
chosen_at {A = A} own whole places e p k x at is =
    let here : slice_get (map (slice_get whole) places) p ≡ Some (Some x) = some_map (slice_get whole) places p k at ∙ ap Some is in
    let s = get_map_some (λ (y : A). Some y) own p (Some x) (ap (λ (l : List (Option A)). slice_get l p) e ∙ here) in
    s.1 ∙ s.2

chosen_from : {A : Type 0} (own : List A) (whole : List A) (places : List ℕ) → map Some own ≡ map (slice_get whole) places →
    (p : ℕ) (x : A) → slice_get own p ≡ Some x → (k : ℕ) × (slice_get places p ≡ Some k) × (slice_get whole k ≡ Some x)
chosen_from {A = A} own whole places e p x at =
    let here : slice_get (map (λ (y : A). Some y) own) p ≡ Some (Some x) = some_map (λ (y : A). Some y) own p x at in
    let s = get_map_some (slice_get whole) places p (Some x) (ap (λ (l : List (Option A)). slice_get l p) (sym e) ∙ here) in
    (s.0, s.1, s.2)

-- the nets that have a label
module _ (labels : List ℕ) (q : ℕ) (nets : List ℕ) (are : nets ≡ picked q 0 labels) where
  pub nets_once : AreOnce nets
  nets_once i j n a b = picked_once q 0 labels i j n (subst (λ (l : List ℕ). slice_get l i ≡ Some n) are a) (subst (λ (l : List ℕ). slice_get l j ≡ Some n) are b)

  pub net_labelled : (i n : ℕ) → slice_get nets i ≡ Some n → slice_get labels n ≡ Some q
  net_labelled i n e =
      let s = picked_key q 0 labels i n (subst (λ (l : List ℕ). slice_get l i ≡ Some n) are e) in
      let same : s.0 ≡ n = omega (arith, s.1) in
      subst (λ (z : ℕ). slice_get labels z ≡ Some q) same s.2

  pub net_label : (i n : ℕ) → slice_get nets i ≡ Some n → slice_index labels n ≡ q
  net_label i n e = let at = net_labelled i n e in some_same (sym (get_within labels n 0 (slice_get_within labels n q at)) ∙ at)

  pub net_there : (n : ℕ) → n < length labels → slice_index labels n ≡ q → (i : ℕ) × (slice_get nets i ≡ Some n)
  net_there n l e =
      let s = picked_at q 0 labels n (get_within labels n 0 l ∙ ap Some e) in
      let same : 0 + n ≡ n = omega arith in
      (s.0, subst (λ (l : List ℕ). slice_get l s.0 ≡ Some n) (sym are) (s.1 ∙ ap Some same))

  pub others_lack : (n : ℕ) → slice_index labels n ≢ q → Lacks nets n
  others_lack n ne j e = ne (net_label j n e)

  -- the pairs among these nets
  module _ (whole : List (ℕ × ℕ)) (joined : (k : ℕ) (c : ℕ × ℕ) → slice_get whole k ≡ Some c → slice_index labels c.0 ≡ slice_index labels c.1)
      (places : List ℕ) (places_are : places ≡ picked q 0 (labels_of labels whole)) (own : List (ℕ × ℕ)) (o : AreOwn nets whole places own) where
    pair_label : (i n m : ℕ) (k : ℕ) (c : ℕ × ℕ) → slice_get nets i ≡ Some n → slice_get whole k ≡ Some c → joins c n m ≡ true → slice_index labels c.0 ≡ q
    pair_label i n m k c e at j = elim (joins_cases c n m j) [
      | inl same ↦ ap (slice_index labels) same.0 ∙ net_label i n e
      | inr back ↦ joined k c at ∙ ap (slice_index labels) back.1 ∙ net_label i n e
    ]

    pub pair_out : (i n m : ℕ) (k : ℕ) (c : ℕ × ℕ) → slice_get nets i ≡ Some n → slice_get whole k ≡ Some c → joins c n m ≡ true →
        (j : ℕ) × (p : ℕ) × (d : ℕ × ℕ) × (slice_get nets j ≡ Some m) × (slice_get places p ≡ Some k) × (slice_get own p ≡ Some d) × (joins d i j ≡ true)
    pair_out i n m k c e at j =
        let key : slice_get (labels_of labels whole) k ≡ Some q = some_map (λ (x : ℕ × ℕ). slice_index labels x.0) whole k c at ∙ ap Some (pair_label i n m k c e at j) in
        let s = picked_at q 0 (labels_of labels whole) k key in
        let same : 0 + k ≡ k = omega arith in
        let there : slice_get places s.0 ≡ Some k = subst (λ (l : List ℕ). slice_get l s.0 ≡ Some k) (sym places_are) (s.1 ∙ ap Some same) in
        let inside : s.0 < length own = omega (arith, o.long, slice_get_within places s.0 k there) in
        let d = get_or own s.0 (0, 0) in
        let mine : slice_get own s.0 ≡ Some d = get_within own s.0 (0, 0) inside in
        let ends = o.each s.0 k c d there at mine in
        elim (joins_cases c n m j) [
          | inl one ↦
              let first : d.0 ≡ i = nets_once d.0 i n (ends.0 ∙ ap Some one.0) e in
              (d.1, s.0, d, ends.1 ∙ ap Some one.1, there, mine, subst (λ (z : ℕ). joins d z d.1 ≡ true) first (joins_is d))
          | inr two ↦
              let second : d.1 ≡ i = nets_once d.1 i n (ends.1 ∙ ap Some two.1) e in
              (d.0, s.0, d, ends.0 ∙ ap Some two.0, there, mine, subst (λ (z : ℕ). joins d z d.0 ≡ true) second (joins_swap d d.0 d.1 (joins_is d)))
        ]

    pub pair_from : (p : ℕ) (d : ℕ × ℕ) → slice_get own p ≡ Some d →
        (k : ℕ) × (c : ℕ × ℕ) × (slice_get places p ≡ Some k) × (slice_get whole k ≡ Some c) × (slice_get nets d.0 ≡ Some c.0) × (slice_get nets d.1 ≡ Some c.1)
    pair_from p d mine =
        let inside : p < length places = omega (arith, o.long, slice_get_within own p d mine) in
        let k = get_or places p 0 in
        let there : slice_get places p ≡ Some k = get_within places p 0 inside in
        let s = picked_key q 0 (labels_of labels whole) p k (subst (λ (l : List ℕ). slice_get l p ≡ Some k) places_are there) in
        let same : s.0 ≡ k = omega (arith, s.1) in
        let c = get_map_some (λ (x : ℕ × ℕ). slice_index labels x.0) whole s.0 q s.2 in
        let at : slice_get whole k ≡ Some c.0 = subst (λ (z : ℕ). slice_get whole z ≡ Some c.0) same c.1 in
        let ends = o.each p k c.0 d there at mine in
        (k, c.0, there, at, ends.0, ends.1)

    pub pair_back : (p : ℕ) (d : ℕ × ℕ) (i j n m : ℕ) → slice_get own p ≡ Some d → joins d i j ≡ true → slice_get nets i ≡ Some n → slice_get nets j ≡ Some m →
        (k : ℕ) × (c : ℕ × ℕ) × (slice_get places p ≡ Some k) × (slice_get whole k ≡ Some c) × (joins c n m ≡ true)
    pair_back p d i j n m mine jn en em =
        let s = pair_from p d mine in
        let c = s.1 in (
          s.0,
          c,
          s.2,
          s.3,
          elim (joins_cases d i j jn) [
            | inl one ↦
                let first : c.0 ≡ n = some_same (sym s.4 ∙ ap (slice_get nets) one.0 ∙ en) in
                let second : c.1 ≡ m = some_same (sym s.5 ∙ ap (slice_get nets) one.1 ∙ em) in
                subst (λ (z : ℕ). joins c z m ≡ true) first (subst (λ (z : ℕ). joins c c.0 z ≡ true) second (joins_is c))
            | inr two ↦
                let first : c.0 ≡ m = some_same (sym s.4 ∙ ap (slice_get nets) two.0 ∙ em) in
                let second : c.1 ≡ n = some_same (sym s.5 ∙ ap (slice_get nets) two.1 ∙ en) in
                subst (λ (z : ℕ). joins c z m ≡ true) second (subst (λ (z : ℕ). joins c c.1 z ≡ true) first (joins_swap c c.0 c.1 (joins_is c)))
          ],
        )

    pub pair_within : (p : ℕ) (d : ℕ × ℕ) (i j : ℕ) → slice_get own p ≡ Some d → joins d i j ≡ true → (i < length nets) × (j < length nets)
    pair_within p d i j mine jn =
        let s = pair_from p d mine in
        let first : d.0 < length nets = slice_get_within nets d.0 s.1.0 s.4 in
        let second : d.1 < length nets = slice_get_within nets d.1 s.1.1 s.5 in
        elim (joins_cases d i j jn) [
          | inl one ↦ (subst (λ (z : ℕ). z < length nets) one.0 first, subst (λ (z : ℕ). z < length nets) one.1 second)
          | inr two ↦ (subst (λ (z : ℕ). z < length nets) two.1 second, subst (λ (z : ℕ). z < length nets) two.0 first)
        ]

  -- the pins on these nets, from place k on
  module _ (net_of : List ℕ) (ds : List Drive) where
    abbrev keys : List ℕ → List ℕ
    keys ns = map (slice_index labels) ns

    sub_from : (k : ℕ) (ns : List ℕ) (es : List Drive) (own : List ℕ) (mine : List Drive) → length es ≡ length ns →
        ((j : ℕ) → slice_get ns j ≡ slice_get net_of (k + j)) → ((j : ℕ) → slice_get es j ≡ slice_get ds (k + j)) →
        map (slice_get nets) own ≡ map (slice_get net_of) (picked q k (keys ns)) → map Some mine ≡ map (slice_get ds) (picked q k (keys ns)) → Sub nets (zip ns es) (zip own mine)
    sub_from k [] es [] mine long at_n at_d en ed = none
    sub_from k [] es (o ∷ own) mine long at_n at_d en ed = absurd cc
    sub_from k (n ∷ ns) [] own mine long at_n at_d en ed = absurd (omega arith)
    sub_from k (n ∷ ns) (e ∷ es) own mine long at_n at_d en ed =
        let later : (j : ℕ) → k + suc j ≡ (k + 1) + j = λ j. omega arith in
        let more_n : (j : ℕ) → slice_get ns j ≡ slice_get net_of ((k + 1) + j) = λ j. at_n (suc j) ∙ ap (slice_get net_of) (later j) in
        let more_d : (j : ℕ) → slice_get es j ≡ slice_get ds ((k + 1) + j) = λ j. at_d (suc j) ∙ ap (slice_get ds) (later j) in
        let none_more : k + 0 ≡ k = omega arith in
        let rest = λ (os : List ℕ) (ms : List Drive). sub_from (k + 1) ns es os ms (omega arith) more_n more_d in
        let here_n : slice_get net_of k ≡ Some n = ap (slice_get net_of) (sym none_more) ∙ sym (at_n 0) in
        let here_d : slice_get ds k ≡ Some e = ap (slice_get ds) (sym none_more) ∙ sym (at_d 0) in
        elim (eqb_tells (slice_index labels n) q) [
          | inl t ↦ took own mine rest here_n here_d (rw t.0 at en) (rw t.0 at ed)
          | inr f ↦ passed n e (zip ns es) (zip own mine) (others_lack n f.1) (rest own mine (rw f.0 at en) (rw f.0 at ed))
        ]
      where
        took : (own : List ℕ) (mine : List Drive) →
            ((os : List ℕ) (ms : List Drive) → map (slice_get nets) os ≡ map (slice_get net_of) (picked q (k + 1) (keys ns)) → map Some ms ≡ map (slice_get ds) (picked q (k + 1) (keys ns)) → Sub nets (zip ns es) (zip os ms)) →
            slice_get net_of k ≡ Some n → slice_get ds k ≡ Some e →
            map (slice_get nets) own ≡ map (slice_get net_of) (k ∷ picked q (k + 1) (keys ns)) → map Some mine ≡ map (slice_get ds) (k ∷ picked q (k + 1) (keys ns)) → Sub nets ((n, e) ∷ zip ns es) (zip own mine)
        took [] mine rest hn hd a b = absurd cc
        took (o ∷ own) [] rest hn hd a b = absurd cc
        took (o ∷ own) (m ∷ mine) rest hn hd a b =
            let head_a : slice_get nets o ≡ slice_get net_of k = cc in
            let tail_a : map (slice_get nets) own ≡ map (slice_get net_of) (picked q (k + 1) (keys ns)) = cc in
            let head_b : Some m ≡ slice_get ds k = cc in
            let tail_b : map (λ (x : Drive). Some x) mine ≡ map (slice_get ds) (picked q (k + 1) (keys ns)) = cc in
            let same : e ≡ m = some_same (sym hd ∙ sym head_b) in
            subst (λ (z : Drive). Sub nets ((n, e) ∷ zip ns es) ((o, z) ∷ zip own mine)) same (taken o n e (zip ns es) (zip own mine) (head_a ∙ hn) (rest own mine tail_a tail_b))

-- a subcircuit with what its pins drive and which of its contacts are closed
module _ (w : WholeView) (labels : List ℕ) (cut : IsCut w labels) (q : ℕ) (s : SubcircuitView) (is : IsSubcircuit w labels q s)
    (cs : List Bool) (ds : List Drive) (own_cs : List Bool) (own_ds : List Drive) (long : length ds ≡ length w.net_of)
    (closed : map Some own_cs ≡ map (slice_get cs) s.contacts) (driven : map Some own_ds ≡ map (slice_get ds) s.pins) where
  abbrev bonds : List ℕ
  bonds = picked q 0 (labels_of labels w.resistors)

  pub inner : IsInner w.nets w.net_of w.contacts w.resistors cs ds s.nets s.own_nets s.own_contacts s.own_resistors own_cs own_ds
  inner = record {
    once = nets_once labels q s.nets is.nets_are;
    nets_within = λ i n e. omega (arith, cut.long, slice_get_within labels n q (net_labelled labels q s.nets is.nets_are i n e));
    contacts_within = contact_bounds w.nets w.contacts cs cut.contacts_within;
    resistors_within = joined_bounds w.nets w.resistors cut.resistors_within;
    own_contacts_within = λ i j h.
        let d = contact_of s.own_contacts own_cs i j h in
        pair_within labels q s.nets is.nets_are w.contacts cut.contacts_joined s.contacts is.contacts_are s.own_contacts is.own_contacts_are d.0 d.1 i j d.2 d.4;
    own_resistors_within = λ i j h.
        let d = any_some (λ pair. joins pair i j) s.own_resistors h in
        pair_within labels q s.nets is.nets_are w.resistors cut.resistors_joined bonds refl s.own_resistors is.own_resistors_are d.0 d.1 i j d.2 d.3;
    contact_out = λ i n m e h.
        let c = contact_of w.contacts cs n m h in
        let d = pair_out labels q s.nets is.nets_are w.contacts cut.contacts_joined s.contacts is.contacts_are s.own_contacts is.own_contacts_are i n m c.0 c.1 e c.2 c.4 in
        (d.0, d.3, contact_is s.own_contacts own_cs d.1 d.2 i d.0 d.5 (chosen_at own_cs cs s.contacts closed d.1 c.0 true d.4 c.3) d.6);
    contact_back = λ i j n m en em h.
        let d = contact_of s.own_contacts own_cs i j h in
        let c = pair_back labels q s.nets is.nets_are w.contacts cut.contacts_joined s.contacts is.contacts_are s.own_contacts is.own_contacts_are d.0 d.1 i j n m d.2 d.4 en em in
        let f = chosen_from own_cs cs s.contacts closed d.0 true d.3 in
        let same : f.0 ≡ c.0 = some_same (sym f.1 ∙ c.2) in
        contact_is w.contacts cs c.0 c.1 n m c.3 (subst (λ (z : ℕ). slice_get cs z ≡ Some true) same f.2) c.4;
    resistor_out = λ i n m e h.
        let c = any_some (λ pair. joins pair n m) w.resistors h in
        let d = pair_out labels q s.nets is.nets_are w.resistors cut.resistors_joined bonds refl s.own_resistors is.own_resistors_are i n m c.0 c.1 e c.2 c.3 in
        (d.0, d.3, any_at (λ pair. joins pair i d.0) s.own_resistors d.1 d.2 d.5 d.6);
    resistor_back = λ i j n m en em h.
        let d = any_some (λ pair. joins pair i j) s.own_resistors h in
        let c = pair_back labels q s.nets is.nets_are w.resistors cut.resistors_joined bonds refl s.own_resistors is.own_resistors_are d.0 d.1 i j n m d.2 d.3 en em in
        any_at (λ pair. joins pair n m) w.resistors c.0 c.1 c.3 c.4;
    pins = sub_from labels q s.nets is.nets_are w.net_of ds 0 w.net_of ds s.own_nets own_ds long
        (λ j. let e : j ≡ 0 + j = omega arith in ap (slice_get w.net_of) e) (λ j. let e : j ≡ 0 + j = omega arith in ap (slice_get ds) e)
        (is.own_nets_are ∙ ap (map (slice_get w.net_of)) is.pins_are) (driven ∙ ap (map (slice_get ds)) is.pins_are);
  }

  -- what the subcircuit alone gives its nets
  pub own_level : (i n : ℕ) → slice_get s.nets i ≡ Some n →
      slice_get (levels_of (own_whole s) own_cs own_ds) i ≡ Some (level_now w cs ds n)
  unfolding resolve
  own_level i n e =
      some_map (level_of (length s.nets) s.own_nets s.own_contacts s.own_resistors own_cs own_ds) (below (length s.nets)) i i (get-below (length s.nets) i (slice_get_within s.nets i n e))
      ∙ ap Some (sym (inner_level w.nets w.net_of w.contacts w.resistors cs ds s.nets s.own_nets s.own_contacts s.own_resistors own_cs own_ds inner i n e))
