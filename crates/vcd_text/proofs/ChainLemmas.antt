-- Variables that are linked by the nets that they show.
use Rattle.std.proofs.Common.{◌≡◌, ◌≢◌, ◌⊎◌, ℕ, zero, suc, ◌+◌, ◌<◌, ◌≤◌, min, List, [], ◌∷◌, length, get_or, ap, sym, ◌∙◌, arith, inl, inr, subst, Option, Some, false}
use Rattle.std.specs.Prelude.{eqb, slice_get, slice_index, slice_set}
use Rattle.std.specs.List.{list_any}
use Rattle.std.proofs.lemmas.Bool.{cases_lt}
use Rattle.std.proofs.lemmas.Bool.Decides.{eqb_tells}
use Rattle.std.proofs.lemmas.List.{get_or-set_same, get_or-set_other, length-set, length-map}
use Rattle.std.proofs.lemmas.Option.{slice_get_within, slice_get-map, slice_get-get_or}
use Rattle.std.specs.Option.{option_map}
use Rattle.text_model.specs.Wave.{Source, Net, Variable, level_value, shown_value}
use Rattle.vcd_text.specs.declared.variable.Variable as declared
use Rattle.vcd_text.specs.Variables.{source_of, variable_of, variables_of}
use Rattle.std.specs.Option.{option_map_or}
use Rattle.sim_base.specs.declared.signal.Level.{Level}
use Rattle.sim_base.specs.declared.signal.Drive.{Drive}
use Rattle.sim_base.specs.Rows.{Row, AreBut}
use Rattle.vcd_text.specs.Heads.{HeadState, after_row}
use Rattle.vcd_text.specs.Chains.{sources, values_at, IsNext, AreLinked, OnChain, IsRun, PinsRest, HasSeen, OthersRest, NetsRest}

pub some_is : {A : Type 0} {x y : A} → Some x ≡ Some y → x ≡ y
some_is e = cc

-- what a variable shows
pub shown_here : (vs : List declared.Variable) (k : ℕ) (d : declared.Variable) → k < length vs → slice_get (sources (variables_of vs)) k ≡ Some (source_of (get_or vs k d).shows)
shown_here vs k d less =
    slice_get-map (λ (v : Variable). v.shows) (variables_of vs) k
    ∙ ap (option_map (λ (v : Variable). v.shows)) (slice_get-map variable_of vs k ∙ ap (option_map variable_of) (slice_get-get_or vs k d less))

pub shown_long : (vs : List declared.Variable) → length (sources (variables_of vs)) ≡ length vs
shown_long vs = length-map (variables_of vs) (λ (v : Variable). v.shows) ∙ length-map vs variable_of

pub shown_within : (vs : List declared.Variable) (k : ℕ) (s : Source) → slice_get (sources (variables_of vs)) k ≡ Some s → k < length vs
shown_within vs k s e = let w = slice_get_within (sources (variables_of vs)) k s e in omega (arith, w, shown_long vs)

-- one place before where nothing shows the net
earlier : (all : List Source) (net i at : ℕ) (s : Source) → slice_get all i ≡ Some s → s ≢ Net net → IsNext all net (i + 1) at → IsNext all net i at
earlier all net i at s e other n = record {
  order = let h = n.order in omega (arith, h);
  within = n.within;
  none = λ k from less same. elim (eqb_tells k i) [
    | inl here ↦ other (some_is (sym e ∙ ap (slice_get all) (sym here.1) ∙ same))
    | inr far ↦ let apart = far.1 in n.none k (omega (arith, from, apart)) less same
  ];
  here = n.here;
}

pub linked_pin : (all : List Source) (first next : List ℕ) (i : ℕ) (s : Source) → slice_get all i ≡ Some s → ((n : ℕ) → s ≢ Net n) → AreLinked all first next (i + 1) → AreLinked all first next i
linked_pin all first next i s e pin linked = record {
  firsts = λ n less. earlier all n i (slice_index first n) s e (pin n) (linked.firsts n less);
  nexts = λ k n from at. elim (eqb_tells k i) [
    | inl here ↦ absurd (pin n (some_is (sym e ∙ ap (slice_get all) (sym here.1) ∙ at)))
    | inr far ↦ let apart = far.1 in linked.nexts k n (omega (arith, from, apart)) at
  ];
}

pub linked_net : (all : List Source) (first next : List ℕ) (i net : ℕ) → slice_get all i ≡ Some (Net net) → net < length first → i < length next → AreLinked all first next (i + 1) →
    AreLinked all (slice_set first net i) (slice_set next i (slice_index first net)) i
linked_net all first next i net e here room linked = record {
  firsts = λ n less. elim (eqb_tells n net) [
    | inl same ↦ subst (λ (m : ℕ). IsNext all m i (slice_index (slice_set first net i) m)) (sym same.1) (subst (λ (at : ℕ). IsNext all net i at) (sym (get_or-set_same first net i 0 here)) first_here)
    | inr far ↦ subst (λ (at : ℕ). IsNext all n i at) (sym (get_or-set_other first net n i 0 far.1))
        (earlier all n i (slice_index first n) (Net net) e (λ (same : Net net ≡ Net n). far.1 (sym (net_is net n same))) (linked.firsts n (omega (arith, less, length-set first net i))))
  ];
  nexts = λ k n from at. elim (eqb_tells k i) [
    | inl same ↦
        let n_is : n ≡ net = net_is n net (some_is (sym at ∙ ap (slice_get all) same.1 ∙ e)) in
        subst (λ (j : ℕ). IsNext all n (j + 1) (slice_index (slice_set next i (slice_index first net)) j)) (sym same.1)
        (subst (λ (m : ℕ). IsNext all n (i + 1) m) (sym (get_or-set_same next i (slice_index first net) 0 room))
        (subst (λ (m : ℕ). IsNext all m (i + 1) (slice_index first net)) (sym n_is) (linked.firsts net here)))
    | inr far ↦
        let apart = far.1 in
        subst (λ (m : ℕ). IsNext all n (k + 1) m) (sym (get_or-set_other next i k (slice_index first net) 0 far.1)) (linked.nexts k n (omega (arith, from, apart)) at)
  ];
}
  where
    net_is : (a b : ℕ) → Net a ≡ Net b → a ≡ b
    net_is a b same = cc

    first_here : IsNext all net i i
    first_here = record {
      order = omega arith;
      within = let w = slice_get_within all i (Net net) e in omega (arith, w);
      none = λ k from less same. omega (arith, from, less);
      here = λ less. e;
    }

-- behind the last variable nothing is linked
pub linked_none : (all : List Source) (first next : List ℕ) (i : ℕ) → i ≡ length all → ((n : ℕ) → n < length first → slice_index first n ≡ i) → AreLinked all first next i
linked_none all first next i end blank = record {
  firsts = λ n less. subst (λ (at : ℕ). IsNext all n i at) (sym (blank n less)) (record {
    order = omega arith;
    within = omega (arith, end);
    none = λ k from less same. omega (arith, from, less);
    here = λ less. absurd (omega (arith, less, end));
  });
  nexts = λ k n from at. let w = slice_get_within all k (Net n) at in absurd (omega (arith, from, w, end));
}

-- what a variable has
pub value_at : (vs : List Variable) (levels : List Level) (drives : List Drive) (k : ℕ) (s : Source) → slice_get (sources vs) k ≡ Some s → get_or (values_at levels drives vs) k 0 ≡ shown_value levels drives s
value_at [] levels drives k s e = absurd cc
value_at (v ∷ vs) levels drives zero s e = let same : v.shows ≡ s = some_is e in ap (shown_value levels drives) same
value_at (v ∷ vs) levels drives (suc k) s e = value_at vs levels drives k s e

-- where one net is told, or two, the variables of other nets have the values that they had
pub nets_still : (vs : List Variable) (values : List ℕ) (before after : List Level) (drives : List Drive) (changed : List ℕ) (one two : ℕ) → ((n : ℕ) → n ≢ one → n ≢ two → list_any (eqb n) changed ≡ false) →
    HasSeen vs values before → AreBut changed before after → NetsRest (one, two) vs values after drives
nets_still vs values before after drives changed one two told seen but k n here first second =
    let level : slice_get after n ≡ slice_get before n = but n (told n first second) in
    seen k n here ∙ ap (λ (o : Option Level). option_map_or level_value o 122) (sym level) ∙ sym (value_at vs after drives k (Net n) here)

-- and so have all others, where those of pins have
pub others_still : (vs : List Variable) (values : List ℕ) (levels : List Level) (drives : List Drive) (one two : ℕ) → PinsRest vs values levels drives → NetsRest (one, two) vs values levels drives → OthersRest (one, two) vs values levels drives
others_still vs values levels drives one two rest nets k less first second =
    let within : k < length (sources vs) = omega (arith, less, length-map vs (λ (v : Variable). v.shows)) in
    let at : slice_get (sources vs) k ≡ Some (get_or (sources vs) k (Net 0)) = slice_get-get_or (sources vs) k (Net 0) within in
    elim (rest k (get_or (sources vs) k (Net 0)) at) [
      | inl net ↦
          let here : slice_get (sources vs) k ≡ Some (Net net.0) = at ∙ ap (λ (s : Source). Some s) net.1 in
          nets k net.0 here (λ same. first (here ∙ ap (λ (m : ℕ). Some (Net m)) same)) (λ same. second (here ∙ ap (λ (m : ℕ). Some (Net m)) same))
      | inr same ↦ same
    ]

-- after a row the values are those of its levels
pub seen_after : (s h k : HeadState) (row : Row) → h ≡ after_row s row → k ≡ record h { text = k.text } → HasSeen k.variables k.values row.levels
seen_after s h k row e f = λ i n here.
    let variables : k.variables ≡ s.variables = ap (λ (x : HeadState). x.variables) f ∙ ap (λ (x : HeadState). x.variables) e in
    let values : k.values ≡ values_at row.levels row.drives s.variables = ap (λ (x : HeadState). x.values) f ∙ ap (λ (x : HeadState). x.values) e in
    ap (λ (l : List ℕ). get_or l i 0) values ∙ value_at s.variables row.levels row.drives i (Net n) (subst (λ (vs : List Variable). slice_get (sources vs) i ≡ Some (Net n)) variables here)

-- the next place is so from a later one on
pub next_from : (all : List Source) (net from more at : ℕ) → from ≤ more → more ≤ at → IsNext all net from at → IsNext all net more at
next_from all net from more at later order is = record {
  order = order;
  within = is.within;
  none = λ k least less. is.none k (omega (arith, later, least)) less;
  here = is.here;
}

-- From a place on the next variable of two nets is at this one, where those between have the values that they had.
pub record Follows (vs : List Variable) (last new : List ℕ) (one two from a b i : ℕ) : Type 0 where
  pub order : from ≤ i
  pub within : i ≤ length vs
  pub at_one : IsNext (sources vs) one i a
  pub at_two : IsNext (sources vs) two i b
  pub same : (k : ℕ) → from ≤ k → k < i → slice_index last k ≡ slice_index new k

pub follows : (vs : List Variable) (levels : List Level) (drives : List Drive) (last : List ℕ) (one two from a b i : ℕ) → OthersRest (one, two) vs last levels drives → i ≡ min a b →
    IsNext (sources vs) one from a → IsNext (sources vs) two from b → Follows vs last (values_at levels drives vs) one two from a b i
follows vs levels drives last one two from a b i others e m n =
    let order : from ≤ i = let p = m.order in let q = n.order in omega (arith, e, p, q) in
    let within : i ≤ length vs = let p = m.within in omega (arith, e, p, length-map vs (λ (v : Variable). v.shows)) in
    record {
      order = order;
      within = within;
      at_one = next_from (sources vs) one from i a order (omega (arith, e)) m;
      at_two = next_from (sources vs) two from i b order (omega (arith, e)) n;
      same = λ k least less. others k (omega (arith, less, within)) (m.none k least (omega (arith, less, e))) (n.none k least (omega (arith, less, e)));
    }

-- behind the place of a chain it goes on at the next variable of the net
pub chain_on : (next : List ℕ) (from at i bound : ℕ) (c : OnChain next from at) → i < bound → bound ≤ length next → IsNext c.shows c.net (min i bound) i → IsNext c.shows c.net (i + 1) (slice_index next i)
chain_on next from at i bound c less inside n = let long = c.chains.long in c.chains.linked.nexts i c.net (omega arith) (n.here (omega (arith, less, inside, long)))

-- a run of a net, where the variables of other nets have the values that they had
pub run_of : (vs : List Variable) (levels : List Level) (drives : List Drive) (last : List ℕ) (net at bound value : ℕ) → length last ≡ length vs → value ≡ option_map_or level_value (slice_get levels net) 122 → bound ≤ length vs →
    ((k : ℕ) → at ≤ k → k < bound → k < length vs → slice_get (sources vs) k ≢ Some (Net net) → slice_index last k ≡ slice_index (values_at levels drives vs) k) →
    IsRun (sources vs) net last (values_at levels drives vs) at bound value
run_of vs levels drives last net at bound value long is inside rest = record {
  long = long ∙ sym (length-map vs (λ (v : Variable). shown_value levels drives v.shows));
  own = λ k shown. is ∙ sym (value_at vs levels drives k (Net net) shown);
  others = λ k least less off. rest k least less (omega (arith, less, inside)) off;
}

-- the next place of a net is one place
pub next_same : (all : List Source) (net from a b : ℕ) → IsNext all net from a → IsNext all net from b → a ≡ b
next_same all net from a b m n = elim (cases_lt a b) [
  | inl less ↦ let within = n.within in absurd (n.none a m.order less (m.here (omega (arith, less, within))))
  | inr over ↦ elim (cases_lt b a) [
    | inl less ↦ let within = m.within in absurd (m.none b n.order less (n.here (omega (arith, less, within))))
    | inr more ↦ omega (arith, over, more)
  ]
]

-- where the next places of two nets are one place, the nets are one, or nothing is there
pub nets_meet : (all : List Source) (one two from at : ℕ) → IsNext all one from at → IsNext all two from at → (two ≡ one) ⊎ (at ≡ length all)
nets_meet all one two from at m n = elim (cases_lt at (length all)) [
  | inl less ↦ inl (net_is two one (some_is (sym (n.here less) ∙ m.here less)))
  | inr past ↦ let within = m.within in inr (omega (arith, past, within))
]
  where
    net_is : (a b : ℕ) → Net a ≡ Net b → a ≡ b
    net_is a b same = cc

-- then the variables of nets but the first have the values that they had
pub rest_alone : (vs : List Variable) (levels : List Level) (drives : List Drive) (last : List ℕ) (one two at : ℕ) → OthersRest (one, two) vs last levels drives → IsNext (sources vs) one 0 at → IsNext (sources vs) two 0 at →
    (k : ℕ) → k < length vs → slice_get (sources vs) k ≢ Some (Net one) → slice_index last k ≡ slice_index (values_at levels drives vs) k
rest_alone vs levels drives last one two at rest m n k less off = rest k less off (elim (nets_meet (sources vs) one two 0 at m n) [
  | inl same ↦ λ shown. off (shown ∙ ap (λ (i : ℕ). Some (Net i)) same)
  | inr end ↦ n.none k (omega arith) (omega (arith, less, end, length-map vs (λ (v : Variable). v.shows)))
])
