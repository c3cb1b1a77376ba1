-- A part's turn is the step of the state that it stands for.
use Rattle.board_run.proofs.Common.{◌≡◌, ◌≢◌, ℕ, ◌+◌, ◌-◌, ◌<◌, ◌≤◌, List, length, map, Bool, true, false, Option, None, Some, refl, ap, sym, ◌∙◌, arith}
use Rattle.board_run.proofs.Common.{subst, zero, suc, inl, inr, ◌⊎◌, add-one, length-set, ◌||◌, not, if◌then◌else◌, take, slice_get, slice_index, slice_set}
use Rattle.board_run.proofs.Common.{is_some, eqb_tells, Level, Drive, Wiring, Input, Machine, Laws, IsQuiet, IsFirstDue, MayWake, not_due_now, due_now}
use Rattle.board_run.proofs.Common.{glide_holds, glide_pins, glide_ports, glide_drives, glide_contacts, drives_of, contacts_of, level_at, own_nets, input_at}
use Rattle.board_run.proofs.Common.{part_step, steps_from, same_list, same_level, chip_drives_of, Alike, SameShow, is_active, active_in, sum_below, Stands}
use Rattle.board_run.proofs.Common.{stands_here, stands_shows, stands_valid, stands_sleeps, stands_silent, slice_get_within, length-map, or_cases, or_parts}
use Rattle.board_run.proofs.Common.{MOST_CYCLES, some_same, lt_or_eq, get_set_same, get_set_other, get_map_some, length-steps_from, get_step, PartSet}
use Rattle.board_run.proofs.Common.{has_part, AreNone, Fits, IsTold, HasAt, Put, levels_on, NetsView, is_at, to_wake, glided, AreLate, MayTurn, MayTurnAt}
use Rattle.board_run.proofs.Common.{turned, Awaits, HadTurn, Turns, AreDue, Replaced, TookTurn}
use Rattle.board_run.proofs.StepLemmas.{get_answer}
pub use Rattle.board_run.proofs.NextLemmas.{some_there, at_set}
use Rattle.board_model.proofs.RoomLemmas.{SameRoom, fits_room, chips_room}
use Rattle.board_run.proofs.ReadLemmas.{less_or, told_more, still_told, told_still, others_told}

zero_or_more : (t : ℕ) → (t ≡ 0) ⊎ (0 < t)
zero_or_more t = grind arith

-- it is due exactly where its due cycle is this one
pub due_is : {S : Type 0} (m : Machine S) (r s : S) (a t : ℕ) (d : Option ℕ) → t < MOST_CYCLES → Stands m t a r s → IsFirstDue m r a d → is_at d t ≡ m.due s t
due_is m r s a t d end h first = go d first
  where
    go : (d : Option ℕ) → IsFirstDue m r a d → is_at d t ≡ m.due s t
    go None f = sym (ap (λ x. m.due x t) h.is ∙ not_due_now m r a t None h.not_later end h.quiet f (λ e. cc))
    go (Some u) f = elim (eqb_tells u t) [
      | inl same ↦ same.0 ∙ sym (ap (λ x. m.due x t) h.is ∙ due_now m r a t (subst (λ (v : ℕ). IsFirstDue m r a (Some v)) same.1 f))
      | inr other ↦ other.0 ∙ sym (ap (λ x. m.due x t) h.is ∙ not_due_now m r a t (Some u) h.not_later end h.quiet f (λ e. other.1 (cc)))
    ]

not_at : (d : Option ℕ) (t : ℕ) → d ≢ Some t → is_at d t ≡ false
not_at None t h = refl
not_at (Some u) t h = elim (eqb_tells u t) [ inl same ↦ absurd (h (ap Some same.1)) | inr other ↦ other.0 ]

-- a part that is to be woken may be woken
pub may_wake : {S P : Type 0} (m : Machine S) (laws : Laws m) (state : P → S) (now wakes : P → ℕ) (t : ℕ) (p : P) (due input : Option ℕ) (own : List Level) (differs : Bool) →
    MayTurn m state now wakes t due p → (differs ≡ true → 0 < t → m.held (state p) ≢ own) → to_wake due t input differs ≡ true → MayWake m (glided m state now wakes t p) t own input
may_wake m laws state now wakes t p due input own differs may other wake asleep none same = elim (zero_or_more t) [
  | inl first ↦
      let d : m.due (glided m state now wakes t p) t ≡ true = subst (λ (u : ℕ). m.due (glided m state now wakes t p) u ≡ true) (sym first) (laws.begins_due _) in
      absurd cc
  | inr after ↦
      let here : is_at due t ≡ false = not_at due t (λ e.
      let d : m.due (glided m state now wakes t p) t ≡ true = due_now m (state p) (now p) t (subst (λ (o : Option ℕ). IsFirstDue m (state p) (now p) o) e may.first) in
      cc) in
      let d : differs ≡ true = sym (ap (λ (b : Bool). b || (is_some input || differs)) here ∙ ap (λ (i : Option ℕ). is_some i || differs) none) ∙ wake in
      absurd (other d after (sym (glide_holds m laws (state p) (now p) (t - now p)) ∙ same))
]

module _ {S P : Type 0} (m : Machine S) (laws : Laws m) (w : Wiring) (inputs : List Input) (state : P → S) (now wakes : P → ℕ) (ls : List Level) (t k : ℕ) where
  -- whether it is woken is whether it is active
  pub wake_is : (p : P) (s : S) (due input : Option ℕ) (differs : Bool) → t < MOST_CYCLES → MayTurn m state now wakes t due p → Stands m t (now p) (state p) s →
      (0 < t → differs ≡ not (same_list same_level (levels_on m w ls k s) (m.held s))) → input ≡ input_at inputs t k → to_wake due t input differs ≡ is_active m w inputs ls t k s
  wake_is p s due input differs end may stands is_differing is_input = elim (zero_or_more t) [
    | inl first ↦
        let d : m.due s t ≡ true = subst (λ (u : ℕ). m.due s u ≡ true) (sym first) (laws.begins_due s) in
        let a : is_at due t ≡ true = due_is m (state p) s (now p) t due end stands may.first ∙ d in
        rw (a, d) refl
    | inr after ↦ rw (due_is m (state p) s (now p) t due end stands may.first, is_input, is_differing after) refl
  ]

  pub had_turn : (p q : P) (s : S) (due input byte : Option ℕ) (own : List Level) (differs changed : Bool) → t < MOST_CYCLES → MayTurn m state now wakes t due p → Stands m t (now p) (state p) s →
      own ≡ map (level_at ls) (own_nets w k (length (m.drives s))) → (0 < t → differs ≡ not (same_list same_level (levels_on m w ls k s) (m.held s))) → input ≡ input_at inputs t k →
      turned m state now wakes (to_wake due t input differs) t own input p q byte changed → HadTurn m w inputs state now wakes ls t k p q s byte changed
  had_turn p q s due input byte own differs changed end may stands is_own is_differing is_input turn =
      go (to_wake due t input differs) (wake_is p s due input differs end may stands is_differing is_input) turn
    where
      step_is : m.step (glided m state now wakes t p) t own input ≡ part_step m w inputs ls t k s
      step_is = rw (← stands.is, is_own, is_input) refl

      go : (b : Bool) → b ≡ is_active m w inputs ls t k s → turned m state now wakes b t own input p q byte changed → HadTurn m w inputs state now wakes ls t k p q s byte changed
      go true e h =
          let next = (part_step m w inputs ls t k s).0 in
          let state_is : state q ≡ next = h.state_is ∙ ap (λ (r : S × Option ℕ). r.0) step_is in
          let here : Stands m (t + 1) (t + 1) next next = stands_here m laws (t + 1) next (laws.keeps_valid s t _ _ (stands_valid m laws t (now p) (state p) s stands)) in
          record {
            stands = subst (λ (a : ℕ). Stands m (t + 1) a (state q) next) (sym h.now_is) (subst (λ (x : S). Stands m (t + 1) (t + 1) x next) (sym state_is) here);
            woken = h.woken ∙ ap (λ (b : Bool). wakes p + (if b then 1 else 0)) e;
            count = omega (arith, h.woken, h.now_is, may.count, may.not_later);
            byte_is = h.byte_is ∙ ap (λ (r : S × Option ℕ). r.1) step_is;
            still = λ none. record {
              drives = ap m.drives (sym state_is) ∙ h.drives none ∙ ap m.drives (sym stands.is);
              contacts = ap m.contacts (sym state_is) ∙ h.contacts none ∙ ap m.contacts (sym stands.is);
            };
          }
      go false e h =
          let asleep = sym e in
          let next = (part_step m w inputs ls t k s).0 in
          let sleeps : Stands m (t + 1) (now p) (state p) next = stands_sleeps m laws w inputs ls k t (now p) (state p) s stands asleep in
          let a = stands_shows m laws t (now p) (state p) s stands in
          let b = stands_shows m laws (t + 1) (now p) (state p) next sleeps in
          record {
            stands = subst (λ (x : P). Stands m (t + 1) (now x) (state x) next) (sym h.0) sleeps;
            woken = ap wakes h.0 ∙ (let z : wakes p ≡ wakes p + 0 = omega arith in z) ∙ ap (λ (b : Bool). wakes p + (if b then 1 else 0)) e;
            count = subst (λ (x : P). wakes x ≤ now x) (sym h.0) may.count;
            byte_is = h.1 ∙ sym (stands_silent m laws w inputs ls k t (now p) (state p) s stands asleep);
            still = λ none. record { drives = sym b.drives ∙ a.drives; contacts = sym b.contacts ∙ a.contacts };
          }

module _ {S P : Type 0} (m : Machine S) (laws : Laws m) (w : Wiring) (inputs : List Input) (state : P → S) (now wakes : P → ℕ) (ls : List Level) (t : ℕ) (ts : List S) where
  pub turns_none : (ps : List P) (answers : List (Option ℕ)) → Turns m w inputs state now wakes ls t ts 0 ps ps answers false
  turns_none ps answers = record {
    done = λ k p q s h. absurd (omega arith);
    answered = λ k h. absurd (omega arith);
    still = λ none k s h. absurd (omega arith);
    other = λ (one : false ≡ true). absurd cc;
  }

  -- one more turn
  pub turns_more : (i : ℕ) (old new : List P) (answers : List (Option ℕ)) (changed touched more : Bool) (p q : P) (s : S) (byte : Option ℕ) →
      Turns m w inputs state now wakes ls t ts i old new answers changed → slice_get old i ≡ Some p → slice_get ts i ≡ Some s → i < length new → i < length answers →
      HadTurn m w inputs state now wakes ls t i p q s byte touched → (more ≡ false → SameShow m m (part_step m w inputs ls t i s).0 s) →
      (more ≡ true → m.drives (part_step m w inputs ls t i s).0 ≡ m.drives s → m.contacts (part_step m w inputs ls t i s).0 ≢ m.contacts s) →
      Turns m w inputs state now wakes ls t ts (i + 1) old (slice_set new i q) (slice_set answers i byte) (changed || more)
  turns_more i old new answers changed touched more p q s byte turns ep es within room turn still other = record {
    done = λ k a b u l ea eb eu. elim (at_set new i k q b within eb) [
      | inl here ↦
          let a_is : p ≡ a = cc in
          let u_is : s ≡ u = cc in
          rw (here.0, ← u_is, ← a_is, ← here.1) (turn.stands, turn.woken, turn.count)
      | inr other ↦ turns.done k a b u (omega (arith, l, other.0)) ea other.1 eu
    ];
    answered = λ k l. elim (lt_or_eq k i l) [
      | inl less ↦ get_set_other answers i k byte (omega arith) ∙ turns.answered k less
      | inr same ↦ rw same (get_set_same answers i byte room ∙ ap Some turn.byte_is ∙ sym (get_answer m w inputs ls t i ts s es))
    ];
    still = λ none k u l eu. let both = or_parts changed more none in elim (lt_or_eq k i l) [
      | inl less ↦ turns.still both.0 k u less eu
      | inr same ↦ let u_is : s ≡ u = cc in rw (same, ← u_is) (still both.1)
    ];
    other = λ one. elim (or_cases changed more one) [
      | inl before ↦ let x = turns.other before in (x.0, x.1, (let l = x.2 in omega (arith, l)), x.3, x.4)
      | inr here ↦ (i, s, omega arith, es, other here)
    ];
  }

  -- parts that are passed over
  pub turns_skip : (i j : ℕ) (old new : List P) (answers : List (Option ℕ)) (changed : Bool) → i ≤ j → Turns m w inputs state now wakes ls t ts i old new answers changed → length old ≡ length ts → j ≤ length old → length old ≤ length answers →
      ((k : ℕ) → i ≤ k → slice_get new k ≡ slice_get old k) → ((k : ℕ) (a : Option ℕ) → i ≤ k → slice_get answers k ≡ Some a → a ≡ None) →
      ((k : ℕ) (p : P) (s : S) → i ≤ k → k < j → slice_get old k ≡ Some p → slice_get ts k ≡ Some s → HadTurn m w inputs state now wakes ls t k p p s None false) →
      Turns m w inputs state now wakes ls t ts j old new answers changed
  turns_skip i j old new answers changed least turns like inside room rest quiet pass = record {
    done = λ k p q s l ep eq es. elim (less_or k i) [
      | inl less ↦ turns.done k p q s less ep eq es
      | inr more ↦
          let q_is : q ≡ p = some_same (sym eq ∙ rest k more ∙ ep) in
          let h = pass k p s more l ep es in
          rw q_is (h.stands, h.woken, h.count)
    ];
    answered = λ k l. elim (less_or k i) [
      | inl less ↦ turns.answered k less
      | inr more ↦
          let p = some_there old k (omega (arith, l, inside)) in
          let s = some_there ts k (omega (arith, l, inside, like)) in
          let a = some_there answers k (omega (arith, l, inside, room)) in
          a.1 ∙ ap Some (quiet k a.0 more a.1 ∙ (pass k p.0 s.0 more l p.1 s.1).byte_is) ∙ sym (get_answer m w inputs ls t k ts s.0 s.1)
    ];
    still = λ none k s l es. elim (less_or k i) [
      | inl less ↦ turns.still none k s less es
      | inr more ↦ let p = some_there old k (omega (arith, l, inside)) in (pass k p.0 s more l p.1 es).still refl
    ];
    other = λ one. let x = turns.other one in (x.0, x.1, (let l = x.2 in omega (arith, l, least)), x.3, x.4);
  }

  -- after all turns the parts stand for the states after the cycle
  pub turns_stand : (old new : List P) (answers : List (Option ℕ)) (changed : Bool) (n : ℕ) → length old ≤ n → length new ≡ length old → length old ≡ length ts →
      Turns m w inputs state now wakes ls t ts n old new answers changed → Alike (λ k q u. Stands m (t + 1) (now q) (state q) u) new (map (λ r. r.0) (steps_from m w inputs ls t 0 ts))
  turns_stand old new answers changed n all long same turns = record {
    long = long ∙ same ∙ sym (simp length-map (length-steps_from m w inputs ls t 0 ts));
    each = λ k q u eq eu.
        let r = get_map_some (λ (r : S × Option ℕ). r.0) (steps_from m w inputs ls t 0 ts) k u eu in
        let f = get_step m w inputs ls t k ts r.0 r.1 in
        let within : k < length new = slice_get_within new k q eq in
        let p = some_there old k (omega (arith, long)) in
        let e : u ≡ (part_step m w inputs ls t k f.0).0 = sym (ap (λ (r : S × Option ℕ). r.0) f.2 ∙ r.2) in
        rw e (turns.done k p.0 q f.0 (omega arith) p.1 eq f.1).0;
  }

-- what a step changed is what the part changed that stands for it
module _ {S P : Type 0} (m : Machine S) (laws : Laws m) (w : Wiring) (inputs : List Input) (state : P → S) (now : P → ℕ) (ls : List Level) (t k : ℕ) (p q : P) (s : S)
    (was : Stands m t (now p) (state p) s) (is : Stands m (t + 1) (now q) (state q) (part_step m w inputs ls t k s).0) where
  pub step_still : (m.drives (state q) ≡ m.drives (state p)) × (m.contacts (state q) ≡ m.contacts (state p)) → SameShow m m (part_step m w inputs ls t k s).0 s
  step_still same =
      let a = stands_shows m laws t (now p) (state p) s was in
      let b = stands_shows m laws (t + 1) (now q) (state q) (part_step m w inputs ls t k s).0 is in
      record { drives = sym b.drives ∙ same.0 ∙ a.drives; contacts = sym b.contacts ∙ same.1 ∙ a.contacts }

  pub still_step : m.drives (part_step m w inputs ls t k s).0 ≡ m.drives s → m.contacts (part_step m w inputs ls t k s).0 ≡ m.contacts s →
      (m.drives (state q) ≡ m.drives (state p)) × (m.contacts (state q) ≡ m.contacts (state p))
  still_step ds cs =
      let a = stands_shows m laws t (now p) (state p) s was in
      let b = stands_shows m laws (t + 1) (now q) (state q) (part_step m w inputs ls t k s).0 is in
      (b.drives ∙ ds ∙ sym a.drives, b.contacts ∙ cs ∙ sym a.contacts)

-- What a part drives and connects after its turn, beside what it did.
module _ {S P : Type 0} (m : Machine S) (laws : Laws m) (state : P → S) (now wakes : P → ℕ) (t : ℕ) (p q : P) where
  -- it has as many pins and contacts
  pub turned_room : (b : Bool) (own : List Level) (input byte : Option ℕ) (changed : Bool) → turned m state now wakes b t own input p q byte changed →
      (length (m.drives (state q)) ≡ length (m.drives (state p))) × (length (m.contacts (state q)) ≡ length (m.contacts (state p)))
  turned_room true own input byte changed h = (
    ap (λ (s : S). length (m.drives s)) h.state_is ∙ laws.keeps_pins _ t own input ∙ glide_pins m laws (state p) (now p) (t - now p),
    ap (λ (s : S). length (m.contacts s)) h.state_is ∙ laws.keeps_contacts _ t own input ∙ glide_ports m laws (state p) (now p) (t - now p),
  )
  turned_room false own input byte changed h = (ap (λ (x : P). length (m.drives (state x))) h.0, ap (λ (x : P). length (m.contacts (state x))) h.0)

  -- it drives and connects the same, where its wake says so
  pub turned_still : (b : Bool) (own : List Level) (input byte : Option ℕ) (changed : Bool) → m.valid (state p) (now p) ≡ true → IsQuiet m (state p) (now p) (t - now p) → turned m state now wakes b t own input p q byte changed → changed ≡ false →
      (m.drives (state q) ≡ m.drives (state p)) × (m.contacts (state q) ≡ m.contacts (state p))
  turned_still true own input byte changed v quiet h none = (
    h.drives none ∙ glide_drives m laws (state p) (now p) (t - now p) v quiet,
    h.contacts none ∙ glide_contacts m laws (state p) (now p) (t - now p) v quiet,
  )
  turned_still false own input byte changed v quiet h none = (ap (λ (x : P). m.drives (state x)) h.0, ap (λ (x : P). m.contacts (state x)) h.0)

  -- and so do the pins that did not move
  pub turned_others : (moves : ℕ → Bool) → m.valid (state p) (now p) ≡ true → IsQuiet m (state p) (now p) (t - now p) →
      ((j : ℕ) → moves j ≡ false → slice_get (m.drives (state q)) j ≡ slice_get (m.drives (glided m state now wakes t p)) j) → (j : ℕ) → moves j ≡ false → slice_get (m.drives (state q)) j ≡ slice_get (m.drives (state p)) j
  turned_others moves v quiet same j none = same j none ∙ ap (λ l. slice_get l j) (glide_drives m laws (state p) (now p) (t - now p) v quiet)

-- parts with as many pins and contacts in place of others
pub same_room : {S P : Type 0} (m : Machine S) (w : Wiring) (state : P → S) (old new : List P) → length new ≡ length old →
    ((k : ℕ) (p q : P) → slice_get old k ≡ Some p → slice_get new k ≡ Some q → SameRoom m k (state p) (state q)) →
    Fits m w (map state old) → Fits m w (map state new) × (length (chip_drives_of m w.chip (map state old)) ≡ length (chip_drives_of m w.chip (map state new)))
same_room {S} m w state old new long each fits =
    (fits_room m w (map state old) (map state new) longer room fits, chips_room m w.chip (map state old) (map state new) longer room)
  where
    longer : length (map state old) ≡ length (map state new)
    longer = simp length-map (sym long)

    room : (k : ℕ) (x y : S) → slice_get (map state old) k ≡ Some x → slice_get (map state new) k ≡ Some y → SameRoom m k x y
    room k x y ex ey =
        let a = get_map_some state old k x ex in
        let b = get_map_some state new k y ey in
        rw (← a.2, ← b.2) (each k a.0 b.0 a.1 b.1)

pub fits_set : {S P : Type 0} (m : Machine S) (w : Wiring) (state : P → S) (parts : List P) (i : ℕ) (p q : P) → slice_get parts i ≡ Some p →
    SameRoom m i (state p) (state q) →
    Fits m w (map state parts) → Fits m w (map state (slice_set parts i q))
fits_set m w state parts i p q ep room fits =
    (same_room m w state parts (slice_set parts i q) (length-set parts i q) (λ k x y ex ey. elim (at_set parts i k q y (slice_get_within parts i p ep) ey) [
      | inl here ↦ let x_is : p ≡ x = cc in rw (← x_is, ← here.1) room
      | inr other ↦ let x_is : x ≡ y = cc in rw x_is (refl, refl)
    ]) fits).0

-- What nets have of part i, which was p and is q, and whose pins begin at a place: they were told what the parts before it was replaced show.
pub record Placed {S P : Type 0} (m : Machine S) (w : Wiring) (state : P → S) (i first : ℕ) (new : List P) (c : NetsView) (p q : P) : Type 0 where
  pub there : slice_get new i ≡ Some q
  pub fits : Fits m w (map state new)
  pub place : first ≡ length (drives_of m (take i (map state new)))
  pub has : m.drives (state q) ≡ m.drives (state p) → m.contacts (state q) ≡ m.contacts (state p) →
      HasAt first (m.drives (state q)) c.drives × HasAt (length (contacts_of m (take i (map state new)))) (m.contacts (state q)) c.closed
  pub keeps : HasAt first (m.drives (state q)) c.drives → HasAt (length (contacts_of m (take i (map state new)))) (m.contacts (state q)) c.closed →
      (m.drives (state q) ≡ m.drives (state p)) × (m.contacts (state q) ≡ m.contacts (state p))
  pub others : (moves : ℕ → Bool) → ((j : ℕ) → moves j ≡ false → slice_get (m.drives (state q)) j ≡ slice_get (m.drives (state p)) j) →
      (j : ℕ) → j < length (m.drives (state q)) → moves j ≡ false → slice_get c.drives (first + j) ≡ slice_get (m.drives (state q)) j
  pub told : (after : NetsView) → Put first (length (m.drives (state q))) (m.drives (state q)) c.drives after.drives →
      Put (length (contacts_of m (take i (map state new)))) (length (m.contacts (state q))) (m.contacts (state q)) c.closed after.closed → IsTold m (map state new) after

pub placed : {S P : Type 0} (m : Machine S) (w : Wiring) (state : P → S) (i first : ℕ) (old new : List P) (c : NetsView) (p q : P) → Replaced m w state i old new c p q → first ≡ slice_index w.first_pin i →
    Placed m w state i first new c p q
placed m w state i first old new c p q was at =
    let within = slice_get_within old i p was.was in
    let long : length (map state old) ≡ length old = simp length-map refl in
    let long_after : length (map state (slice_set old i q)) ≡ length old = simp length-map (length-set old i q) in
    let place = at ∙ was.fits.places i (omega (arith, long, within)) in
    let fits_after = fits_set m w state old i p q was.was (sym was.pins, sym was.ports) was.fits in
    subst (λ (l : List _). Placed m w state i first l c p q) (sym was.new_is) (record {
      there = get_set_same old i q within;
      fits = fits_after;
      place = at ∙ fits_after.places i (omega (arith, long_after, within));
      has = still_told m state old i p q c c was.was was.told was.pins was.ports first place;
      keeps = told_still m state old i p q c c was.was was.told was.pins was.ports first place;
      others = λ moves same. others_told m state old i p q c c was.was was.told was.pins was.ports first place moves same;
      told = λ after. told_more m state old i p q c after was.was was.told was.pins was.ports first place;
    })

-- the due cycles of all parts, where one was renewed
pub due_set : {S P : Type 0} (m : Machine S) (state : P → S) (now wakes : P → ℕ) (parts : List P) (dues : List (Option ℕ)) (i : ℕ) (q : P) (d : Option ℕ) →
    i < length parts → i < length dues → AreDue m state now wakes parts dues → IsFirstDue m (state q) (now q) d → AreDue m state now wakes (slice_set parts i q) (slice_set dues i d)
due_set m state now wakes parts dues i q d hp hd are first k p e ep ee = elim (at_set parts i k q p hp ep) [
  | inl here ↦ let e_is : d ≡ e = some_same (sym (get_set_same dues i d hd) ∙ rw here.0 at ee) in rw (← here.1, ← e_is) first
  | inr other ↦ are k p e other.1 (sym (get_set_other dues i k d other.0) ∙ ee)
]

-- what a part that is awaited has
module _ {S P : Type 0} (m : Machine S) (laws : Laws m) (w : Wiring) (given inputs : List Input) (state : P → S) (now wakes : P → ℕ) (ls : List Level) (differ : PartSet) (t : ℕ) (parts : List P) (ts : List S)
    (end : t < MOST_CYCLES) (awaits : Awaits m w state now given inputs ls differ t parts ts) where
  -- its turn
  pub awaited_turn : (k : ℕ) (p q : P) (s : S) (due byte : Option ℕ) (changed : Bool) → slice_get parts k ≡ Some p → slice_get ts k ≡ Some s → MayTurn m state now wakes t due p →
      turned m state now wakes (to_wake due t (input_at given t k) (has_part differ k)) t (levels_on m w ls k (state p)) (input_at given t k) p q byte changed →
      HadTurn m w inputs state now wakes ls t k p q s byte changed
      × (active_in m w inputs ls t k (Some s) ≡ (if to_wake due t (input_at given t k) (has_part differ k) then 1 else 0))
  awaited_turn k p q s due byte changed ep es may turn =
      let stands = awaits.stands.each k p s ep es in
      let own_is = ap (λ (l : List Drive). map (level_at ls) (own_nets w k (length l))) (stands_shows m laws t (now p) (state p) s stands).drives in
      let differs_is = awaits.differs k s es in
      let input_is = awaits.given_are k in (
        had_turn m laws w inputs state now wakes ls t k p q s due (input_at given t k) byte _ (has_part differ k) changed end may stands own_is differs_is input_is turn,
        ap (λ (b : Bool). if b then 1 else 0) (sym (wake_is m laws w inputs state now wakes ls t k p s due (input_at given t k) (has_part differ k) end may stands differs_is input_is)),
      )

  -- and that it is passed over, where it is not due and nothing comes
  pub awaited_rest : (k : ℕ) (p : P) (s : S) (due : Option ℕ) → slice_get parts k ≡ Some p → slice_get ts k ≡ Some s → has_part differ k ≡ false → MayTurn m state now wakes t due p → due ≢ Some t → input_at given t k ≡ None →
      HadTurn m w inputs state now wakes ls t k p p s None false × (active_in m w inputs ls t k (Some s) ≡ 0)
  awaited_rest k p s due ep es none may other silent =
      let stands = awaits.stands.each k p s ep es in
      let own = map (level_at ls) (own_nets w k (length (m.drives s))) in
      let differs_is = λ (l : 0 < t). sym none ∙ awaits.differs k s es l in
      let input_is = sym silent ∙ awaits.given_are k in
      let asleep : to_wake due t None false ≡ false = ap (λ (b : Bool). b || (false || false)) (not_at due t other) in
      let turn : turned m state now wakes (to_wake due t None false) t own None p p None false = subst (λ (b : Bool). turned m state now wakes b t own None p p None false) (sym asleep) (refl, refl) in (
        had_turn m laws w inputs state now wakes ls t k p p s due None None own false false end may stands refl differs_is input_is turn,
        ap (λ (b : Bool). if b then 1 else 0) (sym (wake_is m laws w inputs state now wakes ls t k p s due None false end may stands differs_is input_is) ∙ asleep),
      )

-- where one part's due cycle was renewed, and comes later
pub late_set : (dues new : List (Option ℕ)) (i t : ℕ) (d : Option ℕ) → i < length dues → new ≡ slice_set dues i d → AreLate dues t → ((u : ℕ) → d ≡ Some u → t < u) → AreLate new t
late_set dues new i t d within new_is late later k u ed = elim (at_set dues i k d (Some u) within (rw new_is at ed)) [
  | inl here ↦ let l = later u here.1 in omega (arith, l)
  | inr other ↦ late k u other.1
]

-- no part is due that was not before, and that one is not either
pub passed_set : (dues new : List (Option ℕ)) (i n t : ℕ) (d : Option ℕ) → i < length dues → new ≡ slice_set dues i d → ((k : ℕ) → k < n → slice_get dues k ≢ Some (Some t)) → ((u : ℕ) → d ≡ Some u → t < u) →
    (k : ℕ) → (k ≢ i → k < n) → slice_get new k ≢ Some (Some t)
passed_set dues new i n t d within new_is passed later k less e = elim (at_set dues i k d (Some t) within (rw new_is at e)) [
  | inl here ↦ let h = later t here.1 in absurd (omega (arith, h))
  | inr other ↦ passed k (less other.0) other.1
]

sum_none : (i n : ℕ) (f : ℕ → ℕ) → ((k : ℕ) → i ≤ k → k < i + n → f k ≡ 0) → sum_below (i + n) f ≡ sum_below i f
sum_none i zero f none = let e : i + zero ≡ i = omega arith in ap (λ (j : ℕ). sum_below j f) e
sum_none i (suc n) f none =
    let e : i + suc n ≡ suc (i + n) = omega arith in
    ap (λ (j : ℕ). sum_below j f) e ∙ omega (arith, none (i + n) (omega arith) (omega arith), sum_none i n f (λ k l h. none k l (omega (arith, h))))

-- parts that are passed over count nothing
pub sum_skip : (i j : ℕ) (f : ℕ → ℕ) → i ≤ j → ((k : ℕ) → i ≤ k → k < j → f k ≡ 0) → sum_below j f ≡ sum_below i f
sum_skip i j f least none =
    let e : i + (j - i) ≡ j = omega arith in
    ap (λ (n : ℕ). sum_below n f) (sym e) ∙ sum_none i (j - i) f (λ k l h. none k l (omega (arith, h, e)))

-- Of some parts those before number i had their turn; the others are as they were, due when they were, and did not answer.
pub record Begun {P : Type 0} (old : List P) (was : List (Option ℕ)) (i : ℕ) (parts : List P) (dues answers : List (Option ℕ)) : Type 0 where
  pub long : length parts ≡ length old
  pub rest : (k : ℕ) → i ≤ k → slice_get parts k ≡ slice_get old k
  pub dues_long : length dues ≡ length was
  pub due_rest : (k : ℕ) → i ≤ k → slice_get dues k ≡ slice_get was k
  pub answers_long : length answers ≡ length old
  pub quiet : (k : ℕ) (a : Option ℕ) → i ≤ k → slice_get answers k ≡ Some a → a ≡ None

-- no turn has begun
pub begun_none : {P : Type 0} (parts : List P) (dues answers : List (Option ℕ)) (i : ℕ) → length answers ≡ length parts → AreNone answers → Begun parts dues i parts dues answers
begun_none parts dues answers i long none = record {
  long = refl;
  rest = λ k l. refl;
  dues_long = refl;
  due_rest = λ k l. refl;
  answers_long = long;
  quiet = λ k a l ea. none k a ea;
}

-- part i had its turn, and those up to number j are passed over
pub begun_on : {P : Type 0} (old : List P) (was : List (Option ℕ)) (i j : ℕ) (parts new : List P) (dues later answers after : List (Option ℕ)) (y : P) (d byte : Option ℕ) → Begun old was i parts dues answers → i < j →
    new ≡ slice_set parts i y → later ≡ slice_set dues i d → after ≡ slice_set answers i byte → Begun old was j new later after
begun_on {P} old was i j parts new dues later answers after y d byte begun order new_is later_is after_is = record {
  long = ap length new_is ∙ length-set parts i y ∙ begun.long;
  rest = λ k l. ap (λ (q : List P). slice_get q k) new_is ∙ get_set_other parts i k y (omega (arith, l, order)) ∙ begun.rest k (omega (arith, l, order));
  dues_long = ap length later_is ∙ length-set dues i d ∙ begun.dues_long;
  due_rest = λ k l. ap (λ (q : List (Option ℕ)). slice_get q k) later_is ∙ get_set_other dues i k d (omega (arith, l, order)) ∙ begun.due_rest k (omega (arith, l, order));
  answers_long = ap length after_is ∙ length-set answers i byte ∙ begun.answers_long;
  quiet = λ k a l ea. begun.quiet k a (omega (arith, l, order)) (sym (ap (λ (q : List (Option ℕ)). slice_get q k) after_is ∙ get_set_other answers i k byte (omega (arith, l, order))) ∙ ea);
}

-- The turns of parts that lag behind a board, where those are marked that differ or that the script addresses.
module _ {S P : Type 0} (m : Machine S) (laws : Laws m) (w : Wiring) (given inputs : List Input) (state : P → S) (now wakes : P → ℕ) (ls : List Level) (marked differ : PartSet) (t : ℕ) (old : List P) (was : List (Option ℕ)) (ts : List S)
    (end : t < MOST_CYCLES) (few : length old ≤ 64) (long : length was ≡ length old) (may : (k : ℕ) → MayTurnAt m state now wakes t old was k)
    (marks : (k : ℕ) → k < 64 → has_part marked k ≡ false → (has_part differ k ≡ false) × (input_at given t k ≡ None)) (awaits : Awaits m w state now given inputs ls differ t old ts) where
  -- those up to number j are passed over
  pub turns_pass : (i j : ℕ) (parts : List P) (dues answers : List (Option ℕ)) (changed : Bool) → Begun old was i parts dues answers → Turns m w inputs state now wakes ls t ts i old parts answers changed → i ≤ j → j ≤ length old →
      ((k : ℕ) → i ≤ k → k < j → has_part marked k ≡ false) → ((k : ℕ) → k < j → slice_get dues k ≢ Some (Some t)) →
      Turns m w inputs state now wakes ls t ts j old parts answers changed × (sum_below j (λ k. active_in m w inputs ls t k (slice_get ts k)) ≡ sum_below i (λ k. active_in m w inputs ls t k (slice_get ts k)))
  turns_pass i j parts dues answers changed begun turns order within unmarked passed =
      let rest = λ (k : ℕ) (p : P) (s : S) (l : i ≤ k) (h : k < j) (ep : slice_get old k ≡ Some p) (es : slice_get ts k ≡ Some s).
      let none = marks k (omega (arith, h, within, few)) (unmarked k l h) in
      let d = some_there was k (omega (arith, h, within, long)) in
      awaited_rest m laws w given inputs state now wakes ls differ t old ts end awaits k p s d.0 ep es none.0 (may k p d.0 ep d.1) (λ same. passed k h (begun.due_rest k l ∙ d.1 ∙ ap Some same)) none.1 in (
        turns_skip m laws w inputs state now wakes ls t ts i j old parts answers changed order turns awaits.stands.long within (omega (arith, begun.answers_long)) begun.rest begun.quiet
            (λ k p s l h ep es. (rest k p s l h ep es).0),
        sum_skip i j (λ k. active_in m w inputs ls t k (slice_get ts k)) order (λ k l h.
            let x = some_there old k (omega (arith, h, within)) in
            let s = some_there ts k (omega (arith, h, within, awaits.stands.long)) in
            ap (active_in m w inputs ls t k) s.1 ∙ (rest k x.0 s.0 l h x.1 s.1).1),
      )

  -- part i has its turn before
  pub turns_on : (i j : ℕ) (parts new : List P) (dues later answers after : List (Option ℕ)) (changed more : Bool) (x y : P) (d e byte : Option ℕ) → Begun old was i parts dues answers →
      Turns m w inputs state now wakes ls t ts i old parts answers changed → slice_get parts i ≡ Some x → slice_get dues i ≡ Some d → new ≡ slice_set parts i y → later ≡ slice_set dues i e → after ≡ slice_set answers i byte →
      TookTurn m w state now wakes ls t i (input_at given t i) (has_part differ i) d x y byte more → i < j → j ≤ length old → ((k : ℕ) → i + 1 ≤ k → k < j → has_part marked k ≡ false) → ((k : ℕ) → k < j → slice_get later k ≢ Some (Some t)) →
      Turns m w inputs state now wakes ls t ts j old new after (changed || more)
      × (sum_below j (λ k. active_in m w inputs ls t k (slice_get ts k)) ≡ sum_below i (λ k. active_in m w inputs ls t k (slice_get ts k)) + (if to_wake d t (input_at given t i) (has_part differ i) then 1 else 0))
  turns_on i j parts new dues later answers after changed more x y d e byte begun turns ex ed new_is later_is after_is took order within unmarked passed =
      let inside : i < length parts = slice_get_within parts i x ex in
      let ep = sym (begun.rest i (omega arith)) ∙ ex in
      let s = some_there ts i (omega (arith, begun.long, awaits.stands.long, inside)) in
      let had = awaited_turn m laws w given inputs state now wakes ls differ t old ts end awaits i x y s.0 d byte took.touched ep s.1 (may i x d ep (sym (begun.due_rest i (omega arith)) ∙ ed)) took.turn in
      let stood = awaits.stands.each i x s.0 ep s.1 in
      let here : active_in m w inputs ls t i (slice_get ts i) ≡ (if to_wake d t (input_at given t i) (has_part differ i) then 1 else 0) = ap (active_in m w inputs ls t i) s.1 ∙ had.1 in
      let one = turns_more m laws w inputs state now wakes ls t ts i old parts answers changed took.touched more x y s.0 byte turns ep s.1 inside (omega (arith, begun.answers_long, begun.long, inside)) had.0
      (λ none. step_still m laws w inputs state now ls t i x y s.0 stood had.0.stands (took.shifted.same none))
      (λ other ds cs. let still = still_step m laws w inputs state now ls t i x y s.0 stood had.0.stands ds cs in took.shifted.other other still.0 still.1) in
      let count : sum_below (i + 1) (λ k. active_in m w inputs ls t k (slice_get ts k)) ≡ sum_below i (λ k. active_in m w inputs ls t k (slice_get ts k)) + (if to_wake d t (input_at given t i) (has_part differ i) then 1 else 0) = rw add-one (omega (arith, here)) in
      let pass = turns_pass (i + 1) j new later after (changed || more) (begun_on old was i (i + 1) parts new dues later answers after y e byte begun (omega arith) new_is later_is after_is)
      (rw (new_is, after_is) one)
      (omega (arith, order)) within unmarked passed in
      (pass.0, pass.1 ∙ count)
