-- One part goes on by itself while the others are quiet: that is a leg of the board's way.
use Rattle.board_run.proofs.Common.{◌≡◌, ◌≢◌, ℕ, zero, suc, ◌+◌, ◌-◌, ◌<◌, ◌≤◌, List, [], length, map, Bool, true, false, Option, None, Some, refl, ap, sym}
use Rattle.board_run.proofs.Common.{◌∙◌, arith, inl, inr, length-set, slice_get, slice_set, if◌then◌else◌, flat_map, slice_get_within, eqb_tells, Drive}
use Rattle.board_run.proofs.Common.{Wiring, Input, MOST_CYCLES, Machine, Laws, glide, dues, sent, IsQuiet, IsSame, IsFirstDue, glide_valid, glide_drives}
use Rattle.board_run.proofs.Common.{glide_contacts, glide_pins, glide_ports, glide_holds, level_at, own_nets, input_at, states, bytes, Fits, NetsView, Shown}
use Rattle.board_run.proofs.Common.{shown_of, rows, some_same, get_map_some, some_map, flat_map_same, Alike, Stands, IsSteady, stands_here, stands_shows}
use Rattle.board_run.proofs.Common.{stands_holds, steady_states, steady_before, steady_rows, steady_cycles, steady_bytes, steady_pairs, quiet_dues, LastTells}
use Rattle.board_run.proofs.Common.{ReadingView, IsTold, retold, shown_at, glided, Replaced, Shifted, Kept, Lags, Leg, WentBy, IsAlone, AreBehind}
use Rattle.part_law.specs.declared.part.Went.{Went}
use Rattle.board_run.proofs.LagLemmas.{may_of, lags_stand, stand_are, lags_valid, lags_held, lags_shown, Ts}
use Rattle.board_run.proofs.ReadLemmas.{retold_suits, retold_is, flat_each}
use Rattle.board_run.proofs.ShowLemmas.{still_of, later_shown}
use Rattle.board_run.proofs.NextLemmas.{quiet_until}
use Rattle.board_run.proofs.TurnLemmas.{some_there, at_set, same_room, due_set}
use Rattle.board_run.proofs.LegLemmas.{quiet_rest, stands_later}

one_more : (b : Bool) (x n : ℕ) → x ≤ n → x + (if b then 1 else 0) ≤ suc n
one_more true x n h = omega arith
one_more false x n h = omega arith

module _ {S : Type 0} (m : Machine S) (laws : Laws m) where
  -- it is due at most once a cycle
  pub dues_most : (s : S) (a n : ℕ) → dues m s a n ≤ n
  dues_most s a zero = omega arith
  dues_most s a (suc n) = one_more (m.due (glide m s a n) (a + n)) (dues m s a n) n (dues_most s a n)

-- a part that went on, with as many pins and contacts, in place of what it was
pub went_replaces : {S P : Type 0} (m : Machine S) (laws : Laws m) (w : Wiring) (state : P → S) (now wakes : P → ℕ) (t n who : ℕ) (parts : List P) (c : NetsView) (p q : P) → slice_get parts who ≡ Some p →
    Fits m w (map state parts) → IsTold m (map state parts) c → state q ≡ glide m (glided m state now wakes t p) t n → Replaced m w state who parts (slice_set parts who q) c p q
went_replaces m laws w state now wakes t n who parts c p q here fits told is = record {
  was = here;
  new_is = refl;
  pins = ap (λ s. length (m.drives s)) is ∙ glide_pins m laws (glided m state now wakes t p) t n ∙ glide_pins m laws (state p) (now p) (t - now p);
  ports = ap (λ s. length (m.contacts s)) is ∙ glide_ports m laws (glided m state now wakes t p) t n ∙ glide_ports m laws (state p) (now p) (t - now p);
  fits = fits;
  told = told;
}

module _ {S P : Type 0} (m : Machine S) (laws : Laws m) (w : Wiring) (state : P → S) (now wakes : P → ℕ) (inputs : List Input)
    (t u : ℕ) (parts : List P) (kept : Kept) (lags : Lags m w state now wakes t parts kept) (fresh : kept.changed ≡ false) (after : 0 < t) (order : t ≤ u)
    (who : ℕ) (p0 q0 : P) (here : slice_get parts who ≡ Some p0)
    (quiet : (k : ℕ) (p : P) → k ≢ who → slice_get parts k ≡ Some p → IsQuiet m (state p) (now p) (u - now p))
    (silent : (v k : ℕ) → t ≤ v → v < u → input_at inputs v k ≡ None)
    (same : IsSame m (glided m state now wakes t p0) t (u - t))
    (state_is : state q0 ≡ glide m (glided m state now wakes t p0) t (u - t)) (now_is : now q0 ≡ u)
    (woken_is : wakes q0 ≡ wakes p0 + dues m (glided m state now wakes t p0) t (u - t)) where
  abbrev Js : List S
  Js = Ts m laws w state now wakes t parts

  abbrev s0 : S
  s0 = glided m state now wakes t p0

  like : Alike (λ k p s. Stands m t (now p) (state p) s) parts Js
  like = lags_stand m laws w state now wakes t parts kept lags

  there : slice_get Js who ≡ Some s0
  there = some_map (glided m state now wakes t) parts who p0 here

  valid : (k : ℕ) (s : S) → slice_get Js k ≡ Some s → m.valid s t ≡ true
  valid = lags_valid m laws w state now wakes t parts kept lags fresh after

  calm : (k : ℕ) (s : S) → k ≢ who → slice_get Js k ≡ Some s → IsQuiet m s t (u - t)
  calm k s other es =
      let p = get_map_some (glided m state now wakes t) parts k s es in
      let st = like.each k p.0 s p.1 es in
      quiet_rest m (state p.0) s (now p.0) t u st.not_later order st.is (quiet k p.0 other p.1)

  pub steady : IsSteady m w inputs Js t (u - t)
  steady = record {
    same = λ k s es. elim (eqb_tells k who) [
      | inl e ↦ let s_is : s ≡ s0 = cc (there, e.1, es) in rw s_is same
      | inr e ↦ record {
        same_drives = λ j l. glide_drives m laws s t j (valid k s es) (λ i (h : i < j). calm k s e.1 es i (omega arith));
        same_contacts = λ j l. glide_contacts m laws s t j (valid k s es) (λ i (h : i < j). calm k s e.1 es i (omega arith));
      }
    ];
    held = lags_held m laws w state now wakes t parts kept lags fresh after;
    silent = λ j k l. silent (t + j) k (omega arith) (omega arith);
  }

  abbrev new : List P
  new = slice_set parts who q0

  inside : who < length parts
  inside = slice_get_within parts who p0 here

  -- each part stands for where its state glides to
  stands_new : (k : ℕ) (z : P) (s : S) → slice_get new k ≡ Some z → slice_get Js k ≡ Some s → Stands m u (now z) (state z) (glide m s t (u - t))
  stands_new k z s ez es = elim (at_set parts who k q0 z inside ez) [
    | inl e ↦
        let s_is : s ≡ s0 = cc (there, e.0, es) in
        let end : t + (u - t) ≡ u = omega (arith, order) in
        rw (s_is, ← e.1, now_is, state_is) (stands_here m laws u (glide m s0 t (u - t)) (rw end at (glide_valid m laws s0 t (u - t) (valid who s0 there))))
    | inr e ↦ stands_later m (state z) s (now z) t u order (like.each k z s e.1 es) (quiet k z e.0 e.1)
  ]

  new_long : length new ≡ length parts
  new_long = length-set parts who q0

  pub alone_stands : Alike (λ k z x. Stands m u (now z) (state z) x) new (states m w inputs Js t (u - t))
  alone_stands =
      let glides = steady_states m laws w inputs Js t (u - t) steady (u - t) (omega arith) in
      record {
        long = new_long ∙ like.long ∙ glides.long;
        each = λ k z x ez ex.
            let s = some_there Js k (omega (arith, slice_get_within new k z ez, new_long, like.long)) in
            rw (glides.each k s.0 x s.1 ex) (stands_new k z s.0 ez s.1);
      }

  shown_same : shown_at t kept.reading ≡ Some (shown_of m w Js)
  shown_same = lags_shown m laws w state now wakes t parts kept lags fresh after

  pub alone_leg : (ds : List Drive) (cs : List Bool) (steps more : ℕ) → more ≡ steps + dues m s0 t (u - t) → Leg m w state now wakes inputs t u parts new kept.reading (retold kept.reading ds cs) steps more
  alone_leg ds cs steps more counted = record {
    order = order;
    long = new_long;
    states_are = stand_are m laws w state now wakes u new (states m w inputs Js t (u - t)) alone_stands;
    before_is = rw shown_same (steady_before m laws w inputs Js t (u - t) steady (u - t) (omega arith)) ∙ sym shown_same ∙ later_shown t 0 kept.reading after
        ∙ sym (later_shown u 0 kept.reading (omega (arith, after, order)));
    woken = λ k p z ep ez.
        let es : slice_get Js k ≡ Some (glided m state now wakes t p) = some_map (glided m state now wakes t) parts k p ep in
        let cycles = steady_cycles m laws w inputs Js t (u - t) steady (u - t) k (glided m state now wakes t p) (omega arith) es in
        elim (at_set parts who k q0 z inside ez) [
          | inl e ↦ let p_is : p ≡ p0 = cc (here, e.0, ep) in rw cycles (rw (← e.1, p_is) woken_is)
          | inr e ↦
              let none = quiet_dues m laws (glided m state now wakes t p) t (u - t) (calm k (glided m state now wakes t p) e.0 es) in
              omega (arith, ap wakes (some_same (sym e.1 ∙ ep)), none, cycles)
        ];
    steps_are = rw (steady_pairs m laws w inputs Js t (u - t) steady who s0 there valid calm (u - t) (omega arith)) counted;
  }

  -- the states at the end and one cycle before it
  abbrev End : List S
  End = states m w inputs Js t (u - t)

  abbrev Late : List S
  Late = states m w inputs Js t (u - t - 1)

  gliding : (j : ℕ) → j ≤ u - t → Alike (λ k s x. x ≡ glide m s t j) Js (states m w inputs Js t j)
  gliding j l = steady_states m laws w inputs Js t (u - t) steady j l

  late_same : {B : Type 0} (f : S → List B) → ((k : ℕ) (s : S) → slice_get Js k ≡ Some s → f (glide m s t (u - t - 1)) ≡ f s) → flat_map f Late ≡ flat_map f Js
  late_same f each =
      let like = gliding (u - t - 1) (omega arith) in
      flat_map_same f Late Js (sym like.long) (λ k x y ex ey. ap f (like.each k y x ey ex) ∙ each k y ey)

  late_drives : t < u → flat_map m.drives Late ≡ flat_map m.drives Js
  late_drives further = late_same m.drives (λ k s es. (steady.same k s es).same_drives (u - t - 1) (omega (arith, further)))

  late_contacts : t < u → flat_map m.contacts Late ≡ flat_map m.contacts Js
  late_contacts further = late_same m.contacts (λ k s es. (steady.same k s es).same_contacts (u - t - 1) (omega (arith, further)))

  end_still : m.drives (state q0) ≡ m.drives s0 → m.contacts (state q0) ≡ m.contacts s0 → (k : ℕ) (x y : S) → slice_get End k ≡ Some x → slice_get Js k ≡ Some y → (m.drives x ≡ m.drives y) × (m.contacts x ≡ m.contacts y)
  end_still drives contacts k x y ex ey =
      let x_is : x ≡ glide m y t (u - t) = (gliding (u - t) (omega arith)).each k y x ey ex in
      elim (eqb_tells k who) [
        | inl e ↦ let y_is : y ≡ s0 = cc (there, e.1, ey) in rw (x_is, y_is, ← state_is) (drives, contacts)
        | inr e ↦ rw x_is (glide_drives m laws y t (u - t) (valid k y ey) (calm k y e.1 ey), glide_contacts m laws y t (u - t) (valid k y ey) (calm k y e.1 ey))
      ]

  -- what its last step changed is what its end did, since all shows the same before
  pub alone_tells : (changed : Bool) → t < u → (changed ≡ false → m.drives (state q0) ≡ m.drives s0) → (changed ≡ false → m.contacts (state q0) ≡ m.contacts s0) →
      (changed ≡ true → m.drives (state q0) ≡ m.drives s0 → m.contacts (state q0) ≢ m.contacts s0) → LastTells m w inputs changed Js t (u - t)
  alone_tells changed further drives contacts other =
      let like = gliding (u - t) (omega arith) in
      record {
        same = λ none. (
          flat_map_same m.drives End Js (sym like.long) (λ k x y ex ey. (end_still (drives none) (contacts none) k x y ex ey).0) ∙ sym (late_drives further),
          flat_map_same m.contacts End Js (sym like.long) (λ k x y ex ey. (end_still (drives none) (contacts none) k x y ex ey).1) ∙ sym (late_contacts further),
        );
        other = λ one ds cs.
            let z = some_there End who (omega (arith, slice_get_within Js who s0 there, like.long)) in
            let z_is : state q0 ≡ z.0 = state_is ∙ sym (like.each who s0 z.0 there z.1) in
            other one
            (rw z_is (flat_each m.drives End Js (sym like.long) (λ k x y ex ey. rw (like.each k y x ey ex) (glide_pins m laws y t (u - t)))
            (ds ∙ late_drives further) who z.0 s0 z.1 there))
            (rw z_is (flat_each m.contacts End Js (sym like.long) (λ k x y ex ey. rw (like.each k y x ey ex) (glide_ports m laws y t (u - t)))
            (cs ∙ late_contacts further) who z.0 s0 z.1 there));
      }

  pub alone_rows : (n : ℕ) → n ≤ u - t → rows m w inputs (shown_at t kept.reading) Js t n ≡ []
  alone_rows n within = ap (λ (o : Option Shown). rows m w inputs o Js t n) shown_same ∙ steady_rows m laws w inputs Js t (u - t) steady n within

  pub alone_bytes : (n : ℕ) → n ≤ u - t → bytes m w inputs Js t n ≡ sent m s0 t n
  alone_bytes n within = steady_bytes m laws w inputs Js t (u - t) steady who s0 there valid calm n within

  -- a part after the stretch, with what it was
  record After (k : ℕ) (p z : P) : Type 0 where
    stands : Stands m u (now z) (state z) (glide m (glided m state now wakes t p) t (u - t))
    pins : length (m.drives (state p)) ≡ length (m.drives (state z))
    ports : length (m.contacts (state p)) ≡ length (m.contacts (state z))
    held : m.held (state z) ≡ m.held (state p)
    count : wakes z ≤ now z

  was_counted : (k : ℕ) (p : P) → slice_get parts k ≡ Some p → wakes p ≤ now p
  was_counted k p ep = (may_of m laws w state now wakes t parts kept lags k p ep).2.count

  after_is : (k : ℕ) (p z : P) → slice_get parts k ≡ Some p → slice_get new k ≡ Some z → After k p z
  after_is k p z ep ez =
      let s = glided m state now wakes t p in
      let es : slice_get Js k ≡ Some s = some_map (glided m state now wakes t) parts k p ep in
      let st = stands_new k z s ez es in
      let old = like.each k p s ep es in
      let was = stands_shows m laws t (now p) (state p) s old in
      let shows = stands_shows m laws u (now z) (state z) (glide m s t (u - t)) st in
      record {
        stands = st;
        pins = ap length was.drives ∙ sym (glide_pins m laws s t (u - t)) ∙ sym (ap length shows.drives);
        ports = ap length was.contacts ∙ sym (glide_ports m laws s t (u - t)) ∙ sym (ap length shows.contacts);
        held = sym (stands_holds m laws u (now z) (state z) (glide m s t (u - t)) st) ∙ glide_holds m laws s t (u - t) ∙ stands_holds m laws t (now p) (state p) s old;
        count = elim (at_set parts who k q0 z inside ez) [
          | inl e ↦
              let l = (like.each who p0 s0 here there).not_later in
              rw (← e.1) (omega (arith, dues_most m laws s0 t (u - t), was_counted who p0 here, l, woken_is, now_is, order))
          | inr e ↦ was_counted k z e.1
        ];
      }

  before : (k : ℕ) (z : P) → slice_get new k ≡ Some z → (p : P) × (slice_get parts k ≡ Some p) × After k p z
  before k z ez = let p = some_there parts k (omega (arith, slice_get_within new k z ez, new_long)) in (p.0, p.1, after_is k p.0 z p.1 ez)

  -- the invariant after it
  pub alone_lags : (changed : Bool) (d : Option ℕ) (ds : List Drive) (cs : List Bool) → IsTold m (map state new) (retold kept.reading ds cs).nets → IsFirstDue m (state q0) (now q0) d → (changed ≡ false → m.drives (state q0) ≡ m.drives s0) → (changed ≡ false → m.contacts (state q0) ≡ m.contacts s0) →
      Lags m w state now wakes u new (record { input = kept.input; changed = changed; dues = slice_set kept.dues who d; reading = retold kept.reading ds cs; answers = kept.answers })
  alone_lags changed d ds cs told first drives contacts =
      let room : who < length kept.dues = omega (arith, inside, lags.dues_long) in
      let due = due_set m state now wakes parts kept.dues who q0 d inside room (λ k p e ep ee. (lags.may k p e ep ee).first) first in
      let was = stands_shows m laws t (now p0) (state p0) s0 (like.each who p0 s0 here there) in
      let stays : (k : ℕ) (p z : P) → slice_get parts k ≡ Some p → slice_get new k ≡ Some z → changed ≡ false →
      (m.drives (state z) ≡ m.drives (state p)) × (m.contacts (state z) ≡ m.contacts (state p)) =
      λ k p z ep ez none. elim (at_set parts who k q0 z inside ez) [
        | inl e ↦ let p_is : p ≡ p0 = cc (here, e.0, ep) in rw (← e.1, p_is) (drives none ∙ sym was.drives, contacts none ∙ sym was.contacts)
        | inr e ↦ let z_is : z ≡ p = cc in rw z_is (refl, refl)
      ] in
      let room = same_room m w state parts new new_long (λ k p z ep ez. let h = after_is k p z ep ez in (h.pins, h.ports)) lags.fits in
      record {
        few = rw new_long lags.few;
        may = λ k z e ez ee. let h = (before k z ez).2 in
            record { not_later = h.stands.not_later; count = h.count; quiet = h.stands.quiet; first = due k z e ez ee };
        valid = λ k z ez. (before k z ez).2.stands.valid;
        dues_long = length-set kept.dues who d ∙ lags.dues_long ∙ sym new_long;
        answers_long = lags.answers_long ∙ sym new_long;
        silent = lags.silent;
        fits = room.0;
        suits = retold_suits m w (map state new) kept.reading ds cs room.0 lags.suits told;
        fresh = λ none. retold_is m w (map state new) kept.reading ds cs told
            (still_of m w state parts new kept.reading new_long (λ k p z ep ez. stays k p z ep ez none) (lags.fresh fresh));
        told = told;
        holds = λ k z ez later.
            let x = before k z ez in
            x.2.held ∙ lags.holds k x.0 x.1 after ∙ ap (λ (i : ℕ). map (level_at kept.reading.nets.levels) (own_nets w k i)) x.2.pins;
      }

-- a script whose next value is not before the limit
pub behind_between : (inputs : List Input) (i t u limit : ℕ) → t ≤ u → u ≤ limit → AreBehind inputs i t → AreBehind inputs i limit → AreBehind inputs i u
behind_between inputs i t u limit from within first last = record {
  within = first.within;
  earlier = λ k x l e. let a = first.earlier k x l e in omega (arith, a, from);
  later = λ k x l e. let a = last.later k x l e in omega (arith, a, within);
}

module _ {S P : Type 0} (m : Machine S) (laws : Laws m) (w : Wiring) (state : P → S) (now wakes : P → ℕ) (inputs : List Input) where
  -- what a stretch of one part does that ends at cycle u
  pub record Goes (t u : ℕ) (parts new : List P) (kept after : Kept) (steps more : ℕ) (bs : ℕ → List ℕ) : Type 0 where
    pub lags : Lags m w state now wakes u new after
    pub behind : AreBehind inputs after.input u
    pub leg : Leg m w state now wakes inputs t u parts new kept.reading after.reading steps more
    pub steady : IsSteady m w inputs (Ts m laws w state now wakes t parts) t (u - t)
    pub tells : LastTells m w inputs after.changed (Ts m laws w state now wakes t parts) t (u - t)
    pub row_none : (n : ℕ) → n ≤ u - t → rows m w inputs (shown_at t kept.reading) (Ts m laws w state now wakes t parts) t n ≡ []
    pub bytes_are : (n : ℕ) → n ≤ u - t → bytes m w inputs (Ts m laws w state now wakes t parts) t n ≡ bs n

  -- where a part was found that goes on alone up to a limit, and it did
  pub alone_goes : (moves : P → ℕ → Bool) (t limit : ℕ) (parts : List P) (kept : Kept) (changed : Bool) (steps more who : ℕ) (p q : P) (d : Option ℕ) (by : Went) (nets : NetsView) →
      IsTold m (map state (slice_set parts who q)) nets →
      Lags m w state now wakes t parts kept → kept.changed ≡ false → 0 < t → AreBehind inputs kept.input t → limit ≤ MOST_CYCLES → IsAlone inputs kept.dues kept.input who t limit →
      slice_get parts who ≡ Some p → WentBy m state now wakes moves t limit p q d by steps more → Shifted m state p q changed →
      Goes t by.to parts (slice_set parts who q) kept (record { input = kept.input; changed = changed; dues = slice_set kept.dues who d; reading = retold kept.reading nets.drives nets.closed; answers = kept.answers }) steps more (sent m (glided m state now wakes t p) t)
  alone_goes moves t limit parts kept changed steps more who p q d by nets is_told lags fresh later behind end alone here went shifted =
      let u = by.to in
      let ds = nets.drives in
      let cs = nets.closed in
      let told : IsTold m (map state (slice_set parts who q)) (retold kept.reading ds cs).nets = record { drives_are = is_told.drives_are; closed_are = is_told.closed_are } in
      let further = went.further in
      let within = went.within in
      let order : t ≤ u = omega (arith, further) in
      let last : u ≤ MOST_CYCLES = omega (arith, within, end) in
      let quiet : (k : ℕ) (x : P) → k ≢ who → slice_get parts k ≡ Some x → IsQuiet m (state x) (now x) (u - now x) = λ k x other ex.
      let e = may_of m laws w state now wakes t parts kept lags k x ex in
      quiet_until m state now wakes t u e.0 x order last e.2 (λ v is l. let far = alone.others k v other (e.1 ∙ ap Some is) in omega (arith, far, within)) in
      let silent : (v k : ℕ) → t ≤ v → v < u → input_at inputs v k ≡ None = λ v k from before. alone.silent v k from (omega (arith, before, within)) in
      let lagged = (may_of m laws w state now wakes t parts kept lags who p here).2.quiet in
      let drives_were = glide_drives m laws (state p) (now p) (t - now p) (lags.valid who p here) lagged in
      let contacts_were = glide_contacts m laws (state p) (now p) (t - now p) (lags.valid who p here) lagged in
      let drives = λ (none : changed ≡ false). (shifted.same none).0 ∙ sym drives_were in
      let contacts = λ (none : changed ≡ false). (shifted.same none).1 ∙ sym contacts_were in
      record {
        lags = alone_lags m laws w state now wakes inputs t u parts kept lags fresh later order who p q here quiet silent went.same went.state_is went.now_is went.woken_is changed d ds cs told went.first drives contacts;
        behind = behind_between inputs kept.input t u limit order within behind alone.behind;
        leg = alone_leg m laws w state now wakes inputs t u parts kept lags fresh later order who p q here quiet silent went.same went.state_is went.now_is went.woken_is ds cs steps more went.steps_are;
        steady = steady m laws w state now wakes inputs t u parts kept lags fresh later order who p q here quiet silent went.same went.state_is went.now_is went.woken_is;
        tells = alone_tells m laws w state now wakes inputs t u parts kept lags fresh later order who p q here quiet silent went.same went.state_is went.now_is went.woken_is changed further drives contacts
            (λ one same still. shifted.other one (same ∙ drives_were) (still ∙ contacts_were));
        row_none = alone_rows m laws w state now wakes inputs t u parts kept lags fresh later order who p q here quiet silent went.same went.state_is went.now_is went.woken_is;
        bytes_are = alone_bytes m laws w state now wakes inputs t u parts kept lags fresh later order who p q here quiet silent went.same went.state_is went.now_is went.woken_is;
      }
