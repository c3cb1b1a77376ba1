-- Legs that follow on each other, and legs over quiet cycles.
use Rattle.board_run.proofs.Common.{◌≡◌, ℕ, zero, suc, ◌+◌, ◌-◌, ◌<◌, ◌≤◌, List, [], ◌++◌, length, map, Bool, true, false, Option, None, Some, refl, ap, sym}
use Rattle.board_run.proofs.Common.{◌∙◌, arith, subst, slice_get, slice_get_within, length-map, Wiring, Input, Machine, Laws, glide, idle, IsQuiet}
use Rattle.board_run.proofs.Common.{glide_drives, glide_contacts, Fits, some_same, get_map_some, some_map, same_lists, flat_map_same, Alike, active_cycles}
use Rattle.board_run.proofs.Common.{active_pairs, Stands, IsStretch, IsSteady, stands_shows, stands_holds, stands_valid, steady_states, steady_before}
use Rattle.board_run.proofs.Common.{steady_cycles, quiet_dues, AreNone, LastTells, StaysSame, ReadingView, Suits, IsTold, shown_at, glided, AreDue, Kept, Lags, Leg}
use Rattle.board_run.proofs.Common.{MOST_CYCLES}
use Rattle.sim_base.specs.declared.signal.Drive.{Drive}
use Rattle.board_model.specs.Resolve.{resolve}
use Rattle.board_model.specs.Board.{input_at, drives_of, contacts_of, levels_of, states, bytes}
use Rattle.board_model.specs.Rows.{chip_drives_of, shown_of, shown_before, rows}
use Rattle.board_model.specs.Fresh.{AreFresh}
use Rattle.law_board.proofs.StretchLaw.{stretch_states, stretch_rows, stretch_bytes, stretch_pairs}
use Rattle.law_board.proofs.Splits.{states_split, bytes_split, shown_split, rows_split, pairs_split, cycles_split}
use Rattle.board_run.proofs.NextLemmas.{quiet_until}
use Rattle.board_run.proofs.ShowLemmas.{still_of, still_same, later_shown}
use Rattle.board_run.proofs.TurnLemmas.{some_there, same_room}
use Rattle.board_run.proofs.LagLemmas.{may_of, lags_stand, stand_are, lags_valid, lags_held, lags_shown, Ts}

module _ {S : Type 0} (m : Machine S) where
  -- where drives and contacts are the same, levels are
  same_both : (w : Wiring) (xs ys : List S) → drives_of m xs ≡ drives_of m ys → contacts_of m xs ≡ contacts_of m ys → (levels_of m w xs ≡ levels_of m w ys) × (drives_of m xs ≡ drives_of m ys)
  same_both w xs ys drives contacts = (
    ap (λ (x : List Bool). resolve w.nets w.net_of w.contacts w.resistors x (drives_of m xs)) contacts
        ∙ ap (λ (x : List Drive). resolve w.nets w.net_of w.contacts w.resistors (contacts_of m ys) x) drives,
    drives,
  )

  -- in steady cycles they stay
  pub steady_stays : (laws : Laws m) (w : Wiring) (inputs : List Input) (ss : List S) (c n : ℕ) → IsSteady m w inputs ss c n → StaysSame m w inputs ss c n
  steady_stays laws w inputs ss c n steady = λ t l.
      let like = steady_states m laws w inputs ss c n steady t (omega (arith, l)) in
      same_both w (states m w inputs ss c t) ss
      (flat_map_same m.drives (states m w inputs ss c t) ss (sym like.long) (λ k x y ex ey. rw (like.each k y x ey ex) ((steady.same k y ey).same_drives t l)))
      (flat_map_same m.contacts (states m w inputs ss c t) ss (sym like.long) (λ k x y ex ey. rw (like.each k y x ey ex) ((steady.same k y ey).same_contacts t l)))

  -- gliding on from where it glided to
  pub glide_split : (s : S) (a x y : ℕ) → glide m s a (x + y) ≡ glide m (glide m s a x) (a + x) y
  glide_split s a x zero = let e : x + 0 ≡ x = omega arith in ap (glide m s a) e
  glide_split s a x (suc y) =
      let e : x + suc y ≡ suc (x + y) = omega arith in
      let f : a + (x + y) ≡ a + x + y = omega arith in
      ap (glide m s a) e ∙ ap (λ (u : ℕ). idle m (glide m s a (x + y)) u) f ∙ ap (λ (z : S). idle m z (a + x + y)) (glide_split s a x y)

  -- where nothing is due up to u, nothing is due from t up to u
  pub quiet_rest : (r s : S) (a t u : ℕ) → a ≤ t → t ≤ u → s ≡ glide m r a (t - a) → IsQuiet m r a (u - a) → IsQuiet m s t (u - t)
  quiet_rest r s a t u h g is quiet k l =
      let e : a + (t - a) ≡ t = omega arith in
      let f : a + (t - a + k) ≡ t + k = omega arith in
      cc (glide_split r a (t - a) k, quiet (t - a + k) (omega arith))

  pub stands_later : (r s : S) (a t u : ℕ) → t ≤ u → Stands m t a r s → IsQuiet m r a (u - a) → Stands m u a r (glide m s t (u - t))
  stands_later r s a t u g h quiet =
      let e : a + (t - a) ≡ t = omega (arith, h.not_later) in
      let f : t - a + (u - t) ≡ u - a = omega (arith, h.not_later) in
      record { not_later = omega (arith, h.not_later); valid = h.valid; quiet = quiet; is = cc (glide_split r a (t - a) (u - t)) }

module _ {S P : Type 0} (m : Machine S) (laws : Laws m) (w : Wiring) (state : P → S) (now wakes : P → ℕ) (inputs : List Input) where
  pub leg_none : (t steps : ℕ) (parts : List P) (reading : ReadingView) → Leg m w state now wakes inputs t t parts parts reading reading steps steps
  unfolding states shown_before
  leg_none t steps parts reading =
      let e : t - t ≡ 0 = omega arith in
      record {
        order = omega arith;
        long = refl;
        states_are = rw e refl;
        before_is = rw e refl;
        woken = λ k p q ep eq. let same = ap wakes (some_same (sym eq ∙ ep)) in rw e (omega (arith, same));
        steps_are = rw e (omega arith);
      }

  -- a leg up to u, and what the board does from there up to v
  module _ (t u v a b : ℕ) (old mid : List P) (before reading : ReadingView) (first : Leg m w state now wakes inputs t u old mid before reading a b) (later : u ≤ v) where
    abbrev Ss : List S
    Ss = Ts m laws w state now wakes t old

    abbrev Ms : List S
    Ms = Ts m laws w state now wakes u mid

    count : v - t ≡ (u - t) + (v - u)
    count = let l = first.order in omega (arith, l, later)

    there : t + (u - t) ≡ u
    there = let l = first.order in omega (arith, l)

    states_from : (j : ℕ) → states m w inputs Ss t ((u - t) + j) ≡ states m w inputs Ms u j
    states_from j = cc (states_split m w inputs Ss t (u - t) j, first.states_are, there)

    pub states_on : states m w inputs Ss t (v - t) ≡ states m w inputs Ms u (v - u)
    states_on = rw count (states_from (v - u))

    pub shown_on : shown_before m w inputs (shown_at t before) Ss t (v - t) ≡ shown_before m w inputs (shown_at u reading) Ms u (v - u)
    shown_on = cc (shown_split m w inputs (shown_at t before) Ss t (u - t) (v - u), first.before_is, first.states_are, count, there)

    pub rows_on : rows m w inputs (shown_at t before) Ss t (v - t) ≡ rows m w inputs (shown_at t before) Ss t (u - t) ++ rows m w inputs
        (shown_at u reading) Ms u (v - u)
    rows_on = cc (rows_split m w inputs (shown_at t before) Ss t (u - t) (v - u), first.before_is, first.states_are, count, there)

    pub bytes_on : bytes m w inputs Ss t (v - t) ≡ bytes m w inputs Ss t (u - t) ++ bytes m w inputs Ms u (v - u)
    bytes_on = cc (bytes_split m w inputs Ss t (u - t) (v - u), first.states_are, count, there)

    cycles_on : (k : ℕ) → active_cycles m w inputs Ss t (v - t) k ≡ active_cycles m w inputs Ss t (u - t) k + active_cycles m w inputs Ms u (v - u) k
    cycles_on k = cc (cycles_split m w inputs Ss t (u - t) (v - u) k, first.states_are, count, there)

    pairs_on : active_pairs m w inputs Ss t (v - t) ≡ active_pairs m w inputs Ss t (u - t) + active_pairs m w inputs Ms u (v - u)
    pairs_on = cc (pairs_split m w inputs Ss t (u - t) (v - u), first.states_are, count, there)

    -- what the last step of a second leg changed is what the last step of both did
    pub tells_then : (changed : Bool) → u < v → LastTells m w inputs changed Ms u (v - u) → LastTells m w inputs changed Ss t (v - t)
    tells_then changed further tells =
        let before : v - t - 1 ≡ (u - t) + (v - u - 1) = (let x = first.order in omega (arith, x, further)) in
        rw (before, states_from (v - u - 1), states_on) tells

    pub leg_then : (d : ℕ) (new : List P) (after : ReadingView) → Leg m w state now wakes inputs u v mid new reading after b d →
        Leg m w state now wakes inputs t v old new before after a d
    leg_then d new after second = record {
      order = (let x = first.order in omega (arith, x, later));
      long = second.long ∙ first.long;
      states_are = second.states_are ∙ sym states_on;
      before_is = shown_on ∙ second.before_is;
      woken = λ k p q ep eq.
          let x = some_there mid k (omega (arith, slice_get_within old k p ep, first.long)) in
          omega (arith, first.woken k p x.0 ep x.1, second.woken k x.0 q x.1 eq, cycles_on k);
      steps_are = (let one = first.steps_are in let two = second.steps_are in omega (arith, one, two, pairs_on));
    }

  -- quiet cycles
  module _ (t u : ℕ) (parts : List P) (kept : Kept) (lags : Lags m w state now wakes t parts kept) (fresh : kept.changed ≡ false) (after : 0 < t) (order : t ≤ u)
      (quiet : (k : ℕ) (p : P) → slice_get parts k ≡ Some p → IsQuiet m (state p) (now p) (u - now p))
      (silent : (v k : ℕ) → t ≤ v → v < u → input_at inputs v k ≡ None) where
    abbrev Js : List S
    Js = Ts m laws w state now wakes t parts

    like : Alike (λ k p s. Stands m t (now p) (state p) s) parts Js
    like = lags_stand m laws w state now wakes t parts kept lags

    pub stretch : IsStretch m w inputs Js t (u - t)
    stretch = record {
      valid = lags_valid m laws w state now wakes t parts kept lags fresh after;
      quiet = λ k s es.
          let p = get_map_some (glided m state now wakes t) parts k s es in
          let st = like.each k p.0 s p.1 es in
          quiet_rest m (state p.0) s (now p.0) t u st.not_later order st.is (quiet k p.0 p.1);
      held = lags_held m laws w state now wakes t parts kept lags fresh after;
      silent = λ j k l. silent (t + j) k (omega arith) (omega arith);
    }

    pub steady : IsSteady m w inputs Js t (u - t)
    steady = record {
      same = λ k s es. record {
        same_drives = λ j l. glide_drives m laws s t j (stretch.valid k s es) (λ i (h : i < j). stretch.quiet k s es i (omega arith));
        same_contacts = λ j l. glide_contacts m laws s t j (stretch.valid k s es) (λ i (h : i < j). stretch.quiet k s es i (omega arith));
      };
      held = stretch.held;
      silent = stretch.silent;
    }

    shown_same : shown_at t kept.reading ≡ Some (shown_of m w Js)
    shown_same = lags_shown m laws w state now wakes t parts kept lags fresh after

    pub jump_leg : (steps : ℕ) → Leg m w state now wakes inputs t u parts parts kept.reading kept.reading steps steps
    jump_leg steps = record {
      order = order;
      long = refl;
      states_are =
          let glides = steady_states m laws w inputs Js t (u - t) steady (u - t) (omega arith) in
          stand_are m laws w state now wakes u parts (states m w inputs Js t (u - t)) (record {
            long = like.long ∙ glides.long;
            each = λ k p y ep ey.
                let es : slice_get Js k ≡ Some (glided m state now wakes t p) = some_map (glided m state now wakes t) parts k p ep in
                rw (glides.each k (glided m state now wakes t p) y es ey)
                (stands_later m (state p) (glided m state now wakes t p) (now p) t u order (like.each k p _ ep es) (quiet k p ep));
          });
      before_is = rw shown_same (steady_before m laws w inputs Js t (u - t) steady (u - t) (omega arith)) ∙ sym shown_same ∙ later_shown t 0 kept.reading after
          ∙ sym (later_shown u 0 kept.reading (omega (arith, after, order)));
      woken = λ k p q ep eq.
          let es : slice_get Js k ≡ Some (glided m state now wakes t p) = some_map (glided m state now wakes t) parts k p ep in
          let none = steady_cycles m laws w inputs Js t (u - t) steady (u - t) k (glided m state now wakes t p) (omega arith) es
          ∙ quiet_dues m laws (glided m state now wakes t p) t (u - t) (stretch.quiet k (glided m state now wakes t p) es) in
          omega (arith, none, ap wakes (some_same (sym eq ∙ ep)));
      steps_are = let none = stretch_pairs m laws w inputs Js t (u - t) stretch (u - t) (omega arith) in omega (arith, none);
    }

    pub jump_rows : rows m w inputs (shown_at t kept.reading) Js t (u - t) ≡ []
    jump_rows = rw shown_same (stretch_rows m laws w inputs Js t (u - t) stretch (u - t) (omega arith))

    pub jump_bytes : bytes m w inputs Js t (u - t) ≡ []
    jump_bytes = stretch_bytes m laws w inputs Js t (u - t) stretch (u - t) (omega arith)

    stays : (j : ℕ) → j ≤ u - t → (drives_of m (states m w inputs Js t j) ≡ drives_of m Js) × (contacts_of m (states m w inputs Js t j) ≡ contacts_of m Js)
    stays j l =
        let like = stretch_states m laws w inputs Js t (u - t) stretch j l in (
          flat_map_same m.drives (states m w inputs Js t j) Js (sym like.long)
              (λ k x y ex ey. rw (like.each k y x ey ex)
              (glide_drives m laws y t j (stretch.valid k y ey) (λ i (h : i < j). stretch.quiet k y ey i (omega (arith, h, l))))),
          flat_map_same m.contacts (states m w inputs Js t j) Js (sym like.long)
              (λ k x y ex ey. rw (like.each k y x ey ex)
              (glide_contacts m laws y t j (stretch.valid k y ey) (λ i (h : i < j). stretch.quiet k y ey i (omega (arith, h, l))))),
        )

    pub jump_tells : LastTells m w inputs false Js t (u - t)
    jump_tells =
        let a = stays (u - t) (omega arith) in
        let b = stays (u - t - 1) (omega arith) in
        record { same = λ _. (a.0 ∙ sym b.0, a.1 ∙ sym b.1); other = λ (one : false ≡ true). absurd cc }

    pub jump_still : StaysSame m w inputs Js t (u + 1 - t)
    jump_still = λ j l.
        let s = stays j (omega (arith, l, order)) in
        same_both m w (states m w inputs Js t j) Js s.0 s.1

    pub jump_lags : Lags m w state now wakes u parts kept
    jump_lags = record {
      few = lags.few;
      may = λ k p d ep ed. let x = lags.may k p d ep ed in let l = x.not_later in record { not_later = omega (arith, l, order); count = x.count; quiet = quiet k p ep; first = x.first };
      valid = lags.valid;
      dues_long = lags.dues_long;
      answers_long = lags.answers_long;
      silent = lags.silent;
      fits = lags.fits;
      suits = lags.suits;
      fresh = lags.fresh;
      told = lags.told;
      holds = λ k p ep later. lags.holds k p ep after;
    }

  -- what a jump does
  pub record Jumps (t u : ℕ) (parts : List P) (kept : Kept) (steps : ℕ) : Type 0 where
    pub leg : Leg m w state now wakes inputs t u parts parts kept.reading kept.reading steps steps
    pub row_none : rows m w inputs (shown_at t kept.reading) (Ts m laws w state now wakes t parts) t (u - t) ≡ []
    pub byte_none : bytes m w inputs (Ts m laws w state now wakes t parts) t (u - t) ≡ []
    pub rests : kept.changed ≡ false → IsSteady m w inputs (Ts m laws w state now wakes t parts) t (u - t)
    pub tells : kept.changed ≡ false → LastTells m w inputs false (Ts m laws w state now wakes t parts) t (u - t)
    pub still : kept.changed ≡ false → StaysSame m w inputs (Ts m laws w state now wakes t parts) t (u + 1 - t)
    pub lags : Lags m w state now wakes u parts kept

  pub jumps_to : (t u : ℕ) (parts : List P) (kept : Kept) (steps : ℕ) → Lags m w state now wakes t parts kept → 0 < t → t ≤ u → u ≤ MOST_CYCLES → (kept.changed ≡ true → u ≡ t) →
      ((k x : ℕ) → slice_get kept.dues k ≡ Some (Some x) → u ≤ x) → ((v k : ℕ) → t ≤ v → v < u → input_at inputs v k ≡ None) → Jumps t u parts kept steps
  unfolding rows bytes
  jumps_to t u parts kept steps lags after order end stays due silent = go kept.changed refl
    where
      quiet : (k : ℕ) (p : P) → slice_get parts k ≡ Some p → IsQuiet m (state p) (now p) (u - now p)
      quiet k p ep =
          let d = may_of m laws w state now wakes t parts kept lags k p ep in
          quiet_until m state now wakes t u d.0 p order end d.2 (λ x e l. due k x (d.1 ∙ ap Some e))

      go : (b : Bool) → kept.changed ≡ b → Jumps t u parts kept steps
      go true e =
          let none : t - t ≡ 0 = omega arith in
          let here : Jumps t t parts kept steps = record {
            leg = leg_none t steps parts kept.reading;
            row_none = rw none refl;
            byte_none = rw none refl;
            rests = λ f. absurd cc;
            tells = λ f. absurd cc;
            still = λ f. absurd cc;
            lags = lags;
          } in
          rw (stays e) here
      go false e = record {
        leg = jump_leg t u parts kept lags e after order quiet silent steps;
        row_none = jump_rows t u parts kept lags e after order quiet silent;
        byte_none = jump_bytes t u parts kept lags e after order quiet silent;
        rests = λ _. steady t u parts kept lags e after order quiet silent;
        tells = λ _. jump_tells t u parts kept lags e after order quiet silent;
        still = λ _. jump_still t u parts kept lags e after order quiet silent;
        lags = jump_lags t u parts kept lags e after order quiet silent;
      }

  -- parts that stand at the cycle are the board's
  pub at_here : (t : ℕ) (parts : List P) → ((k : ℕ) (p : P) → slice_get parts k ≡ Some p → now p ≡ t) → Ts m laws w state now wakes t parts ≡ map state parts
  at_here t parts at = same_lists (Ts m laws w state now wakes t parts) (map state parts) (simp length-map refl) (λ k x y ex ey.
      let r = get_map_some (glided m state now wakes t) parts k x ex in
      let z = get_map_some state parts k y ey in
      let e : t - now r.0 ≡ 0 = (let h = at k r.0 r.1 in omega (arith, h)) in
      sym r.2 ∙ ap (glide m (state r.0) (now r.0)) e ∙ ap state (some_same (sym r.1 ∙ z.1)) ∙ z.2)

  pub may_settle : (t : ℕ) (parts : List P) (kept : Kept) → Lags m w state now wakes t parts kept → (k : ℕ) (p : P) → slice_get parts k ≡ Some p → (now p ≤ t) × IsQuiet m (state p) (now p) (t - now p)
  may_settle t parts kept lags k p ep = let may = (may_of m laws w state now wakes t parts kept lags k p ep).2 in (may.not_later, may.quiet)

  -- where each part was brought to cycle n
  module _ (n : ℕ) (mid new : List P) (long : length new ≡ length mid)
      (settled : (k : ℕ) (p q : P) → slice_get mid k ≡ Some p → slice_get new k ≡ Some q →
      (state q ≡ glided m state now wakes n p) × (now q ≡ n) × (wakes q ≡ wakes p)) where
    before : (k : ℕ) (q : P) → slice_get new k ≡ Some q → (p : P) × (slice_get mid k ≡ Some p)
    before k q eq = some_there mid k (omega (arith, slice_get_within new k q eq, long))

    pub now_settled : (k : ℕ) (q : P) → slice_get new k ≡ Some q → now q ≡ n
    now_settled k q eq = let x = before k q eq in (settled k x.0 q x.1 eq).1

    -- it did what the leg did
    pub settled_leg : (t : ℕ) (old : List P) (was reading : ReadingView) (steps more : ℕ) → Leg m w state now wakes inputs t n old mid was reading steps more →
        Leg m w state now wakes inputs t n old new was reading steps more
    settled_leg t old was reading steps more leg = record {
      order = leg.order;
      long = long ∙ leg.long;
      states_are = at_here n new now_settled ∙ same_lists (map state new) (Ts m laws w state now wakes n mid) (simp length-map long) (λ k x y ex ey.
          let r = get_map_some (glided m state now wakes n) mid k y ey in
          let z = get_map_some state new k x ex in
          sym z.2 ∙ (settled k r.0 z.0 r.1 z.1).0 ∙ r.2) ∙ leg.states_are;
      before_is = leg.before_is;
      woken = λ k p q ep eq. let x = before k q eq in (settled k x.0 q x.1 eq).2 ∙ leg.woken k p x.0 ep x.1;
      steps_are = leg.steps_are;
    }

    -- and may go on from there
    pub settled_lags : (kept : Kept) (after : List (Option ℕ)) → Lags m w state now wakes n mid kept → length after ≡ length kept.dues →
        AreDue m state now wakes new after → Lags m w state now wakes n new (record kept { dues = after })
    settled_lags kept after lags dues_long due = record {
      few = rw long lags.few;
      may = λ k q d eq ed.
          let x = before k q eq in
          let h = settled k x.0 q x.1 eq in
          let was = (may_of m laws w state now wakes n mid kept lags k x.0 x.1).2 in
          record {
            not_later = omega (arith, h.1);
            count = (let b = h.2 in omega (arith, h.1, b, was.count, was.not_later));
            quiet = λ i (l : i < n - now q). absurd (omega (arith, h.1));
            first = due k q d eq ed;
          };
      valid = λ k q eq.
          let x = before k q eq in
          let h = settled k x.0 q x.1 eq in
          rw (h.1, h.0) (stands_valid m laws n (now x.0) (state x.0) (glided m state now wakes n x.0) (stands k x.0 x.1));
      dues_long = dues_long ∙ lags.dues_long ∙ sym long;
      answers_long = lags.answers_long ∙ sym long;
      silent = lags.silent;
      fits = room.0;
      suits = lags.suits;
      fresh = λ none. still_of m w state mid new kept.reading long still (lags.fresh none);
      told = record {
        drives_are = lags.told.drives_are ∙ sym (still_same m.drives state mid new long (λ k p q ep eq. (still k p q ep eq).0));
        closed_are = lags.told.closed_are ∙ sym (still_same m.contacts state mid new long (λ k p q ep eq. (still k p q ep eq).1));
      };
      holds = λ k q eq later.
          let x = before k q eq in
          rw ((still k x.0 q x.1 eq).0, (settled k x.0 q x.1 eq).0)
          (stands_holds m laws n (now x.0) (state x.0) (glided m state now wakes n x.0) (stands k x.0 x.1) ∙ lags.holds k x.0 x.1 later);
    }
      where
        stands : (k : ℕ) (p : P) → slice_get mid k ≡ Some p → Stands m n (now p) (state p) (glided m state now wakes n p)
        stands k p ep = (lags_stand m laws w state now wakes n mid kept lags).each k p _ ep (some_map (glided m state now wakes n) mid k p ep)

        still : (k : ℕ) (p q : P) → slice_get mid k ≡ Some p → slice_get new k ≡ Some q →
            (m.drives (state q) ≡ m.drives (state p)) × (m.contacts (state q) ≡ m.contacts (state p))
        still k p q ep eq =
            let shows = stands_shows m laws n (now p) (state p) (glided m state now wakes n p) (stands k p ep) in
            rw (settled k p q ep eq).0 (sym shows.drives, sym shows.contacts)

        room : Fits m w (map state new) × (length (chip_drives_of m w.chip (map state mid)) ≡ length (chip_drives_of m w.chip (map state new)))
        room = same_room m w state mid new long (λ k p q ep eq. let h = still k p q ep eq in (sym (ap length h.0), sym (ap length h.1))) lags.fits

-- a board at cycle 0 of which nothing was read
pub lags_start : {S P : Type 0} (m : Machine S) (w : Wiring) (state : P → S) (now wakes : P → ℕ) (parts : List P) (kept : Kept) → kept.changed ≡ true → length parts ≤ 64 → AreFresh m state now wakes parts →
    length kept.dues ≡ length parts → AreDue m state now wakes parts kept.dues → length kept.answers ≡ length parts → AreNone kept.answers → IsTold m (map state parts) kept.reading.nets → Fits m w (map state parts) → Suits w kept.reading → Lags m w state now wakes 0 parts kept
lags_start m w state now wakes parts kept changed few new dues_long due answers_long silent told fits suits = record {
  few = few;
  may = λ k p d ep ed.
      let at = new.at_start k p ep in
      let never = new.never_woken k p ep in
      record { not_later = omega (arith, at); count = omega (arith, never); quiet = λ i (h : i < 0 - now p). absurd (omega arith); first = due k p d ep ed };
  valid = λ k p ep. subst (λ (t : ℕ). m.valid (state p) t ≡ true) (sym (new.at_start k p ep)) (new.are_valid k p ep);
  dues_long = dues_long;
  answers_long = answers_long;
  silent = silent;
  fits = fits;
  suits = suits;
  fresh = λ none. absurd cc;
  told = told;
  holds = λ k p ep (later : 0 < 0). absurd (omega arith);
}
