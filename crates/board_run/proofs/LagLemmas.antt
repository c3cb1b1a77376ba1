-- A cycle in which the active parts are woken is a leg of the way.
use Rattle.board_run.proofs.Common.{◌≡◌, ℕ, zero, suc, ◌+◌, ◌-◌, ◌<◌, ◌≤◌, List, length, map, take, drop, Bool, true, false, Option, None, Some, refl, ap, sym}
use Rattle.board_run.proofs.Common.{◌∙◌, arith, subst, ◌≢◌, not, if◌then◌else◌, slice_get, slice_get_within, length-map, Level, Drive, Wiring, Input, Machine}
use Rattle.board_run.proofs.Common.{Laws, Fits, some_same, get_map_some, some_map, same_lists, flat_map_same, Alike, SameShow, sum_below, active_in, Stands}
use Rattle.board_run.proofs.Common.{length-steps_from, get-steps_from, stands_shows, stands_holds, stands_valid, Tells, LastTells, ReadingView, Suits, IsOf}
use Rattle.board_run.proofs.Common.{NetsView, IsTold, AreDiffering, retold, levels_on, shown, shown_at, AreBehind, glided, MayTurn, Awaits, Turns, AreDue, Kept, Lags}
use Rattle.board_run.proofs.Common.{Leg, PartSet, has_part, AreNone, level_same, list_same}
use Rattle.board_model.specs.Board.{level_at, own_nets, levels_of, part_step, steps_from, board_step, states, bytes, options}
use Rattle.board_model.specs.Rows.{Shown, same_list, same_level, shown_of, shown_before, row_if, rows}
use Rattle.law_board.proofs.AlikeLemmas.{alike_weaker, flat_map_alike}
use Rattle.law_board.proofs.BesideLaw.{same_levels, same_shown, same_drives, same_row, same_chips}
use Rattle.board_run.proofs.ScriptLemmas.{given_now}
use Rattle.board_run.proofs.ShowLemmas.{shown_is, later_shown, still_of, not_first}
use Rattle.board_run.proofs.ReadLemmas.{retold_suits, retold_is, flat_each}
use Rattle.board_run.proofs.TurnLemmas.{some_there, same_room, turns_stand}

module _ {S P : Type 0} (m : Machine S) (laws : Laws m) (w : Wiring) (state : P → S) (now wakes : P → ℕ) where
  abbrev pub Ts : ℕ → List P → List S
  Ts t parts = map (glided m state now wakes t) parts

  -- when a part is due, and that its turn may come
  pub may_of : (t : ℕ) (parts : List P) (kept : Kept) → Lags m w state now wakes t parts kept → (k : ℕ) (p : P) → slice_get parts k ≡ Some p →
      (d : Option ℕ) × (slice_get kept.dues k ≡ Some d) × MayTurn m state now wakes t d p
  may_of t parts kept lags k p ep =
      let d = some_there kept.dues k (omega (arith, slice_get_within parts k p ep, lags.dues_long)) in
      (d.0, d.1, lags.may k p d.0 ep d.1)

  -- each part stands for its state of the board
  pub lags_stand : (t : ℕ) (parts : List P) (kept : Kept) → Lags m w state now wakes t parts kept → Alike (λ k p s. Stands m t (now p) (state p) s) parts (Ts t parts)
  lags_stand t parts kept lags = record {
    long = sym (simp length-map refl);
    each = λ k p s ep es.
        let r = get_map_some (glided m state now wakes t) parts k s es in
        let may = (may_of t parts kept lags k p ep).2 in
        let is : s ≡ glided m state now wakes t p = sym r.2 ∙ ap (glided m state now wakes t) (some_same (sym r.1 ∙ ep)) in
        record { not_later = may.not_later; valid = lags.valid k p ep; quiet = may.quiet; is = is };
  }

  -- parts that stand for states show what those do
  pub stand_show : (t : ℕ) (parts : List P) (ts : List S) → Alike (λ k p s. Stands m t (now p) (state p) s) parts ts → Alike (λ k a b. SameShow m m a b) (map state parts) ts
  stand_show t parts ts like = record {
    long = simp length-map like.long;
    each = λ k a s ea es.
        let r = get_map_some state parts k a ea in
        subst (λ (x : S). SameShow m m x s) r.2 (stands_shows m laws t (now r.0) (state r.0) s (like.each k r.0 s r.1 es));
  }

  -- and they are where the parts glide to
  pub stand_are : (t : ℕ) (parts : List P) (ts : List S) → Alike (λ k p s. Stands m t (now p) (state p) s) parts ts → Ts t parts ≡ ts
  stand_are t parts ts like = same_lists (Ts t parts) ts (simp length-map like.long) (λ k x y ex ey.
      let r = get_map_some (glided m state now wakes t) parts k x ex in
      sym r.2 ∙ sym (like.each k r.0 y r.1 ey).is)

  -- what was read of lagging parts is so of the board
  pub lag_of : (parts : List P) (ts : List S) (reading : ReadingView) → Alike (λ k a b. SameShow m m a b) (map state parts) ts → IsOf m w (map state parts) reading → IsOf m w ts reading
  lag_of parts ts reading like is = record {
    drives_are = is.drives_are ∙ same_drives m m w (map state parts) ts like;
    closed_are = is.closed_are ∙ flat_map_alike m.contacts m.contacts (map state parts) ts (alike_weaker (λ k a b. SameShow m m a b) (λ k a b. m.contacts a ≡ m.contacts b) (map state parts) ts like (λ k a b ea eb s. s.contacts));
    levels_are = is.levels_are ∙ same_levels m m w (map state parts) ts like;
    chips_are = is.chips_are ∙ same_chips m m w (map state parts) ts like;
  }

  -- where nothing has changed since the nets were resolved, what was read is so of the board
  module _ (t : ℕ) (parts : List P) (kept : Kept) (lags : Lags m w state now wakes t parts kept) (fresh : kept.changed ≡ false) (after : 0 < t) where
    stood : (k : ℕ) (s : S) → slice_get (Ts t parts) k ≡ Some s → (p : P) × (slice_get parts k ≡ Some p) × Stands m t (now p) (state p) s
    stood k s es = let p = get_map_some (glided m state now wakes t) parts k s es in (p.0, p.1, (lags_stand t parts kept lags).each k p.0 s p.1 es)

    read_is : IsOf m w (Ts t parts) kept.reading
    read_is = lag_of parts (Ts t parts) kept.reading (stand_show t parts (Ts t parts) (lags_stand t parts kept lags)) (lags.fresh fresh)

    pub lags_valid : (k : ℕ) (s : S) → slice_get (Ts t parts) k ≡ Some s → m.valid s t ≡ true
    lags_valid k s es = let p = stood k s es in stands_valid m laws t (now p.0) (state p.0) s p.2

    pub lags_held : (k : ℕ) (s : S) → slice_get (Ts t parts) k ≡ Some s →
        m.held s ≡ map (level_at (levels_of m w (Ts t parts))) (own_nets w k (length (m.drives s)))
    lags_held k s es =
        let p = stood k s es in
        rw (← read_is.levels_are, ← (stands_shows m laws t (now p.0) (state p.0) s p.2).drives)
        (stands_holds m laws t (now p.0) (state p.0) s p.2 ∙ lags.holds k p.0 p.1 after)

    pub lags_shown : shown_at t kept.reading ≡ Some (shown_of m w (Ts t parts))
    lags_shown = later_shown t 0 kept.reading after ∙ ap Some (shown_is m w (Ts t parts) kept.reading read_is)

  pub lag_row : (t : ℕ) (parts : List P) (ts : List S) (before : Option Shown) → Alike (λ k a b. SameShow m m a b) (map state parts) ts → row_if m w before (map state parts) t ≡ row_if m w before ts t
  lag_row t parts ts before like =
      let a = same_shown m m w (map state parts) ts like in
      let b = same_row m m w (map state parts) ts t like in
      cc

  -- the parts are awaited at the board's states
  pub lags_await : (inputs : List Input) (t i j : ℕ) (parts : List P) (kept : Kept) (reading : ReadingView) (set : PartSet) → Lags m w state now wakes t parts kept →
      AreDiffering m w kept.reading.nets.levels reading.nets.levels (map state parts) set → i ≤ j → AreBehind inputs i t → AreBehind inputs j (t + 1) →
      Awaits m w state now (take (j - i) (drop i inputs)) inputs reading.nets.levels set t parts (Ts t parts)
  lags_await inputs t i j parts kept reading set lags differ on before after =
      let like = lags_stand t parts kept lags in
      record {
        stands = like;
        differs = λ k s es later.
            let r = get_map_some (glided m state now wakes t) parts k s es in
            let stands = like.each k r.0 s r.1 es in
            let pins = ap length (stands_shows m laws t (now r.0) (state r.0) s stands).drives in
            let d = differ k (state r.0) (some_map state parts k r.0 r.1) in
            let held : m.held s ≡ levels_on m w kept.reading.nets.levels k (state r.0) = stands_holds m laws t (now r.0) (state r.0) s stands ∙ lags.holds k r.0 r.1 later in
            d ∙ ap (λ (n : ℕ). not (same_list same_level (map (level_at reading.nets.levels) (own_nets w k n)) (levels_on m w kept.reading.nets.levels k (state r.0)))) pins
            ∙ ap (λ (l : List Level). not (same_list same_level (levels_on m w reading.nets.levels k s) l)) (sym held);
        given_are = λ k. given_now inputs i j t k on before after;
      }

  -- a part that is among those that differ does not hold the levels of its pins
  pub lags_differ : (t : ℕ) (parts : List P) (kept : Kept) (reading : ReadingView) (set : PartSet) → Lags m w state now wakes t parts kept → AreDiffering m w kept.reading.nets.levels reading.nets.levels (map state parts) set →
      (k : ℕ) (p : P) → slice_get parts k ≡ Some p → has_part set k ≡ true → 0 < t → m.held (state p) ≢ levels_on m w reading.nets.levels k (state p)
  lags_differ t parts kept reading set lags differ k p ep is later same =
      let d = differ k (state p) (some_map state parts k p ep) in
      let alike : levels_on m w kept.reading.nets.levels k (state p) ≡ levels_on m w reading.nets.levels k (state p) = sym (lags.holds k p ep later) ∙ same in
      let e : true ≡ false = sym is ∙ d ∙ ap (λ (l : List Level). not (same_list same_level (levels_on m w reading.nets.levels k (state p)) l)) alike ∙ ap not (list_same same_level level_same (levels_on m w reading.nets.levels k (state p))) in
      cc

  module _ (inputs : List Input) (t : ℕ) (old new : List P) (reading : ReadingView) (answers : List (Option ℕ)) (changed : Bool) (long : length new ≡ length old)
      (is : IsOf m w (map state old) reading) (suits : Suits w reading) (like : Alike (λ k p s. Stands m t (now p) (state p) s) old (Ts t old))
      (turns : Turns m w inputs state now wakes reading.nets.levels t (Ts t old) (length old) old new answers changed) where
    abbrev Us : List S
    Us = map (λ r. r.0) (steps_from m w inputs reading.nets.levels t 0 (Ts t old))

    of_board : IsOf m w (Ts t old) reading
    of_board = lag_of old (Ts t old) reading (stand_show t old (Ts t old) like) is

    us_are : Us ≡ board_step m w inputs (Ts t old) t
    us_are = ap (λ (ls : List Level). map (λ (r : S × Option ℕ). r.0) (steps_from m w inputs ls t 0 (Ts t old))) of_board.levels_are

    stands_after : Alike (λ k q u. Stands m (t + 1) (now q) (state q) u) new Us
    stands_after = turns_stand m laws w inputs state now wakes reading.nets.levels t (Ts t old) old new answers changed (length old) (omega arith) long like.long turns

    next_states : Ts (t + 1) new ≡ board_step m w inputs (Ts t old) t
    next_states = stand_are (t + 1) new Us stands_after ∙ us_are

    -- a part after its turn, with what it was
    record Turned (k : ℕ) (p q : P) : Type 0 where
      stands : Stands m (t + 1) (now q) (state q) (part_step m w inputs reading.nets.levels t k (glided m state now wakes t p)).0
      woken : wakes q ≡ wakes p + active_in m w inputs reading.nets.levels t k (Some (glided m state now wakes t p))
      count : wakes q ≤ now q
      pins : length (m.drives (state p)) ≡ length (m.drives (state q))
      contacts : length (m.contacts (state p)) ≡ length (m.contacts (state q))
      held : m.held (state q) ≡ map (level_at reading.nets.levels) (own_nets w k (length (m.drives (state q))))
      still : changed ≡ false → (m.drives (state q) ≡ m.drives (state p)) × (m.contacts (state q) ≡ m.contacts (state p))

    turned_from : (k : ℕ) (p q : P) → slice_get old k ≡ Some p → slice_get new k ≡ Some q → Turned k p q
    turned_from k p q ep eq =
        let s = glided m state now wakes t p in
        let within : k < length old = slice_get_within old k p ep in
        let es : slice_get (Ts t old) k ≡ Some s = some_map (glided m state now wakes t) old k p ep in
        let d = turns.done k p q s within ep eq es in
        let next = (part_step m w inputs reading.nets.levels t k s).0 in
        let was = stands_shows m laws t (now p) (state p) s (like.each k p s ep es) in
        let shows = stands_shows m laws (t + 1) (now q) (state q) next d.0 in
        let pins : length (m.drives (state q)) ≡ length (m.drives s) = ap length shows.drives ∙ laws.keeps_pins s t _ _ in
        record {
          stands = d.0;
          woken = d.1;
          count = d.2;
          pins = ap length was.drives ∙ sym pins;
          contacts = ap length was.contacts ∙ sym (laws.keeps_contacts s t _ _) ∙ sym (ap length shows.contacts);
          held = sym (stands_holds m laws (t + 1) (now q) (state q) next d.0) ∙ laws.holds_levels s t _ _ ∙ ap (λ (n : ℕ). map (level_at reading.nets.levels) (own_nets w k n)) (sym pins);
          still = λ none. let still = turns.still none k s within es in (shows.drives ∙ still.drives ∙ sym was.drives, shows.contacts ∙ still.contacts ∙ sym was.contacts);
        }

    after_turn : (k : ℕ) (q : P) → slice_get new k ≡ Some q → (p : P) × Turned k p q
    after_turn k q eq = let p = some_there old k (omega (arith, slice_get_within new k q eq, long)) in (p.0, turned_from k p.0 q p.1 eq)

    -- the invariant at the next cycle
    pub event_lags : (j : ℕ) (dues after : List (Option ℕ)) (ds : List Drive) (cs : List Bool) → length old ≤ 64 → Fits m w (map state old) → length dues ≡ length old → length after ≡ length old → AreDue m state now wakes new dues →
        AreNone after → IsTold m (map state new) (retold reading ds cs).nets →
        Lags m w state now wakes (t + 1) new (record { input = j; changed = changed; dues = dues; reading = retold reading ds cs; answers = after })
    event_lags j dues after ds cs few fits dues_long answers_long due silent told =
        let room = same_room m w state old new long (λ k p q ep eq. let f = turned_from k p q ep eq in (f.pins, f.contacts)) fits in
        record {
          few = rw long few;
          may = λ k q d eq ed. let f = (after_turn k q eq).1 in
              record { not_later = f.stands.not_later; count = f.count; quiet = f.stands.quiet; first = due k q d eq ed };
          valid = λ k q eq. (after_turn k q eq).1.stands.valid;
          dues_long = dues_long ∙ sym long;
          answers_long = answers_long ∙ sym long;
          silent = silent;
          fits = room.0;
          suits = retold_suits m w (map state new) reading ds cs room.0 suits told;
          fresh = λ none. retold_is m w (map state new) reading ds cs told (still_of m w state old new reading long (λ k p q ep eq. (turned_from k p q ep eq).still none) is);
          told = told;
          holds = λ k q eq later. (after_turn k q eq).1.held;
        }

    -- and the leg
    pub event_leg : (was : ReadingView) (ds : List Drive) (cs : List Bool) (steps more : ℕ) → more ≡ steps + sum_below (length old) (λ k. active_in m w inputs reading.nets.levels t k (slice_get (Ts t old) k)) →
        Leg m w state now wakes inputs t (t + 1) old new was (retold reading ds cs) steps more
    unfolding states shown_before
    event_leg was ds cs steps more counted =
        let e : t + 1 - t ≡ suc zero = omega arith in
        let f : t + 0 ≡ t = omega arith in
        let ts = Ts t old in
        record {
          order = omega arith;
          long = long;
          states_are = next_states ∙ ap (board_step m w inputs ts) (sym f) ∙ sym (ap (states m w inputs ts t) e);
          before_is = ap (shown_before m w inputs (shown_at t was) ts t) e ∙ ap Some (sym (shown_is m w ts reading of_board))
              ∙ ap (λ (b : Bool). if b then None else Some (shown reading)) (sym (not_first t));
          woken = λ k p q ep eq.
              rw (e, f, ← of_board.levels_are, some_map (glided m state now wakes t) old k p ep) (omega (arith, (turned_from k p q ep eq).woken));
          steps_are = rw (e, f, ← of_board.levels_are, ← like.long) (omega (arith, counted));
        }

    -- whether the cycle changed a drive or a contact
    tells_after : Tells m changed (Ts t old) Us
    tells_after = record {
      same = λ none. (flat_map_same m.drives Us (Ts t old) us_long (λ k x y ex ey. (still none k x y ex ey).drives), flat_map_same m.contacts Us (Ts t old) us_long (λ k x y ex ey. (still none k x y ex ey).contacts));
      other = λ one ds cs.
          let z = turns.other one in
          let eu = us_at z.0 z.1 z.3 in
          z.4 (flat_each m.drives Us (Ts t old) us_long (λ k x y ex ey. rw (step_is k x y ex ey) (laws.keeps_pins y t _ _)) ds z.0 _ z.1 eu z.3)
          (flat_each m.contacts Us (Ts t old) us_long (λ k x y ex ey. rw (step_is k x y ex ey) (laws.keeps_contacts y t _ _)) cs z.0 _ z.1 eu z.3);
    }
      where
        us_long : length Us ≡ length (Ts t old)
        us_long = simp (length-map, length-steps_from)

        us_at : (k : ℕ) (s : S) → slice_get (Ts t old) k ≡ Some s → slice_get Us k ≡ Some (part_step m w inputs reading.nets.levels t k s).0
        us_at k s es = some_map (λ (r : S × Option ℕ). r.0) (steps_from m w inputs reading.nets.levels t 0 (Ts t old)) k (part_step m w inputs reading.nets.levels t k s) (get-steps_from m w inputs reading.nets.levels t k (Ts t old) s es)

        step_is : (k : ℕ) (x y : S) → slice_get Us k ≡ Some x → slice_get (Ts t old) k ≡ Some y → x ≡ (part_step m w inputs reading.nets.levels t k y).0
        step_is k x y ex ey = some_same (sym ex ∙ us_at k y ey)

        still : changed ≡ false → (k : ℕ) (x y : S) → slice_get Us k ≡ Some x → slice_get (Ts t old) k ≡ Some y → SameShow m m x y
        still none k x y ex ey = rw (step_is k x y ex ey) (turns.still none k y (omega (arith, slice_get_within (Ts t old) k y ey, like.long)) ey)

    pub event_tells : LastTells m w inputs changed (Ts t old) t (t + 1 - t)
    unfolding states
    event_tells =
        let e : t + 1 - t ≡ suc zero = omega arith in
        let f : t + 0 ≡ t = omega arith in
        rw (e, f, ← us_are) tells_after

    -- the rows and bytes of the one cycle
    pub event_rows : (was : ReadingView) → row_if m w (shown_at t was) (map state old) t ≡ rows m w inputs (shown_at t was) (Ts t old) t (t + 1 - t)
    unfolding states shown_before rows
    event_rows was =
        let e : t + 1 - t ≡ suc zero = omega arith in
        let f : t + 0 ≡ t = omega arith in
        lag_row t old (Ts t old) (shown_at t was) (stand_show t old (Ts t old) like)
        ∙ ap (row_if m w (shown_at t was) (Ts t old)) (sym f) ∙ ap (rows m w inputs (shown_at t was) (Ts t old) t) (sym e)

    pub event_bytes : length answers ≡ length old → options answers ≡ bytes m w inputs (Ts t old) t (t + 1 - t)
    unfolding states bytes
    event_bytes answers_long =
        let e : t + 1 - t ≡ suc zero = omega arith in
        let f : t + 0 ≡ t = omega arith in
        rw (e, f, answers_are, of_board.levels_are) refl
      where
        answers_are : answers ≡ map (λ r. r.1) (steps_from m w inputs reading.nets.levels t 0 (Ts t old))
        answers_are =
            let there : length (map (λ (r : S × Option ℕ). r.1) (steps_from m w inputs reading.nets.levels t 0 (Ts t old))) ≡ length old = simp (length-map, length-steps_from) in
            same_lists answers _ (answers_long ∙ sym there) (λ k x y ex ey. some_same (sym ex ∙ turns.answered k (omega (arith, slice_get_within answers k x ex, answers_long)) ∙ ey))

  -- what a cycle does in which the active parts have their turn
  pub record Happens (inputs : List Input) (t : ℕ) (old new : List P) (before after : ReadingView) (answers dues : List (Option ℕ)) (changed : Bool) (steps more : ℕ) : Type 0 where
    pub leg : Leg m w state now wakes inputs t (t + 1) old new before after steps more
    pub lags : (j : ℕ) (none : List (Option ℕ)) → length none ≡ length answers → AreNone none → Lags m w state now wakes (t + 1) new (record { input = j; changed = changed; dues = dues; reading = after; answers = none })
    pub tells : LastTells m w inputs changed (Ts t old) t (t + 1 - t)
    pub rows_are : row_if m w (shown_at t before) (map state old) t ≡ rows m w inputs (shown_at t before) (Ts t old) t (t + 1 - t)
    pub bytes_are : options answers ≡ bytes m w inputs (Ts t old) t (t + 1 - t)

  pub happens : (inputs : List Input) (t i j : ℕ) (old new : List P) (kept : Kept) (reading : ReadingView) (after : NetsView) (set : PartSet) (answers dues : List (Option ℕ)) (changed : Bool) (steps more : ℕ) →
      Lags m w state now wakes t old kept → AreDiffering m w kept.reading.nets.levels reading.nets.levels (map state old) set → i ≤ j → AreBehind inputs i t → AreBehind inputs j (t + 1) →
      IsOf m w (map state old) reading → Suits w reading → length new ≡ length old → length answers ≡ length kept.answers → length dues ≡ length kept.dues →
      ((ts : List S) → Awaits m w state now (take (j - i) (drop i inputs)) inputs reading.nets.levels set t old ts → Turns m w inputs state now wakes reading.nets.levels t ts (length old) old new answers changed) →
      ((ts : List S) → Awaits m w state now (take (j - i) (drop i inputs)) inputs reading.nets.levels set t old ts → more ≡ steps + sum_below (length old) (λ k. active_in m w inputs reading.nets.levels t k (slice_get ts k))) →
      AreDue m state now wakes new dues → IsTold m (map state new) after →
      Happens inputs t old new kept.reading (retold reading after.drives after.closed) answers dues changed steps more
  happens inputs t i j old new kept reading after set answers dues changed steps more lags differ on before behind is suits long answers_long dues_long turns_of counted due told =
      let like = lags_stand t old kept lags in
      let awaits = lags_await inputs t i j old kept reading set lags differ on before behind in
      let turns = turns_of (Ts t old) awaits in
      let ds = after.drives in
      let cs = after.closed in
      record {
        leg = event_leg inputs t old new reading answers changed long is suits like turns kept.reading ds cs steps more (counted (Ts t old) awaits);
        lags = λ k none none_long silent.
            event_lags inputs t old new reading answers changed long is suits like turns k dues none ds cs lags.few lags.fits (dues_long ∙ lags.dues_long) (none_long ∙ answers_long ∙ lags.answers_long) due silent
            (record { drives_are = told.drives_are; closed_are = told.closed_are });
        tells = event_tells inputs t old new reading answers changed long is suits like turns;
        rows_are = event_rows inputs t old new reading answers changed long is suits like turns kept.reading;
        bytes_are = event_bytes inputs t old new reading answers changed long is suits like turns (answers_long ∙ lags.answers_long);
      }
