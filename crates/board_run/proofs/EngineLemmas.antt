-- What an engine did on its way: ways follow on each other, and nothing is shown while it passes over cycles.
use Rattle.board_run.proofs.Common.{◌≡◌, ◌++◌, ◌∷◌, suc, ℕ, ◌+◌, ◌-◌, ◌<◌, ◌≤◌, ◌∙◌, List, [], Bool, true, false, refl, ap, sym, arith, subst, inl, inr, Row}
use Rattle.board_run.proofs.Common.{StopsWithin, MOST_CYCLES, Wiring, Input, Laws, LastTells, StaysSame, slice_get, slice_index, Some, input_at, some_same, NetsView}
use Rattle.board_run.proofs.Common.{PartSet, has_part, to_wake, Replaced, Suits, levels_on, shown_at, wiring_of, kept_of, given, states_of, rows_to, bytes_to, IsNext}
use Rattle.board_run.proofs.Common.{Watches, MayRun, MayTurnPart, TurnedAt, MayTell, WentOn, Rests, Settled, FailedIn, Showed, Engine}
use Rattle.sim_base.specs.declared.bench.WriteEnd.{WriteEnd}
use Rattle.sim_base.specs.declared.bench.WriteEnd.TheVariants as writes
use Rattle.sim_base.specs.declared.watcher.Watcher.{Ghosts as Watching}
use Rattle.part_law.specs.declared.part.Part.{Ghosts}
use Rattle.board_model.specs.Board.{bytes, states}
use Rattle.board_run.specs.declared.turn.Woken.{Woken}
use Rattle.board_run.proofs.TurnLemmas.{turned_room, turned_still, turned_others, Placed, placed}
use Rattle.board_run.proofs.HandLemmas.{handed_nothing, handed_then}
use Rattle.board_run.proofs.ShowLemmas.{none_handed}
use Rattle.board_run.proofs.NextLemmas.{below_or}
use Rattle.board_run.proofs.StretchLemmas.{unchanged}
use Rattle.board_run.proofs.LegLemmas.{Jumps, leg_none, leg_then, tells_then, rows_on, bytes_on, jumps_to, settled_lags, settled_leg}
use Rattle.board_run.proofs.CutOffLemmas.{no_rows, no_bytes, cut_here, cut_within, cut_then}

module _ {P : Type 0} (part : Ghosts P) (laws : Laws part.machine) where
  -- nothing happened yet
  pub on_none : (e : Engine P) (steps : ℕ) → MayRun part e → WentOn part e (record e { cycle = e.cycle }) steps steps
  on_none e steps may = record {
    may = record { lags = may.lags; behind = may.behind; order = may.order };
    same_wiring = refl;
    same_inputs = refl;
    leg = leg_none part.machine laws (wiring_of e) part.state part.now part.wakes e.inputs e.cycle steps e.parts e.reading;
    tells = λ (less : e.cycle < e.cycle). absurd (omega arith);
  }

  -- part i after its turn in place of what it was
  pub turn_replaces : (old new : Engine P) (i place : ℕ) (may_hear : Bool) (differ : PartSet) (woken : Woken) (steps more : ℕ) → MayTurnPart part old i may_hear differ place → (at : TurnedAt part old new i differ place woken steps more) →
      Replaced part.machine (wiring_of new) part.state i old.parts new.parts new.reading.nets at.p at.q
  turn_replaces old new i place may_hear differ woken steps more may at =
      let room = turned_room part.machine laws part.state part.now part.wakes old.cycle at.p at.q (to_wake at.d old.cycle (input_at (given old place) old.cycle i) (has_part differ i))
      (levels_on part.machine (wiring_of old) old.reading.nets.levels i (part.state at.p)) (input_at (given old place) old.cycle i) at.byte woken.changed at.turn.turn in
      rw at.same (record { was = at.was; new_is = refl; pins = room.0; ports = room.1; fits = may.fits; told = may.told })

  -- and the nets may be told of it
  pub turn_tells : (old new : Engine P) (i place : ℕ) (may_hear : Bool) (differ : PartSet) (woken : Woken) (steps more : ℕ) → MayTurnPart part old i may_hear differ place → TurnedAt part old new i differ place woken steps more → MayTell part new i woken.changed
  turn_tells old new i place may_hear differ woken steps more may at =
      let quiet = (may.may at.p at.d at.was at.due_was).quiet in
      let valid = may.valid at.p at.was in
      record {
        before = old.parts;
        p = at.p;
        q = at.q;
        replaced = turn_replaces old new i place may_hear differ woken steps more may at;
        suits = subst (λ (e : Engine P). Suits (wiring_of e) e.reading) (sym at.same) may.suits;
        still = turned_still part.machine laws part.state part.now part.wakes old.cycle at.p at.q (to_wake at.d old.cycle (input_at (given old place) old.cycle i) (has_part differ i))
            (levels_on part.machine (wiring_of old) old.reading.nets.levels i (part.state at.p)) (input_at (given old place) old.cycle i) at.byte woken.changed valid quiet at.turn.turn;
        others = λ some. turned_others part.machine laws part.state part.now part.wakes old.cycle at.p at.q (part.moves at.q) valid quiet (at.turn.others some);
      }

  -- what nets have of a part that was replaced
  pub told_place : (e : Engine P) (i first : ℕ) (nets : NetsView) (before : List P) (p q x : P) → Replaced part.machine (wiring_of e) part.state i before e.parts e.reading.nets p q → first ≡ slice_index (wiring_of e).first_pin i → nets ≡ e.reading.nets → slice_get e.parts i ≡ Some x →
      (q ≡ x) × Placed part.machine (wiring_of e) part.state i first e.parts nets p x
  told_place e i first nets before p q x was at is here =
      let there = placed part.machine (wiring_of e) part.state i first before e.parts e.reading.nets p q was at in
      let same : q ≡ x = some_same (sym there.there ∙ here) in (same, rw (← same, is) there)

  -- an engine with this wiring and these inputs
  abbrev on_board : Engine P → Wiring → List Input → Engine P
  on_board e w is = record e { reading = record (e.reading) { nets = record (e.reading.nets) { wiring = w } }; inputs = is }

  same_board : (old mid : Engine P) → wiring_of mid ≡ wiring_of old → mid.inputs ≡ old.inputs → mid ≡ on_board mid (wiring_of old) old.inputs
  same_board old mid wiring inputs = ap (λ (w : Wiring). on_board mid w mid.inputs) wiring ∙ ap (on_board mid (wiring_of old)) inputs

  module _ (old mid new : Engine P) (steps more most : ℕ) (first : WentOn part old mid steps more) (further : mid.cycle < new.cycle) where
    abbrev Here : Engine P
    Here = on_board mid (wiring_of old) old.inputs

    begun : WentOn part old Here steps more
    begun = subst (λ (e : Engine P). WentOn part old e steps more) (same_board old mid first.same_wiring first.same_inputs) first

    pub on_then : WentOn part mid new more most → WentOn part old new steps most
    on_then after =
        let second = subst (λ (e : Engine P). WentOn part e new more most) (same_board old mid first.same_wiring first.same_inputs) after in
        record {
          may = after.may;
          same_wiring = after.same_wiring ∙ first.same_wiring;
          same_inputs = after.same_inputs ∙ first.same_inputs;
          leg = leg_then part.machine laws (wiring_of old) part.state part.now part.wakes old.inputs old.cycle mid.cycle new.cycle steps more old.parts
              mid.parts old.reading Here.reading begun.leg
              (omega (arith, further)) most new.parts new.reading second.leg;
          tells = λ _. tells_then part.machine laws (wiring_of old) part.state part.now part.wakes old.inputs old.cycle mid.cycle new.cycle steps more
              old.parts mid.parts old.reading Here.reading begun.leg
              (omega (arith, further)) new.changed further (second.tells further);
        }

    pub rows_then : rows_to part old new.cycle ≡ rows_to part old mid.cycle ++ rows_to part Here new.cycle
    rows_then = rows_on part.machine laws (wiring_of old) part.state part.now part.wakes old.inputs old.cycle mid.cycle new.cycle steps more old.parts mid.parts old.reading Here.reading begun.leg (omega (arith, further))

    pub bytes_then : bytes_to part old new.cycle ≡ bytes_to part old mid.cycle ++ bytes_to part Here new.cycle
    bytes_then = bytes_on part.machine laws (wiring_of old) part.state part.now part.wakes old.inputs old.cycle mid.cycle new.cycle steps more old.parts mid.parts old.reading Here.reading begun.leg (omega (arith, further))

  -- nothing is shown up to the next cycle in which something may happen
  pub jumps : (e : Engine P) (n u steps : ℕ) → MayRun part e → IsNext e n u → n ≤ MOST_CYCLES → e.cycle < u →
      (e.changed ≡ false) × Jumps part.machine laws (wiring_of e) part.state part.now part.wakes e.inputs e.cycle u e.parts (kept_of e) steps
  jumps e n u steps may next end less =
      let still = unchanged e.changed e.cycle u next.stays less in
      let none : e.changed ≡ true → u ≡ e.cycle = λ is. absurd (let x : true ≡ false = sym is ∙ still.0 in cc) in (
        still.0,
        jumps_to part.machine laws (wiring_of e) part.state part.now part.wakes e.inputs e.cycle u e.parts (kept_of e) steps may.lags still.1 next.from (omega (arith, next.within, end)) none
            (λ k x is. next.late k x is) next.silent,
      )

  pub rests_next : (e : Engine P) (n u steps : ℕ) → MayRun part e → IsNext e n u → n ≤ MOST_CYCLES → Rests part e (record e { cycle = u }) steps steps
  rests_next e n u steps may next end = elim (below_or e.cycle u) [
    | inl less ↦
        let j = jumps e n u steps may next end less in
        record {
          on = record {
            may = record { lags = j.1.lags; behind = next.behind; order = may.order };
            same_wiring = refl;
            same_inputs = refl;
            leg = j.1.leg;
            tells = λ _. subst (λ (b : Bool). LastTells part.machine (wiring_of e) e.inputs b (states_of part e) e.cycle (u - e.cycle)) (sym j.0) (j.1.tells j.0);
          };
          steady = λ _. j.1.rests j.0;
          stays = λ _. refl;
        }
    | inr more ↦
        let same : e.cycle ≡ u = omega (arith, next.from, more) in
        rw (← same) (record { on = on_none e steps may; steady = λ (less : e.cycle < e.cycle). absurd (omega arith); stays = λ _. refl })
  ]

  -- levels and drives stay up to there, and are the same in it
  pub none_moved : (e : Engine P) (n u : ℕ) → MayRun part e → IsNext e n u → n ≤ MOST_CYCLES → StaysSame part.machine (wiring_of e) e.inputs (states_of part e) e.cycle (u + 1 - e.cycle)
  unfolding states
  none_moved e n u may next end = elim (below_or e.cycle u) [
    | inl less ↦ (let j = jumps e n u 0 may next end less in j.1.still j.0)
    | inr more ↦ λ t l. (let none : t ≡ 0 = omega (arith, more, l) in rw none (refl, refl))
  ]

  -- no byte comes up to there
  pub none_sent : (e : Engine P) (n u : ℕ) → MayRun part e → IsNext e n u → n ≤ MOST_CYCLES → bytes_to part e u ≡ []
  unfolding bytes
  none_sent e n u may next end = elim (below_or e.cycle u) [
    | inl less ↦ (jumps e n u 0 may next end less).1.byte_none
    | inr more ↦ let none : u - e.cycle ≡ 0 = omega (arith, more) in rw none refl
  ]

  nil_front : (xs ys : List ℕ) → xs ++ ys ≡ [] → xs ≡ []
  nil_front [] ys none = refl
  nil_front (x ∷ xs) ys none = absurd (cc)

  -- nor up to the cycle before
  pub none_before : (e : Engine P) (u : ℕ) → e.cycle < u → bytes_to part e u ≡ [] → bytes_to part e (u - 1) ≡ []
  unfolding bytes
  none_before e u less none =
      let last : u - e.cycle ≡ suc (u - 1 - e.cycle) = omega (arith, less) in
      nil_front (bytes_to part e (u - 1)) _ (rw last at none)

  -- its parts are brought to where it is
  pub on_settled : (old mid new : Engine P) (steps more : ℕ) → WentOn part old mid steps more → Settled part mid new → WentOn part old (record mid { parts = new.parts; dues = new.dues }) steps more
  on_settled old mid new steps more went s = record {
    may = record {
      lags = settled_lags part.machine laws (wiring_of mid) part.state part.now part.wakes mid.inputs mid.cycle mid.parts new.parts s.long s.each
          (kept_of mid) new.dues went.may.lags s.dues_long s.due;
      behind = went.may.behind;
      order = went.may.order;
    };
    same_wiring = went.same_wiring;
    same_inputs = went.same_inputs;
    leg = settled_leg part.machine laws (wiring_of old) part.state part.now part.wakes old.inputs mid.cycle mid.parts new.parts s.long s.each old.cycle
        old.parts old.reading mid.reading steps more went.leg;
    tells = went.tells;
  }

  pub rests_settled : (old mid new : Engine P) (steps more : ℕ) → Rests part old mid steps more → Settled part mid new → Rests part old new steps more
  rests_settled old mid new steps more rests s = subst (λ (e : Engine P). Rests part old e steps more) (sym s.same)
      (record { on = on_settled old mid new steps more rests.on s; steady = rests.steady; stays = rests.stays })

  module _ {W : Type 0} (watcher : Watching W) where
    pub showed_none : (e : Engine P) (steps : ℕ) (out : W) → MayRun part e → Watches watcher e out → Showed part watcher writes.Ok e (record e { cycle = e.cycle }) steps steps out out
    showed_none e steps out may watches = record {
      on = on_none e steps may;
      ok = λ _. (none_handed part.machine (wiring_of e) e.inputs (shown_at e.cycle e.reading) (states_of part e) e.cycle watcher.whole watcher.faults watcher.stands out watches.whole, watches.later);
      failed = λ (is : writes.Ok ≡ writes.Failed). absurd cc;
      place = refl;
    }

    -- who was handed what the engine showed so far may be handed more
    pub watches_on : (old mid : Engine P) (steps more : ℕ) (out after : W) → Showed part watcher writes.Ok old mid steps more out after → Watches watcher mid after
    watches_on old mid steps more out after went = let ok = went.ok refl in record { whole = ok.0.is_whole; later = ok.1 }

    pub showed_then : (end : WriteEnd) (old mid new : Engine P) (steps more most : ℕ) (out between after : W) → Showed part watcher writes.Ok old mid steps more out between → mid.cycle < new.cycle →
        Showed part watcher end mid new more most between after → Showed part watcher end old new steps most out after
    showed_then end old mid new steps more most out between after first further more_went =
        let second = subst (λ (e : Engine P). Showed part watcher end e new more most between after) (same_board old mid first.on.same_wiring first.on.same_inputs) more_went in
        let handed = (first.ok refl).0 in
        record {
          on = on_then old mid new steps more most first.on further more_went.on;
          ok = λ is. (
            handed_then watcher.whole watcher.faults watcher.stands out between after _ _ _ _ _ _ handed (second.ok is).0 (rows_then old mid new steps more most first.on further) (bytes_then old mid new steps more most first.on further),
            (second.ok is).1,
          );
          failed = λ is.
              let f = (second.failed is).1 in (
                rw (← handed.no_fault) (second.failed is).0,
                record {
                  v = f.v;
                  follows = f.follows;
                  cut_off = cut_then part.machine laws (wiring_of old) part.state part.now part.wakes old.inputs watcher.whole watcher.faults watcher.stands watcher.stopped old.cycle mid.cycle f.v steps more old.parts mid.parts old.reading (Here old mid new steps more most first.on further).reading
                      out between after (begun old mid new steps more most first.on further).leg handed f.cut_off;
                },
              );
          place = more_went.place ∙ first.place;
        }

    -- a write failed in cycle v, before which nothing is shown
    pub fails_here : (e : Engine P) (v u : ℕ) (out after : W) → watcher.whole out ≡ true → e.cycle ≤ v → u ≡ v + 1 → rows_to part e v ≡ [] → bytes_to part e v ≡ [] →
        StopsWithin (watcher.stands out) (watcher.stopped after) (rows_to part e u) (bytes_to part e u) → FailedIn part watcher e u out after
    fails_here e v u out after whole from follows no_row no_byte stops = record {
      v = v;
      follows = follows;
      cut_off = cut_here part.machine (wiring_of e) e.inputs (shown_at e.cycle e.reading) (states_of part e) e.cycle watcher.whole watcher.faults watcher.stands watcher.stopped v u from follows out after whole no_row no_byte stops;
    }

    -- in its first cycle
    pub fails_first : (e : Engine P) (out after : W) → watcher.whole out ≡ true → StopsWithin (watcher.stands out) (watcher.stopped after) (rows_to part e (e.cycle + 1)) (bytes_to part e (e.cycle + 1)) →
        FailedIn part watcher e (e.cycle + 1) out after
    fails_first e out after whole stops = fails_here e e.cycle (e.cycle + 1) out after whole (omega arith) refl
        (no_rows part.machine (wiring_of e) e.inputs (shown_at e.cycle e.reading) (states_of part e) e.cycle) (no_bytes part.machine (wiring_of e) e.inputs (shown_at e.cycle e.reading) (states_of part e) e.cycle) stops

    -- it has stopped within all that the board shows
    pub fails_within : (e : Engine P) (u n : ℕ) (out after : W) → u ≤ n → FailedIn part watcher e u out after → StopsWithin (watcher.stands out) (watcher.stopped after) (rows_to part e n) (bytes_to part e n)
    fails_within e u n out after within f =
        cut_within part.machine (wiring_of e) e.inputs (shown_at e.cycle e.reading) (states_of part e) e.cycle watcher.whole watcher.faults watcher.stands watcher.stopped f.v u f.cut_off.from f.follows out after n within f.cut_off

    -- and nothing happens up to the next cycle in which something may
    pub showed_next : (old mid : Engine P) (steps more : ℕ) (out after : W) (n u : ℕ) → Showed part watcher writes.Ok old mid steps more out after → IsNext mid n u → n ≤ MOST_CYCLES →
        Showed part watcher writes.Ok old (record mid { cycle = u }) steps more out after
    showed_next old mid steps more out after n u went next last = elim (below_or mid.cycle u) [
      | inl less ↦
          let new : Engine P = record mid { cycle = u } in
          let j = (jumps mid n u more went.on.may next last less).1 in
          let none = subst (λ (e : Engine P). (rows_to part e u ≡ []) × (bytes_to part e u ≡ [])) (same_board old mid went.on.same_wiring went.on.same_inputs) (j.row_none, j.byte_none) in
          record {
            on = on_then old mid new steps more more went.on less (rests_next mid n u more went.on.may next last).on;
            ok = λ is.
                let ok = went.ok is in (
                  handed_then watcher.whole watcher.faults watcher.stands out after after _ _ _ _ _ _ ok.0 (handed_nothing watcher.whole watcher.faults watcher.stands after ok.0.is_whole)
                      (rows_then old mid new steps more more went.on less ∙ ap (λ (rs : List Row). rows_to part old mid.cycle ++ rs) none.0)
                      (bytes_then old mid new steps more more went.on less ∙ ap (λ (bs : List ℕ). bytes_to part old mid.cycle ++ bs) none.1),
                  λ x ex. (let was = ok.1 x ex in let far = was.0 in (omega (arith, far, less), was.1)),
                );
            failed = λ (is : writes.Ok ≡ writes.Failed). absurd cc;
            place = went.place;
          }
      | inr more_or ↦
          let same : mid.cycle ≡ u = omega (arith, next.from, more_or) in
          rw (← same) (record {
            on = record { may = record { lags = went.on.may.lags; behind = went.on.may.behind; order = went.on.may.order }; same_wiring = went.on.same_wiring; same_inputs = went.on.same_inputs; leg = went.on.leg; tells = went.on.tells };
            ok = went.ok;
            failed = λ (is : writes.Ok ≡ writes.Failed). absurd cc;
            place = went.place;
          })
    ]

    -- where nothing happens before that
    pub showed_passed : (e mid : Engine P) (steps : ℕ) (out : W) (n : ℕ) → MayRun part e → Watches watcher e out → IsNext e n mid.cycle → mid ≡ record e { cycle = mid.cycle } → n ≤ MOST_CYCLES →
        Showed part watcher writes.Ok e mid steps steps out out
    showed_passed e mid steps out n may watches next rest end =
        let here : IsNext (record e { cycle = e.cycle }) n mid.cycle =
        record { from = next.from; within = next.within; stays = next.stays; late = next.late; silent = next.silent; behind = next.behind; event = next.event } in
        rw rest (showed_next e (record e { cycle = e.cycle }) steps steps out out n mid.cycle (showed_none e steps out may watches) here end)

    pub showed_settled : (end : WriteEnd) (old mid new : Engine P) (steps more : ℕ) (out after : W) → Showed part watcher end old mid steps more out after → Settled part mid new → Showed part watcher end old new steps more out after
    showed_settled end old mid new steps more out after went s = subst (λ (e : Engine P). Showed part watcher end old e steps more out after) (sym s.same)
        (record { on = on_settled old mid new steps more went.on s; ok = went.ok; failed = went.failed; place = went.place })
