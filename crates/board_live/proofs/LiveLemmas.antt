-- A leg of a live board goes on from what was shown before.
use Rattle.std.proofs.Common.{◌≡◌, ℕ, Bool, ◌+◌, ◌-◌, ◌<◌, ◌≤◌, List, [], ◌++◌, ◌∙◌, length, map, true, false, Option, None, Some, refl, ap, sym, subst, arith, append_assoc}
use Rattle.std.proofs.lemmas.List.{append-nil}
use Rattle.std.specs.Option.{ForSome}
use Rattle.std.specs.Prelude.{Result, Ok, Err, OnOk, OnErr}
use Rattle.sim_base.specs.declared.wiring.Wiring.{Wiring}
use Rattle.sim_base.specs.declared.wiring.Input.{Input}
use Rattle.sim_base.specs.declared.watcher.Watcher.{Ghosts as Watching}
use Rattle.sim_base.specs.Rows.{Row, Handed, StopsWithin, AreFronts}
use Rattle.part_law.specs.Machine.{Machine}
use Rattle.part_law.specs.declared.part.Part.{Ghosts}
use Rattle.board_model.specs.Board.{states, bytes, drives_of, levels_of}
use Rattle.board_model.specs.Rows.{Shown, shown_before, rows}
use Rattle.law_board.specs.Active.{active_pairs}
use Rattle.board_model.specs.Fits.{AreInputs}
use Rattle.law_board.specs.Scripts.{with_input, SameRun}
use Rattle.law_board.proofs.ScriptLaw.{inputs_more, given_later}
use Rattle.law_board.proofs.Splits.{states_split, bytes_split, shown_split, rows_split, pairs_split}
use Rattle.board_run.specs.BoardView.{BoardView}
use Rattle.board_run.specs.Changes.{LastTells, StaysSame}
use Rattle.board_run.specs.declared.board.RunEnd.{RunEnd}
use Rattle.board_run.specs.declared.board.RunEnd.TheVariants as ends
use Rattle.board_live.specs.LiveView.{LiveView, states_by, shown_by, rows_by, bytes_by, wakes_by}
use Rattle.board_live.specs.Follows.{Follows, StoppedBefore}
use Rattle.board_live.specs.Played.{IsPlayed}

-- From cycle c on a board goes on as it would have gone from cycle 0.
module _ {S : Type 0} (m : Machine S) (w : Wiring) (inputs : List Input) (ss ts : List S) (before : Option Shown) (c n : ℕ) (order : c ≤ n)
    (at : ts ≡ states m w inputs ss 0 c) (shown : before ≡ shown_before m w inputs None ss 0 c) where
  end : c + (n - c) ≡ n
  end = omega (arith, order)

  begin : 0 + c ≡ c
  begin = omega arith

  pub states_on : states m w inputs ts c (n - c) ≡ states m w inputs ss 0 n
  states_on =
      ap (λ (l : List S). states m w inputs l c (n - c)) at
      ∙ ap (λ (k : ℕ). states m w inputs (states m w inputs ss 0 c) k (n - c)) (sym begin)
      ∙ sym (states_split m w inputs ss 0 c (n - c)) ∙ ap (states m w inputs ss 0) end

  pub shown_on : shown_before m w inputs before ts c (n - c) ≡ shown_before m w inputs None ss 0 n
  shown_on =
      ap (λ (l : List S). shown_before m w inputs before l c (n - c)) at
      ∙ ap (λ (o : Option Shown). shown_before m w inputs o (states m w inputs ss 0 c) c (n - c)) shown
      ∙ ap (λ (k : ℕ). shown_before m w inputs (shown_before m w inputs None ss 0 c) (states m w inputs ss 0 c) k (n - c)) (sym begin)
      ∙ sym (shown_split m w inputs None ss 0 c (n - c)) ∙ ap (shown_before m w inputs None ss 0) end

  pub rows_on : rows m w inputs None ss 0 c ++ rows m w inputs before ts c (n - c) ≡ rows m w inputs None ss 0 n
  rows_on =
      ap (λ (l : List S). rows m w inputs None ss 0 c ++ rows m w inputs before l c (n - c)) at
      ∙ ap (λ (o : Option Shown). rows m w inputs None ss 0 c ++ rows m w inputs o (states m w inputs ss 0 c) c (n - c)) shown
      ∙ ap (λ (k : ℕ). rows m w inputs None ss 0 c ++ rows m w inputs (shown_before m w inputs None ss 0 c) (states m w inputs ss 0 c) k (n - c)) (sym begin)
      ∙ sym (rows_split m w inputs None ss 0 c (n - c)) ∙ ap (rows m w inputs None ss 0) end

  pub bytes_on : bytes m w inputs ss 0 c ++ bytes m w inputs ts c (n - c) ≡ bytes m w inputs ss 0 n
  bytes_on =
      ap (λ (l : List S). bytes m w inputs ss 0 c ++ bytes m w inputs l c (n - c)) at
      ∙ ap (λ (k : ℕ). bytes m w inputs ss 0 c ++ bytes m w inputs (states m w inputs ss 0 c) k (n - c)) (sym begin)
      ∙ sym (bytes_split m w inputs ss 0 c (n - c)) ∙ ap (bytes m w inputs ss 0) end

  pub pairs_on : active_pairs m w inputs ss 0 c + active_pairs m w inputs ts c (n - c) ≡ active_pairs m w inputs ss 0 n
  pairs_on =
      ap (λ (l : List S). active_pairs m w inputs ss 0 c + active_pairs m w inputs l c (n - c)) at
      ∙ ap (λ (k : ℕ). active_pairs m w inputs ss 0 c + active_pairs m w inputs (states m w inputs ss 0 c) k (n - c)) (sym begin)
      ∙ sym (pairs_split m w inputs ss 0 c (n - c)) ∙ ap (active_pairs m w inputs ss 0) end

-- and the last step of all changed what the last one from there on did
pub tells_on : {S : Type 0} (m : Machine S) (w : Wiring) (inputs : List Input) (ss ts : List S) (before : Option Shown) (c n : ℕ) → c < n → ts ≡ states m w inputs ss 0 c → before ≡ shown_before m w inputs None ss 0 c →
    (changed : Bool) → LastTells m w inputs changed ts c (n - c) → LastTells m w inputs changed ss 0 n
tells_on m w inputs ss ts before c n further at shown changed tells =
    let order : c ≤ n = omega (arith, further) in
    let least : c ≤ n - 1 = omega (arith, further) in
    let last : n - c - 1 ≡ n - 1 - c = omega (arith, further) in
    let e : states m w inputs ts c (n - c - 1) ≡ states m w inputs ss 0 (n - 1) = ap (states m w inputs ts c) last ∙ states_on m w inputs ss ts before c (n - 1) least at shown in
    rw (← e, ← states_on m w inputs ss ts before c n order at shown) tells

-- what callers see of a live board
abbrev pub view_of : {P : Type 0} → List P → BoardView P → LiveView P
view_of start b = record { start = start; wiring = b.wiring; inputs = b.inputs; cycle = b.cycle; over = b.given_up }

-- a board before its first cycle
pub played_none : {P : Type 0} (part : Ghosts P) (board : BoardView P) (start : List P) → board.cycle ≡ 0 → board.before ≡ None → AreInputs (length board.parts) board.inputs → start ≡ board.parts → IsPlayed part start board
unfolding states shown_before
played_none part board start cycle before inputs same = record {
  are_inputs = rw same inputs;
  states_are = λ alive. rw (cycle, same) refl;
  tells = λ alive (later : 0 < board.cycle). absurd (omega (arith, cycle, later));
  shown_is = λ alive. rw cycle before;
}

-- a value is given
pub played_given : {P E : Type 0} (part : Ghosts P) (start : List P) (old new : BoardView P) (x : Input) (r : Result (Unit {0}) E) → IsPlayed part start old → old.cycle ≤ x.cycle → x.part < length start →
    OnOk r (new ≡ record old { inputs = with_input old.inputs x }) → OnErr r (new ≡ old) → IsPlayed part start new
played_given part start old new x (Ok u) played later here ok err =
    let same = given_later part.machine old.wiring old.inputs x None (map part.state start) 0 old.cycle (omega (arith, later)) in
    let before = given_later part.machine old.wiring old.inputs x None (map part.state start) 0 (old.cycle - 1) (omega (arith, later)) in
    subst (IsPlayed part start) (sym ok) (record {
      are_inputs = inputs_more (length start) old.inputs x played.are_inputs here;
      states_are = λ alive. played.states_are alive ∙ sym same.same_states;
      tells = λ alive further. rw (before.same_states, same.same_states) (played.tells alive further);
      shown_is = λ alive. played.shown_is alive ∙ sym same.same_shown;
    })
played_given part start old new x (Err e) played later here ok err = subst (IsPlayed part start) (sym err) played

-- a leg was run
pub played_on : {P : Type 0} (part : Ghosts P) (start : List P) (old new : BoardView P) (n : ℕ) (r : RunEnd) → IsPlayed part start old → old.given_up ≡ false → old.cycle < n →
    new.wiring ≡ old.wiring → new.inputs ≡ old.inputs → (r ≡ ends.Done → new.cycle ≡ n) → (r ≡ ends.WriteFault → new.given_up ≡ true) →
    (r ≡ ends.Done → map part.state new.parts ≡ states part.machine old.wiring old.inputs (map part.state old.parts) old.cycle (n - old.cycle)) →
    (r ≡ ends.Done → new.before ≡ shown_before part.machine old.wiring old.inputs old.before (map part.state old.parts) old.cycle (n - old.cycle)) →
    (r ≡ ends.Done → LastTells part.machine old.wiring old.inputs new.changed (map part.state old.parts) old.cycle (n - old.cycle)) → IsPlayed part start new
played_on part start old new n ends.Done played alive further wiring inputs cycle given_up stand before tells = record {
  are_inputs = rw inputs played.are_inputs;
  states_are = λ _. rw (wiring, inputs, cycle refl) (stand refl ∙ states_on part.machine old.wiring old.inputs (map part.state start) (map part.state old.parts) old.before old.cycle n (omega (arith, further)) (played.states_are alive) (played.shown_is alive));
  tells = λ _ _. rw (wiring, inputs, cycle refl) (tells_on part.machine old.wiring old.inputs (map part.state start) (map part.state old.parts) old.before old.cycle n further (played.states_are alive) (played.shown_is alive) new.changed (tells refl));
  shown_is = λ _. rw (wiring, inputs, cycle refl) (before refl ∙ shown_on part.machine old.wiring old.inputs (map part.state start) (map part.state old.parts) old.before old.cycle n (omega (arith, further)) (played.states_are alive) (played.shown_is alive));
}
played_on part start old new n ends.WriteFault played alive further wiring inputs cycle given_up stand before tells = record {
  are_inputs = rw inputs played.are_inputs;
  states_are = λ is. absurd (let no : new.given_up ≡ true = given_up refl in cc);
  tells = λ is _. absurd (let no : new.given_up ≡ true = given_up refl in cc);
  shown_is = λ is. absurd (let no : new.given_up ≡ true = given_up refl in cc);
}

module _ {P W : Type 0} (part : Ghosts P) (watcher : Watching W) (start : List P) (old new : BoardView P) (played : IsPlayed part start old) (alive : old.given_up ≡ false)
    (n : ℕ) (order : old.cycle ≤ n) (out after : W) (follows : Follows part watcher (view_of start old) out) where
  -- it was handed the leg, so it follows still
  pub follows_on : new.wiring ≡ old.wiring → new.inputs ≡ old.inputs → new.cycle ≡ n →
      new.before ≡ shown_before part.machine old.wiring old.inputs old.before (map part.state old.parts) old.cycle (n - old.cycle) →
      Handed watcher.whole watcher.faults watcher.stands out after (rows part.machine old.wiring old.inputs old.before (map part.state old.parts) old.cycle (n - old.cycle))
      (bytes part.machine old.wiring old.inputs (map part.state old.parts) old.cycle (n - old.cycle)) →
      ForSome (watcher.last after) (λ u. (u < n) × ForSome new.before (λ shown. watcher.seen after shown.levels)) →
      Follows part watcher (view_of start new) after
  follows_on wiring inputs cycle before handed last =
      let m = part.machine in
      let ss = map part.state start in
      let ts = map part.state old.parts in
      let at = played.states_are alive in
      let shown = played.shown_is alive in
      let rs = rows_on m old.wiring old.inputs ss ts old.before old.cycle n order at shown in
      let bs = bytes_on m old.wiring old.inputs ss ts old.before old.cycle n order at shown in
      let now : new.before ≡ shown_before m old.wiring old.inputs None ss 0 n = before ∙ shown_on m old.wiring old.inputs ss ts old.before old.cycle n order at shown in
      let stands = handed.appended (rows m old.wiring old.inputs None ss 0 old.cycle) (bytes m old.wiring old.inputs ss 0 old.cycle) follows.stands in
      record {
        whole = handed.is_whole;
        stands = rw (wiring, inputs, cycle) (subst (λ (r : List Row). watcher.stands after r (bytes m old.wiring old.inputs ss 0 n)) rs (subst (watcher.stands after _) bs stands));
        last = rw (wiring, inputs, cycle, ← now) last;
      }

  -- a write failed, so it has stopped within what the live board would have shown
  pub stopped_on : StopsWithin (watcher.stands out) (watcher.stopped after) (rows part.machine old.wiring old.inputs old.before (map part.state old.parts) old.cycle (n - old.cycle))
      (bytes part.machine old.wiring old.inputs (map part.state old.parts) old.cycle (n - old.cycle)) → StoppedBefore part watcher (view_of start old) n after
  stopped_on (r, b, fronts, appended) =
      let m = part.machine in
      let ss = map part.state start in
      let ts = map part.state old.parts in
      let at = played.states_are alive in
      let shown = played.shown_is alive in
      let first = rows m old.wiring old.inputs None ss 0 old.cycle in
      let sent = bytes m old.wiring old.inputs ss 0 old.cycle in
      record {
        front_rows = first ++ r;
        front_bytes = sent ++ b;
        are_fronts = record {
          more_rows = fronts.more_rows;
          more_bytes = fronts.more_bytes;
          whole_rows = append_assoc first r fronts.more_rows ∙ ap (λ (l : List Row). first ++ l) fronts.whole_rows ∙ rows_on m old.wiring old.inputs ss ts old.before old.cycle n order at shown;
          whole_bytes = append_assoc sent b fronts.more_bytes ∙ ap (λ (l : List ℕ). sent ++ l) fronts.whole_bytes ∙ bytes_on m old.wiring old.inputs ss ts old.before old.cycle n order at shown;
        };
        stopped = appended first sent follows.stands;
      }

-- where a leg brings no byte, there are as many as before
pub silent_to : {P : Type 0} (part : Ghosts P) (start : List P) (old : BoardView P) → IsPlayed part start old → old.given_up ≡ false → (n : ℕ) → old.cycle ≤ n →
    bytes part.machine old.wiring old.inputs (map part.state old.parts) old.cycle (n - old.cycle) ≡ [] → bytes part.machine old.wiring old.inputs (map part.state start) 0 n ≡ bytes part.machine old.wiring old.inputs (map part.state start) 0 old.cycle
silent_to part start old played alive n order none =
    let all = bytes_on part.machine old.wiring old.inputs (map part.state start) (map part.state old.parts) old.before old.cycle n order (played.states_are alive) (played.shown_is alive) in
    sym all ∙ ap (λ (l : List ℕ). bytes part.machine old.wiring old.inputs (map part.state start) 0 old.cycle ++ l) none ∙ append-nil (bytes part.machine old.wiring old.inputs (map part.state start) 0 old.cycle)

-- nor are levels and drives other ones
pub still_to : {P : Type 0} (part : Ghosts P) (start : List P) (old : BoardView P) → IsPlayed part start old → old.given_up ≡ false → (n : ℕ) →
    StaysSame part.machine old.wiring old.inputs (map part.state old.parts) old.cycle (n - old.cycle) → (u : ℕ) → old.cycle ≤ u → u < n →
    (levels_of part.machine old.wiring (states part.machine old.wiring old.inputs (map part.state start) 0 u) ≡ levels_of part.machine old.wiring (states part.machine old.wiring old.inputs (map part.state start) 0 old.cycle))
    × (drives_of part.machine (states part.machine old.wiring old.inputs (map part.state start) 0 u) ≡ drives_of part.machine (states part.machine old.wiring old.inputs (map part.state start) 0 old.cycle))
still_to part start old played alive n still u from before =
    let at = played.states_are alive in
    let there = states_on part.machine old.wiring old.inputs (map part.state start) (map part.state old.parts) old.before old.cycle u from at (played.shown_is alive) in
    rw (← there, ← at) (still (u - old.cycle) (omega (arith, from, before)))

-- Who follows a live board follows it after a value was given.
pub follows_given : {P W : Type 0} (part : Ghosts P) (watcher : Watching W) (s : LiveView P) (more : List Input) (out : W) →
    SameRun part.machine s.wiring s.inputs more None (map part.state s.start) 0 s.cycle → Follows part watcher s out → Follows part watcher (record s { inputs = more }) out
follows_given part watcher s more out same follows = record {
  whole = follows.whole;
  stands = rw (same.same_rows, same.same_bytes) follows.stands;
  last = λ u eu. let l = follows.last u eu in (l.0, λ x ex. l.1 x (sym same.same_shown ∙ ex));
}
