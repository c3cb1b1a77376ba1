-- How often parts were woken, beside the count of steps.
use Rattle.std.proofs.Common.{◌≡◌, ℕ, zero, suc, ◌+◌, ◌-◌, ◌≤◌, List, ◌∙◌, length, map, take, Some, refl, ap, sym, arith}
use Rattle.std.specs.Prelude.{slice_get}
use Rattle.std.specs.List.{sum_by}
use Rattle.std.proofs.lemmas.List.{length-map}
use Rattle.std.proofs.lemmas.List.Sums.{sum_by_more}
use Rattle.std.proofs.lemmas.Option.{get_or_from_slice_get}
use Rattle.part_law.specs.declared.part.Part.{Ghosts}
use Rattle.board_model.proofs.Lists.{take_whole}
use Rattle.board_model.proofs.Steps.{length-states}
use Rattle.law_board.specs.Active.{active_cycles, sum_below}
use Rattle.law_board.proofs.ActiveLaw.{pairs_by_parts}
use Rattle.board_run.specs.BoardView.{BoardView}
use Rattle.board_run.specs.BoardWent.{BoardWent}
use Rattle.board_run.proofs.TurnLemmas.{some_there}

-- the first i of them, each of which rose by so much
sum_each : {A : Type 0} (f : A → ℕ) (rise : ℕ → ℕ) (old new : List A) → length new ≡ length old → ((k : ℕ) (p q : A) → slice_get old k ≡ Some p → slice_get new k ≡ Some q → f q ≡ f p + rise k) →
    (i : ℕ) → i ≤ length old → sum_by f (take i new) ≡ sum_by f (take i old) + sum_below i rise
sum_each f rise old new long each zero l = omega arith
sum_each f rise old new long each (suc i) l =
    let p = some_there old i (omega (arith, l)) in
    let q = some_there new i (omega (arith, l, long)) in
    let a = sum_by_more f new i q.0 (omega (arith, l, long)) in
    let b = sum_by_more f old i p.0 (omega (arith, l)) in
    let at_a = ap f (get_or_from_slice_get new i q.0 q.0 q.1) in
    let at_b = ap f (get_or_from_slice_get old i p.0 p.0 p.1) in
    let s : i + 1 ≡ suc i = omega arith in
    let next_a = ap (λ (n : ℕ). sum_by f (take n new)) s in
    let next_b = ap (λ (n : ℕ). sum_by f (take n old)) s in
    let e = each i p.0 q.0 p.1 q.1 in
    let rest = sum_each f rise old new long each i (omega (arith, l)) in
    omega (arith, a, b, at_a, at_b, next_a, next_b, e, rest)

-- the parts of a board that went on, as often as it took steps
pub board_woken : {P : Type 0} (part : Ghosts P) (old new : BoardView P) (steps more : ℕ) → BoardWent part old new steps more → sum_by part.wakes new.parts + steps ≡ sum_by part.wakes old.parts + more
board_woken part old new steps more went =
    let ss = map part.state old.parts in
    let n = new.cycle - old.cycle in
    let a : length (map part.state old.parts) ≡ length old.parts = simp length-map refl in
    let b : length (map part.state new.parts) ≡ length new.parts = simp length-map refl in
    let long : length new.parts ≡ length old.parts = sym b ∙ ap length went.states_are ∙ length-states part.machine old.wiring old.inputs ss old.cycle n ∙ a in
    let rise = active_cycles part.machine old.wiring old.inputs ss old.cycle n in
    let all = sum_each part.wakes rise old.parts new.parts long went.woken (length old.parts) (omega arith) in
    let whole_old = ap (sum_by part.wakes) (take_whole (length old.parts) old.parts (omega arith)) in
    let whole_new = ap (sum_by part.wakes) (take_whole (length old.parts) new.parts (omega (arith, long))) in
    let pairs = pairs_by_parts part.machine old.wiring old.inputs ss old.cycle n in
    let sized = ap (λ (k : ℕ). sum_below k rise) a in
    let s = went.steps_are in
    omega (arith, all, whole_old, whole_new, pairs, sized, s)
