use Rattle.board_run.proofs.Common.{drop, [], ◌≡◌, ◌≢◌, ◌∙◌, arith, sym, ap, get_or, length, List, None, false, true, eq-eqb, drop_all, slice_get-get_or}
use Rattle.board_run.proofs.Common.{or_parts, Input, input_from, PartSet, has_part}
use Rattle.board_run.proofs.PartLemmas.{given_next}
use Rattle.board_run.proofs.turn.with_given.Goals as goal
use Rattle.board_run.proofs.turn.with_given.Goals.{then-input-lt64, else-input-lt64}

pub loop-input-preserved : goal.loop-input-preserved
loop-input-preserved c =
    let xs = c.args.given.now in
    let j = c.loop-input.input-index in
    let x = get_or xs j (record { cycle = 0; part = 0; value = 0 }) in
    let at = slice_get-get_or xs j (record { cycle = 0; part = 0; value = 0 }) c.loop-input-test.true in
    record {
      marked = λ t k few none. elim c.if-input-lt64.branch [
        | then-input-lt64 w ↦
            let e = sym (w.with-set.ensures k) ∙ ap (λ (s : PartSet). has_part s k) (sym w.set-is) ∙ none in
            let inv = c.loop-input.invariant.marked t k few (or_parts _ _ e).0 in
            let other : x.part ≢ k = λ same. (let wrong : true ≡ false = sym (eq-eqb k x.part (sym same)) ∙ (or_parts _ _ e).1 in cc) in
            (inv.0, given_next xs j t k x at other ∙ inv.1)
        | else-input-lt64 w ↦
            let inv = c.loop-input.invariant.marked t k few (ap (λ (s : PartSet). has_part s k) (sym w.set-is) ∙ none) in
            let other : x.part ≢ k = λ same. (let f = w.if-input-lt64.false in absurd (omega (arith, f, same, few))) in
            (inv.0, given_next xs j t k x at other ∙ inv.1)
      ];
      silent = λ empty. absurd (omega (arith, ap length empty, c.loop-input-test.true));
    }

pub returns-clause-marked : goal.returns-clause-marked
returns-clause-marked c = λ t k few none.
    let inv = c.loop-input.invariant.marked t k few none in
    let all : drop c.loop-input.input-index c.args.given.now ≡ [] = drop_all c.loop-input.input-index c.args.given.now (omega (arith, c.loop-input-test.false)) in
    (inv.0, sym inv.1 ∙ ap (λ (l : List Input). input_from None l t k) all)
