use Rattle.std.proofs.Common.{◌≡◌, ℕ, length, ap, arith, eqb-true, subst, sym}
use Rattle.std.proofs.lemmas.List.{nil_from_length}
use Rattle.text_model.specs.Lines.{lines}
use Rattle.input_script.specs.Script.{Verdict, Passed, Acts, Faulty, verdict}
use Rattle.input_script.proofs.RowLemmas.{line_passed, line_acts, line_faulty, no_line}
use Rattle.input_script.proofs.script.read_script.Goals as goal
use Rattle.input_script.proofs.script.read_script.Goals.{in-Passed, in-Acts+in_ok-push-in-Acts}

pub returns-in-Faulty : goal.returns-in-Faulty
returns-in-Faulty c =
    let l = c.loop-rest in
    let seen : Faulty c.in-Faulty.fault ≡ verdict l.last (length l.rows) c.next_line.result.0.now = subst (λ (n : ℕ). Faulty c.in-Faulty.fault ≡ verdict l.last n c.next_line.result.0.now) c.len.ensures c.in-Faulty.ensures.seen in
    rw c.refused.ensures (line_faulty l.rows l.last l.number (lines l.rest.now) _ _ _ c.in-Faulty.fault l.invariant.reading c.next_line.ensures.line seen)

pub loop-rest-preserved : goal.loop-rest-preserved
loop-rest-preserved c =
    let l = c.loop-rest in
    elim c.match-read_line.branch [
      | in-Passed w ↦
          let seen : Passed ≡ verdict l.last (length l.rows) c.next_line.result.0.now = subst (λ (n : ℕ). Passed ≡ verdict l.last n c.next_line.result.0.now) c.len.ensures w.in-Passed.ensures.seen in
          record {
            reading = rw (w.rows-is, w.last-is) (line_passed l.rows l.last l.number (lines l.rest.now) _ _ _ l.invariant.reading c.next_line.ensures.line seen);
            number = omega (arith, l.invariant.number, c.next_line.ensures.shorter);
          }
      | in-Acts+in_ok-push-in-Acts w ↦
          let seen : Acts w.in-Acts.action ≡ verdict l.last (length l.rows) c.next_line.result.0.now = subst (λ (n : ℕ). Acts w.in-Acts.action ≡ verdict l.last n c.next_line.result.0.now) c.len.ensures w.in-Acts.ensures.seen in
          record {
            reading = rw (w.rows-is, w.last-is, w.in_ok-push-in-Acts.ensures.ok) (line_acts l.rows l.last l.number (lines l.rest.now) _ _ _ w.in-Acts.action l.invariant.reading c.next_line.ensures.line seen);
            number = omega (arith, l.invariant.number, c.next_line.ensures.shorter);
          }
    ]

pub returns : goal.returns
unfolding lines
returns c =
    let l = c.loop-rest in
    no_line l.rows l.last l.number (lines l.rest.now) _ l.invariant.reading (ap lines (nil_from_length l.rest.now (eqb-true (length l.rest.now) 0 (sym c.loop-rest-test.ensures))))
