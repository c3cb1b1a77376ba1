use Rattle.std.proofs.Common.{◌++◌, ◌∷◌, [], ◌∙◌, refl}
use Rattle.sim_report.proofs.LineLemmas.{wrote, same_text, text_with_id, text_without_id}
use Rattle.sim_report.proofs.report.write_report.Goals as goal
use Rattle.sim_report.proofs.report.write_report.Goals.{in-Some, in-None}

pub returns-clause-wrote : goal.returns-clause-wrote
returns-clause-wrote g c =
    let a = g.B.Bench.outside c.args.bench.now in
    let first = wrote _ a _ _ c.write-end.ensures.leaves c.write-end.ensures.cause in
    let rest = c.as_slice.ensures.value ∙ c.rest.ensures in
    elim c.match-id.branch [
      | in-Some w ↦
          let named = w.write_next-end-in-Some.ensures.next a _ (w.write_next-end.ensures.next a _ first) in
          let whole = c.write_next.ensures.next a ((c.subject.result.now ++ 32 ∷ []) ++ w.bytes.result.now) (rw (w.end-is, w.bench-is) named) in
          same_text _ _ _ _ _ (text_with_id c.args.row.now c.subject.result.now w.bytes.result.now c.as_slice.result.now _ c.subject.ensures c.id.ensures (rw (w.in-Some.is, w.bytes.ensures) refl) rest) whole
      | in-None w ↦
          let whole = c.write_next.ensures.next a c.subject.result.now (rw (w.end-is, w.bench-is) first) in
          same_text _ _ _ _ _ (text_without_id c.args.row.now c.subject.result.now c.as_slice.result.now _ c.subject.ensures c.id.ensures (rw w.in-None.is refl) rest) whole
    ]
