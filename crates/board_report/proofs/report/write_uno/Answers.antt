use Rattle.std.proofs.Common.{◌≡◌, ◌∙◌, ◌++◌, ◌∷◌, ℕ, List, subst, arith}
use Rattle.std.specs.List.{flat_map}
use Rattle.sim_base.specs.declared.bench.Port.TheVariants as ports
use Rattle.board_model.specs.Walks.{below}
use Rattle.sim_outcome_model.specs.Work.{Wrote}
use Rattle.sim_outcome_model.proofs.WriteLemmas.{others_more}
use Rattle.sim_report.specs.declared.row.ReportRow.{ReportRow}
use Rattle.sim_report.specs.declared.row.ReportRow.TheVariants as lines
use Rattle.board_report.specs.Report.{mode_of, ignored_rows, text_of}
use Rattle.board_report.proofs.ReportLemmas.{wrote_same, rows_after}
use Rattle.board_report.proofs.report.write_uno.Goals as goal

pub loop-address-preserved : goal.loop-address-preserved
loop-address-preserved g c =
    let uno = c.args.uno.now.mcu in
    let id : List ℕ = c.args.id.now in
    let row : ReportRow = lines.Uno id uno.core.pc (mode_of uno.core.mode) in
    let l = c.loop-address in
    let done = c.write_ignored-end in
    record {
      next = λ a text w. wrote_same done.result ports.Report _ _ a (g.B.Bench.outside done.new.bench) (rows_after text row (ignored_rows id uno.units.ignored) l.address) (rw c.ignored.ensures at (done.ensures.next a _ (l.invariant.next a text w)));
      named = done.ensures.named ∙ l.invariant.named;
      opened = done.ensures.opened;
      others = others_more ports.Report _ _ _ l.invariant.others done.ensures.others;
    }

pub returns-clause-next : goal.returns-clause-next
returns-clause-next g c =
    let uno = c.args.uno.now.mcu in
    let id : List ℕ = c.args.id.now in
    let row : ReportRow = lines.Uno id uno.core.pc (mode_of uno.core.mode) in
    let l = c.loop-address in
    let all : l.address ≡ 256 = omega (arith, c.loop-address-test.false, l.auto.address-end) in
    λ a text w. subst (λ (k : ℕ). Wrote l.end ports.Report (text ++ text_of (row ∷ flat_map (ignored_rows id uno.units.ignored) (below k))) a (g.B.Bench.outside l.bench)) all (l.invariant.next a text w)
