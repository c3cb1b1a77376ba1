use Rattle.std.proofs.Common.{◌≡◌, ◌∙◌, ◌++◌, [], ◌∷◌, ℕ, List, ap, subst, sym, arith}
use Rattle.std.specs.List.{flat_map}
use Rattle.sim_base.specs.declared.bench.Port.TheVariants as ports
use Rattle.board_model.specs.Walks.{below}
use Rattle.sim_outcome_model.specs.Work.{Wrote}
use Rattle.sim_outcome_model.proofs.WriteLemmas.{others_more}
use Rattle.sim_report.specs.declared.row.ReportRow.{ReportRow}
use Rattle.sim_report.specs.declared.row.ReportRow.TheVariants as lines
use Rattle.board_report.specs.Report.{page_row, text_of}
use Rattle.board_report.proofs.ReportLemmas.{wrote_same, rows_after, text-one}
use Rattle.board_report.proofs.report.write_oled.Goals as goal

pub loop-page-preserved : goal.loop-page-preserved
loop-page-preserved g c =
    let picture = c.args.oled.now.picture in
    let id : List ℕ = c.args.id.now in
    let row : ReportRow = lines.Oled id picture.on in
    let one : ℕ → List ReportRow = λ page. page_row id picture page ∷ [] in
    let l = c.loop-page in
    let done = c.write_page-end in
    record {
      next = λ a text w. wrote_same done.result ports.Report _ _ a (g.B.Bench.outside done.new.bench)
          (ap (λ (t : List ℕ). (text ++ text_of (row ∷ flat_map one (below l.page))) ++ t) (sym (text-one (page_row id picture l.page))) ∙ rows_after text row one l.page)
          (done.ensures.next a _ (l.invariant.next a text w));
      named = done.ensures.named ∙ l.invariant.named;
      opened = done.ensures.opened;
      others = others_more ports.Report _ _ _ l.invariant.others done.ensures.others;
    }

pub returns-clause-next : goal.returns-clause-next
returns-clause-next g c =
    let picture = c.args.oled.now.picture in
    let id : List ℕ = c.args.id.now in
    let row : ReportRow = lines.Oled id picture.on in
    let one : ℕ → List ReportRow = λ page. page_row id picture page ∷ [] in
    let l = c.loop-page in
    let all : l.page ≡ 8 = omega (arith, c.loop-page-test.false, l.auto.page-end) in
    λ a text w. subst (λ (k : ℕ). Wrote l.end ports.Report (text ++ text_of (row ∷ flat_map one (below k))) a (g.B.Bench.outside l.bench)) all (l.invariant.next a text w)
