use Rattle.std.proofs.Common.{◌≡◌, ◌∙◌, ◌+◌, ◌++◌, ◌<◌, ◌≤◌, ℕ, List, [], length, drop, min, map, ap, sym, refl, arith}
use Rattle.std.proofs.lemmas.List.{append_assoc, append-nil}
use Rattle.sim_base.specs.declared.bench.Port.TheVariants as ports
use Rattle.sim_outcome_model.proofs.WriteLemmas.{others_more}
use Rattle.board_build.specs.declared.plan.PlanPart.{PlanPart}
use Rattle.board_report.specs.Report.{chosen_text, parts_text}
use Rattle.board_report.proofs.ReportLemmas.{wrote_same, parts_more, parts_done}
use Rattle.board_report.proofs.report.write_parts.Goals as goal

pub loop-i-init : goal.loop-i-init
loop-i-init g c = record {
  done = ([], λ a text w. wrote_same c.args.end ports.Report text (text ++ []) a (g.B.Bench.outside c.args.bench.now) (sym (append-nil text)) w, refl);
  named = refl;
  opened = c.requires;
  others = record { files = refl; requests = refl; reads = refl; written = λ q ne. refl; name = λ q ne. refl; opened = λ q ne. refl; faults = λ q ne. refl };
}

pub loop-i-preserved : goal.loop-i-preserved
loop-i-preserved g c =
    let l = c.loop-i in
    let plan : List PlanPart = c.args.plan.now in
    let parts = c.args.parts.now in
    let part : PlanPart = c.index-plan-i.result in
    let state = c.index-parts-i.result in
    let wrote = c.write_chosen-end in
    let done : List ℕ = l.invariant.done.0 in
    let line : List ℕ = chosen_text g.P.Shown.says c.args.chips part (g.P.Shown.stood state) in
    let rest : List ℕ = parts_text g.P.Shown.says c.args.chips (drop (l.i + 1) plan) (map g.P.Shown.stood (drop (l.i + 1) parts)) in
    let in_plan : l.i < length plan = omega (arith, c.loop-i-test.true, c.min-i-end.ensures) in
    let in_parts : l.i < length parts = omega (arith, c.loop-i-test.true, c.min-i-end.ensures) in
    record {
      done = (
        done ++ line,
        λ a text w. wrote_same wrote.result ports.Report _ _ a (g.B.Bench.outside wrote.new.bench) (append_assoc text done line) (wrote.ensures.next a (text ++ done) (l.invariant.done.1 a text w)),
        append_assoc done line rest ∙ ap (λ (u : List ℕ). done ++ u) (parts_more g.P.Shown.says g.P.Shown.stood c.args.chips plan parts l.i part state in_plan in_parts c.index-plan-i.is c.index-parts-i.is) ∙ l.invariant.done.2,
      );
      named = wrote.ensures.named ∙ l.invariant.named;
      opened = wrote.ensures.opened;
      others = others_more ports.Report _ _ _ l.invariant.others wrote.ensures.others;
    }

pub returns-clause-next : goal.returns-clause-next
returns-clause-next g c =
    let l = c.loop-i in
    let plan : List PlanPart = c.args.plan.now in
    let parts = c.args.parts.now in
    let done : List ℕ = l.invariant.done.0 in
    let past : min (length plan) (length parts) ≤ l.i = rw (← c.min-i-end.ensures) c.loop-i-test.false in
    let none : parts_text g.P.Shown.says c.args.chips (drop l.i plan) (map g.P.Shown.stood (drop l.i parts)) ≡ [] = parts_done g.P.Shown.says g.P.Shown.stood c.args.chips plan parts l.i past in
    let whole : done ≡ parts_text g.P.Shown.says c.args.chips plan (map g.P.Shown.stood parts) = sym (append-nil done) ∙ ap (λ (t : List ℕ). done ++ t) (sym none) ∙ l.invariant.done.2 in
    λ a text w. wrote_same l.end ports.Report (text ++ done) _ a (g.B.Bench.outside l.bench) (ap (λ (u : List ℕ). text ++ u) whole) (l.invariant.done.1 a text w)
