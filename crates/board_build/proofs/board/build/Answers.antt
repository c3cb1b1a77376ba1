use Rattle.std.proofs.lemmas.Result.{err_from_is_err_and}
use Rattle.std.proofs.Common.{◌≡◌, ◌∙◌, ap, sym, length, List, [], Option, Ok, BuildHasherDefault, FoldHasher}
use Rattle.sim_base.specs.Reads.{Reads}
use Rattle.document_model.specs.Reading.{each_from}
use Rattle.board_build.specs.declared.plan.PlanKind.{PlanKind}
use Rattle.board_build.specs.declared.plan.Plan.{Plan}
use Rattle.board_build.specs.Ids.{ids_in}
use Rattle.board_build.specs.Parts.{kind_of_part, ids_from}
use Rattle.board_build.specs.Plan.{plan_of}
use Rattle.document_model.proofs.ReadingLemmas.{each_length}
use Rattle.board_build.proofs.PlanLemmas.{refused_kinds, refused_ids, read_ids, plan_read, cycles_read}
use Rattle.board_build.proofs.board.build.Goals as goal

pub returns-in_err-found : goal.returns-in_err-found
returns-in_err-found c =
    let q = err_from_is_err_and c.from_residual.result c.from_residual.ensures.1 in
    rw (q.1, q.2) (record {
      built = refused_kinds c.args.diagram.now c.args.pins.now c.args.script.now c.args.project.now c.in_err-found.field-0.0 (rw (sym c.as_slice.ensures, sym c.as_slice-parts.ensures) c.in_err-found.ensures);
      plan = tt;
      cycles = tt;
    })

pub returns-in_err-ids : goal.returns-in_err-ids
returns-in_err-ids c =
    let q = err_from_is_err_and c.from_residual-in_err-ids.result c.from_residual-in_err-ids.ensures.1 in
    rw (q.1, q.2) (record {
      built = refused_ids c.args.diagram.now c.args.pins.now c.args.script.now (ids_in {S = BuildHasherDefault FoldHasher}) c.args.project.now c.in_ok-found.found c.as_slice-parts.result.now c.in_err-ids.field-0.0
          c.as_slice-parts.ensures (rw (sym c.as_slice.ensures, sym c.as_slice-parts.ensures) c.in_ok-found.ensures) c.in_err-ids.ensures;
      plan = tt;
      cycles = tt;
    })

pub plan_in-requires-clause-parts : goal.plan_in-requires-clause-parts
plan_in-requires-clause-parts c =
    ap (λ (l : List (Option PlanKind)). length l) c.as_slice-2.ensures
    ∙ each_length (kind_of_part c.args.project.now.chips) 1 c.args.diagram.now.parts c.in_ok-found.found (rw (sym c.as_slice.ensures, sym c.as_slice-parts.ensures) c.in_ok-found.ensures)

pub returns : goal.returns
returns c =
    let is : each_from (kind_of_part c.args.project.now.chips) 1 c.args.diagram.now.parts ≡ Ok c.in_ok-found.found = rw (sym c.as_slice.ensures, sym c.as_slice-parts.ensures) c.in_ok-found.ensures in
    let apart : ids_from [] 1 c.args.diagram.now.parts ≡ Ok (ids_in c.in_ok-ids.ids) = rw (sym c.as_slice-parts.ensures) c.in_ok-ids.ensures in
    let same = read_ids c.args.diagram.now c.args.pins.now c.args.script.now c.args.project.now c.in_ok-found.found (ids_in c.in_ok-ids.ids) is apart in
    let built : Reads (λ (plan : Plan). plan) c.plan_in.result (plan_of c.args.project.now c.args.diagram.now c.args.pins.now c.args.script.now) = rw (sym same, sym c.as_slice-2.ensures) c.plan_in.ensures in
    record {
      built = built;
      plan = plan_read c.args.diagram.now c.args.pins.now c.args.script.now c.args.project.now c.requires.parts c.requires.each c.plan_in.result built;
      cycles = cycles_read c.args.diagram.now c.args.pins.now c.args.script.now c.args.project.now c.requires.parts c.requires.each c.plan_in.result built;
    }
