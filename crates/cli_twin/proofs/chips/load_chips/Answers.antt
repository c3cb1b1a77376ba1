use Rattle.cli_twin.proofs.Common.{◌≡◌, ◌∙◌, ◌<◌, List, ap, get_or, length, map, subst, sym, All, PlanPart, AnyPart, state_of, Started, chip_start}
use Rattle.std.proofs.lemmas.List.Elements.{All-push}
use Rattle.cli_twin.proofs.ChipLemmas.{IsNew, are_fresh, chip_more, chip_none}
use Rattle.cli_twin.proofs.chips.load_chips.Goals as goal
use Rattle.cli_twin.proofs.chips.load_chips.Goals.{in-Some+in_ok-push, in_default}

pub loop-part-preserved : goal.loop-part-preserved
loop-part-preserved c =
    let l = c.loop-part in
    let parts : List PlanPart = c.args.plan.now.parts in
    let part = c.part-item.result in
    let inside : l.part-index < length parts = rw (sym c.as_slice-part-items.ensures) c.loop-part-test.true in
    let is : part ≡ get_or parts l.part-index part = rw (sym c.as_slice-part-items.ensures) c.part-item.is in
    elim c.match-branch-2.branch [
      | in-Some+in_ok-push w ↦
          let begins = subst (Started (chip_start c.args.budget c.args.chips.now part.attrs part.kind)) w.in-Some.is c.in_ok-chip.ensures in
          let all = w.loaded-is ∙ w.in_ok-push.ensures.ok in
          record {
            states = ap (map state_of) all ∙ chip_more c.args.budget c.args.chips.now parts l.part-index part inside is l.loaded l.invariant.states w.in-Some.chip begins.state;
            fresh = subst (λ (ps : List AnyPart). All IsNew ps) (sym all) (All-push IsNew l.loaded w.in-Some.chip l.invariant.fresh (begins.cycle, begins.wakes));
          }
      | in_default w ↦
          let none = subst (Started (chip_start c.args.budget c.args.chips.now part.attrs part.kind)) w.in_default.is c.in_ok-chip.ensures in
          record {
            states = ap (map state_of) w.loaded-is ∙ chip_none c.args.budget c.args.chips.now parts l.part-index part inside is l.loaded l.invariant.states none;
            fresh = subst (λ (ps : List AnyPart). All IsNew ps) (sym w.loaded-is) l.invariant.fresh;
          }
    ]

pub returns-clause-fresh : goal.returns-clause-fresh
returns-clause-fresh c = are_fresh c.loop-part.loaded c.loop-part.invariant.fresh
