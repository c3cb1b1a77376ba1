use Rattle.std.proofs.Common.{ap, sym, subst, ◌∙◌}
use Rattle.part_law.specs.declared.span.Span.{Span}
use Rattle.part_law.specs.Spans.{IsIn}
use Rattle.chip_host.specs.Inventory.{HostState}
use Rattle.chip_host.specs.Chip.{Chip, ChipAt, chip_from, chip_drive, serves}
use Rattle.chip_host.proofs.MovedLemmas.{waiting_but}
use Rattle.chip_host.proofs.turns.Turns.serve_next.Goals as goal

pub returns-in-Some-engine-clause-drives : goal.returns-in-Some-engine-clause-drives
returns-in-Some-engine-clause-drives c = λ i l out.
    let own = c.self.inside in
    let e = c.in-Some-engine.engine in
    let r = c.in-Some.request in
    let s : Chip = chip_from own.instance own.host own.budget own.dead in
    ap (λ (a : ChipAt). chip_drive a.chip i) c.serve.ensures
    ∙ ap (λ (h : HostState). chip_drive (serves (chip_from own.instance h own.budget own.dead) h.moment.now c.args.place (record e { later = c.args.later }) r) i) c.set_engine.ensures
    ∙ waiting_but s own.host.moment.now c.args.place e r c.args.later i (sym c.in-Some-engine.ensures.engine) l (subst (λ (x : Span). ¬ IsIn x i) c.request_span.ensures out)
    ∙ ap (λ (a : ChipAt). chip_drive a.chip i) c.self.view_is
