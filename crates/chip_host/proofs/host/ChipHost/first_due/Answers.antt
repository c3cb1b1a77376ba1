use Rattle.std.proofs.Common.{◌≡◌, ◌-◌, List, Option, ℕ, take, drop, ap, ◌∙◌}
use Rattle.chip_engines.specs.declared.engine.Engine.{Engine}
use Rattle.chip_engines.specs.FirstDue.{earlier, first_engine}
use Rattle.chip_engines.proofs.PlaceLemmas.{first_between}
use Rattle.chip_host.specs.declared.timer.Timer.{Timer}
use Rattle.chip_host.specs.FirstDue.{first_due}
use Rattle.chip_host.specs.Inventory.{HostState}
use Rattle.chip_host.proofs.host.ChipHost.first_due.Goals as goal

pub returns : goal.returns
returns c =
    let i = c.self.inside in
    let v = c.self.invariant in
    let t = c.args.from in
    let d = c.args.self.now.inventory in
    let timer : c.first_due.result ≡ first_due t d.timers =
    c.first_due.ensures ∙ ap (λ (xs : List Timer). first_due t xs) c.as_slice.ensures.value ∙ ap (λ (h : HostState). first_due t h.inventory.timers) c.self.view_is in
    let engine : c.first_engine.result ≡ first_engine t d.engines =
    c.first_engine.ensures ∙ ap (λ (os : List (Option Engine)). first_engine t (take (i.end - i.first) (drop i.first os))) c.as_slice-2.ensures.value
    ∙ first_between i.engines.items i.first i.end v.order v.before v.behind t ∙ ap (λ (h : HostState). first_engine t h.inventory.engines) c.self.view_is in
    c.earlier.ensures ∙ ap (λ (x : Option ℕ). earlier x c.first_engine.result) timer ∙ ap (λ (x : Option ℕ). earlier (first_due t d.timers) x) engine
