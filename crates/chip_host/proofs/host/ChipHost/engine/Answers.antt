use Rattle.std.proofs.Common.{sym, subst}
use Rattle.chip_engines.specs.Engine.{AreEngines}
use Rattle.chip_engines.proofs.EngineLemmas as engines
use Rattle.chip_host.specs.Inventory.{HostState}
use Rattle.chip_host.proofs.host.ChipHost.engine.Goals as goal

pub returns-in-Some-clause-sound : goal.returns-in-Some-clause-sound
returns-in-Some-clause-sound c =
    engines.engine_at c.args.self.now.inventory.engines c.args.place c.in-Some.engine
    (subst (λ (h : HostState). AreEngines h.inventory.engines) c.self.view_is c.self.invariant.sound) (sym c.in-Some.ensures)
