use Rattle.std.proofs.Common.{◌≡◌, sym, ap, subst, ℕ, None, length}
use Rattle.chip_host.specs.Inventory.{watch_at}
use Rattle.chip_host.specs.Chip.{Chip, ChipAt}
use Rattle.chip_host.proofs.TurnLemmas.{unwatched}
use Rattle.chip_host.proofs.turns.Turns.watch_turns.Goals as goal

pub returns-then-not-has_watches-clause-state : goal.returns-then-not-has_watches-clause-state
returns-then-not-has_watches-clause-state c =
    let a = c.args.self.now in
    let none : (i : ℕ) → watch_at c.args.self.now.chip.inventory i ≡ None =
    λ i. subst (λ (x : ChipAt). watch_at x.chip.inventory i ≡ None) c.self.view_is (c.has_watches.ensures c.if-not-has_watches.true i) in
    sym (ap (λ (s : Chip). record a { chip = s }) (unwatched a.chip a.cycle a.before (length a.chip.given.names) none))
