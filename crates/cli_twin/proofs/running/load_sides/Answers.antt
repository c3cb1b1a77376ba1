use Rattle.cli_twin.proofs.Common.{ℕ, List, Option, refl, subst, arith, IsPlan, ChipSource, Contents}
use Rattle.cli_twin.proofs.ChipLemmas.{is_loaded}
use Rattle.cli_twin.proofs.running.load_sides.Goals as goal

pub returns : goal.returns
returns c =
    let has : List ChipSource → Contents = λ (chips : List ChipSource). record { flash = c.args.flash; chips = chips; budget = c.args.budget } in
    let plan = c.args.plan.now in
    let is = c.requires.plan in
    let loaded = c.in_ok-parts.ensures in
    is_loaded (has c.args.chips.now) (has c.args.others.now) plan is (subst (λ (names : List (List (Option (List ℕ)))). IsPlan names plan) c.requires.pins is) refl c.requires.pins
    c.in_ok-parts.parts c.in-Ok.beside loaded.states c.in-Ok.ensures.states (omega (arith, loaded.all, is.few)) loaded.fresh c.in-Ok.ensures.fresh
