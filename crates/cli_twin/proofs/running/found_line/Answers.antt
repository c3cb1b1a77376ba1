use Rattle.cli_twin.proofs.Common.{◌∙◌, ℕ, List, ap, subst, ChipSource, pins_of, PlanPart, Contents, Pair, IsLoaded, diff_of, line, pair_of}
use Rattle.cli_twin.proofs.TwinLemmas.{was_found}
use Rattle.cli_twin.proofs.running.found_line.Goals as goal

pub run_beside-requires : goal.run_beside-requires
run_beside-requires g c =
    let loaded = c.in-Ok.ensures in
    record { wiring = c.requires.ready.sound_one.plan.wiring; fresh = loaded.fresh; twins = loaded.twins; contacts = loaded.contacts; end = c.requires.end }

pub returns : goal.returns
returns g c =
    let pair : Pair = pair_of c.args.pair in
    let budget : ℕ = c.args.budget in
    let n : ℕ = c.args.n in
    let end = c.in-Ok-run_beside.end in
    let parts = c.in-Ok.parts in
    let beside = c.in-Ok.beside in
    let has : List ChipSource → Contents = λ (chips : List ChipSource). record { flash = pair.one.flash; chips = chips; budget = budget } in
    let loaded : IsLoaded (has pair.one.chips) (has pair.other.chips) pair.one.plan parts beside =
    subst (λ (chips : List ChipSource). IsLoaded (has chips) (has pair.other.chips) pair.one.plan parts beside) c.as_slice.ensures
    (subst (λ (chips : List ChipSource). IsLoaded (has c.as_slice.result.now) (has chips) pair.one.plan parts beside) c.as_slice-others.ensures c.in-Ok.ensures) in
    let says =
    c.in_ok-text.ensures
    ∙ ap (λ (chips : List ChipSource). line (pins_of chips) c.as_slice-3.result.now n (diff_of end)) c.as_slice-2.ensures
    ∙ ap (λ (listed : List PlanPart). line (pins_of pair.one.chips) listed n (diff_of end)) c.as_slice-3.ensures in
    record { found = was_found budget n pair parts beside end _ c.args.steps.now c.run_beside.new.steps loaded says c.in-Ok-run_beside.ensures }
