use Rattle.part_played.proofs.Common.{◌≡◌, ◌∙◌, ℕ, List, length, take, drop, Some, ap, sym, arith, no_pins, PlanKind, PlanPart, is_uno, count_of, ChipSource}
use Rattle.part_played.proofs.Common.{pins_of, Contents, if_ok, PlayedPart}
use Rattle.law_board.specs.Player.{new_player as fresh_player}
use Rattle.part_either.specs.declared.either.Either.TheVariants as eithers
use Rattle.part_played.proofs.LoadLemmas.{chip_count, player_begins, source_there, stock_begins}
use Rattle.part_played.proofs.loading.new_part.Goals as goal

pub returns-in-Stock-clause-begins : goal.returns-in-Stock-clause-begins
returns-in-Stock-clause-begins c = λ flash there.
    let has : Contents = record { flash = flash; chips = c.args.chips.now; budget = 0 } in
    stock_begins has c.args.rows.now c.args.first c.args.part.now c.in-Stock.kind c.stock_part.result c.in-Stock.is
    (c.stock_part.ensures.begins has c.args.part.now.attrs (λ here. there (ap (λ (k : PlanKind). is_uno (Some k)) c.in-Stock.is ∙ here)))

pub new_player-requires-clause-fits : goal.new_player-requires-clause-fits
new_player-requires-clause-fits c =
    let chips : List ChipSource = c.args.chips.now in
    let source : ChipSource = c.index-chips-chip.result in
    let there = source_there chips c.args.part.now.kind c.in-Chip.chip source c.in-Chip.is c.requires.ready c.index-chips-chip.is in
    let count : count_of (pins_of chips) (Some c.args.part.now.kind) ≡ length source.pins =
    ap (λ (k : PlanKind). count_of (pins_of chips) (Some k)) c.in-Chip.is ∙ chip_count chips c.in-Chip.chip source there in
    let many : c.len-pins.result ≡ length source.pins = c.len-pins.ensures ∙ sym (ap (λ (s : ChipSource). length s.pins) c.index-chips-chip.is) in
    omega (arith, many, count, c.requires.fits)

pub returns-in-Chip-clause-begins : goal.returns-in-Chip-clause-begins
returns-in-Chip-clause-begins c =
    let part : PlanPart = c.args.part.now in
    let chips : List ChipSource = c.args.chips.now in
    let chip = c.in-Chip.chip in
    let source : ChipSource = c.index-chips-chip.result in
    let there = source_there chips c.args.part.now.kind chip source c.in-Chip.is c.requires.ready c.index-chips-chip.is in
    let many : c.len-pins.result ≡ length source.pins = c.len-pins.ensures ∙ sym (ap (λ (s : ChipSource). length s.pins) c.index-chips-chip.is) in
    let player : ℕ → PlayedPart = λ count. eithers.Right (record { player = fresh_player (take count (drop c.args.first c.args.rows.now)); wakes = 0; moved = no_pins }) in
    if_ok (λ (p : PlayedPart). p ≡ player c.len-pins.result) _ c.new_player.result c.new_player.ensures
    (λ p is flash none. player_begins (record { flash = flash; chips = chips; budget = 0 }) c.args.rows.now c.args.first part chip source p c.in-Chip.is there (is ∙ ap player many))
