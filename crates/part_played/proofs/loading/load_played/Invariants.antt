use Rattle.part_played.proofs.Common.{◌≡◌, map, take, true, All, or_player, played, pins_of, any, starts, uno_left, PlayedPart, state_of, cycle_of, wakes_of}
use Rattle.part_played.proofs.Common.{rows_of_part}
use Rattle.law_board.specs.Worlds.{is_chip}
use Rattle.part_played.proofs.loading.load_played.Given as goal

abbrev pub invariant-loop-i : goal.invariant-loop-i
invariant-loop-i l = record {
  states : map state_of l.parts ≡ take l.i (played (is_chip l.plan.wiring) (rows_of_part (pins_of l.chips) l.plan l.rows) (starts (record { flash = l.fn.flash; chips = l.chips; budget = 0 }) l.plan.parts));
  fresh : All (λ (p : PlayedPart). (cycle_of p ≡ 0) × (wakes_of p ≡ 0) × ((or_player any).valid (state_of p) 0 ≡ true)) l.parts;
  uno : l.uno ≡ uno_left l.fn.flash l.plan.parts l.i;
}
