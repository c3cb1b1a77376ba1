use Rattle.cli_twin.proofs.Common.{◌≡◌, map, take, All, AnyPart, state_of, cycle_of, wakes_of, chip_starts}
use Rattle.cli_twin.proofs.chips.load_chips.Given as goal

abbrev pub invariant-loop-part : goal.invariant-loop-part
invariant-loop-part l = record {
  states : map state_of l.loaded ≡ chip_starts l.budget l.chips (take l.part-index l.plan.parts);
  fresh : All (λ (p : AnyPart). (cycle_of p ≡ 0) × (wakes_of p ≡ 0)) l.loaded;
}
