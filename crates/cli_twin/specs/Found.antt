-- What the run of a pair finds.
use Rattle.std.specs.Prelude.{◌≡◌, ℕ, List, [], map, false, Option, None, Some, true}
use Rattle.sim_base.specs.declared.wiring.Wiring.{Wiring}
use Rattle.board_model.specs.Fresh.{AreFresh}
use Rattle.law_board.specs.FirstDiff.{Difference}
use Rattle.board_twin.specs.declared.twin.TwinEnd.{TwinEnd}
use Rattle.board_twin.specs.declared.twin.TwinEnd.TheVariants as ends
use Rattle.board_twin.specs.Twins.{AreTwins, HaveNoContacts, IsTwin, TwinView, other_states}
use Rattle.board_build.specs.declared.plan.Plan.{Plan}
use Rattle.any_part.specs.AnyPart.{AnyPart, any, state_of, cycle_of, wakes_of}
use Rattle.any_part.specs.Start.{Contents, starts}
use Rattle.chip_module.specs.Sources.{pins_of}
use Rattle.cli_twin.specs.Shared.{Pair}
use Rattle.cli_twin.specs.Line.{line}
use Rattle.cli_twin.specs.Answer.{contents}

-- the first difference that an end says
abbrev pub diff_of : TwinEnd → Option Difference
diff_of ends.Same = None
diff_of (ends.Differs t part pin a b) = Some (record { cycle = t; part = part; pin = pin; one = a; other = b })

-- the chips of the second project beside all else of the first
abbrev pub beside : ℕ → Pair → Contents
beside budget pair = record { flash = pair.one.flash; chips = pair.other.chips; budget = budget }

-- a board at cycle 0 without a script, beside chips
abbrev pub twin_view : {P : Type 0} → List P → List P → Wiring → TwinView P
twin_view parts chips wiring = record {
  board = record { parts = parts; wiring = wiring; inputs = []; cycle = 0; given_up = false; before = None; changed = true };
  chips = chips;
}

-- the parts of a plan's board with these contents, and the chips of others beside them
pub record IsLoaded (one two : Contents) (plan : Plan) (parts chips : List AnyPart) : Type 0 where
  pub fresh : AreFresh any state_of cycle_of wakes_of parts
  pub twins : AreTwins any state_of cycle_of wakes_of (twin_view parts chips plan.wiring)
  pub contacts : HaveNoContacts any plan.wiring (map state_of parts) (other_states state_of (twin_view parts chips plan.wiring))
  pub own : map state_of parts ≡ starts one plan.parts
  pub others : other_states state_of (twin_view parts chips plan.wiring) ≡ starts two plan.parts

-- the line of a twin on the first project's board, without a script
pub record Found (budget n : ℕ) (pair : Pair) (text : List ℕ) (before after : ℕ) : Type 0 where
  pub end : TwinEnd
  pub says : text ≡ line (pins_of pair.one.chips) pair.one.plan.parts n (diff_of end)
  pub twin : IsTwin any pair.one.plan.wiring [] (starts (contents pair.one budget) pair.one.plan.parts) (starts (beside budget pair) pair.one.plan.parts) n end before after
