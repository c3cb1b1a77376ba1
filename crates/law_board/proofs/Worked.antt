-- Worked rows: what the definitions give, by computing them.
use Rattle.std.specs.Prelude.{◌≡◌, List, [], ◌∷◌, Some, refl, true}
use Rattle.sim_base.specs.declared.signal.Drive.TheVariants as drives
use Rattle.sim_base.specs.declared.wiring.Wiring.{Wiring}
use Rattle.board_model.specs.Walks.{walk_within}
use Rattle.board_model.specs.Resolve.{resolve}
use Rattle.board_model.specs.Board.{states}
use Rattle.law_board.specs.Player.{DriveRows, drive_at, new_player, player}
use Rattle.law_board.specs.FirstDiff.{first_diff, first_beside, stepped_beside}
use Rattle.law_board.specs.Active.{active_pairs, active_cycles}

blink : List DriveRows
blink = ((0, drives.Low) ∷ (3, drives.High) ∷ []) ∷ []

late : List DriveRows
late = ((0, drives.Low) ∷ (4, drives.High) ∷ []) ∷ []

row_holds : drive_at ((0, drives.Low) ∷ (3, drives.High) ∷ []) 2 ≡ drives.Low
row_holds = refl

row_comes : drive_at ((0, drives.Low) ∷ (3, drives.High) ∷ []) 3 ≡ drives.High
row_comes = refl

-- two players on one net each
two : Wiring
two = record { nets = 2; net_of = 0 ∷ 1 ∷ []; contacts = []; resistors = []; first_pin = 0 ∷ 1 ∷ []; chip = true ∷ true ∷ [] }

differ_at_3 : first_diff player two [] (new_player blink ∷ new_player late ∷ []) (new_player late ∷ new_player late ∷ []) 0 6 ≡ Some (record { cycle = 3; part = 0; pin = 0; one = drives.High; other = drives.Low })
unfolding first_diff states blink late two resolve walk_within
differ_at_3 = refl

beside_at_3 : first_beside player two [] (new_player blink ∷ new_player late ∷ []) (new_player late ∷ new_player late ∷ []) 0 6 ≡ Some (record { cycle = 3; part = 0; pin = 0; one = drives.High; other = drives.Low })
unfolding first_beside stepped_beside states blink late two resolve walk_within
beside_at_3 = refl

-- Active in cycle 0, in cycle 2 because a row stands at 3, and in cycle 3 because its own level changed.
blink_active : active_cycles player two [] (new_player blink ∷ new_player late ∷ []) 0 6 0 ≡ 3
unfolding states blink late two resolve walk_within
blink_active = refl

both_active : active_pairs player two [] (new_player blink ∷ new_player late ∷ []) 0 6 ≡ 6
unfolding states blink late two resolve walk_within
both_active = refl
