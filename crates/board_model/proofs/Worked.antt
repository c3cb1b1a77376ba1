-- Worked boards: what the definitions give, by computing them.
use Rattle.std.specs.Prelude.{◌≡◌, List, [], ◌∷◌, Bool, true, false, not, ◌==◌, map, None, slice_get, unwrap_or, if◌then◌else◌, refl}
use Rattle.sim_base.specs.declared.signal.Level.{Level}
use Rattle.sim_base.specs.declared.wiring.Wiring.{Wiring}
use Rattle.sim_base.specs.Signal.{reads}
use Rattle.part_law.specs.Machine.{Machine}
use Rattle.board_model.specs.Board.{states, levels_of}
use Rattle.board_model.specs.Rows.{rows, shown_before}
use Rattle.sim_base.specs.declared.signal.Drive.TheVariants as drives
use Rattle.sim_base.specs.declared.signal.Level.TheVariants as levels
use Rattle.board_model.specs.Walks.{walk_within}
use Rattle.board_model.specs.Resolve.{resolve}

-- Net 0 with a resistor to 5 V (net 1) and one to ground (net 2): both values come together.
resistor_to_each : resolve 3 (1 ∷ 2 ∷ []) [] ((0, 1) ∷ (0, 2) ∷ []) [] (drives.High ∷ drives.Low ∷ []) ≡ levels.X ∷ levels.High ∷ levels.Low ∷ []
unfolding resolve walk_within
resistor_to_each = refl

-- Two resistors in series to 5 V (net 2).
two_in_series : resolve 3 (2 ∷ []) [] ((0, 1) ∷ (1, 2) ∷ []) [] (drives.High ∷ []) ≡ levels.High ∷ levels.High ∷ levels.High ∷ []
unfolding resolve walk_within
two_in_series = refl

strong_against_strong : resolve 1 (0 ∷ 0 ∷ []) [] [] [] (drives.High ∷ drives.Low ∷ []) ≡ levels.X ∷ []
unfolding resolve walk_within
strong_against_strong = refl

wiper_alone : resolve 1 (0 ∷ []) [] [] [] (drives.Wiper 700 ∷ []) ≡ levels.Wiped 700 ∷ []
unfolding resolve walk_within
wiper_alone = refl

wiper_beside_pull : resolve 1 (0 ∷ 0 ∷ []) [] [] [] (drives.Wiper 700 ∷ drives.PullLow ∷ []) ≡ levels.X ∷ []
unfolding resolve walk_within
wiper_beside_pull = refl

-- A resistor does not pass over a strong net: net 1 stands between a wiper and net 2.
strong_between : resolve 3 (0 ∷ 1 ∷ []) [] ((0, 1) ∷ (1, 2) ∷ []) [] (drives.Wiper 700 ∷ drives.Low ∷ []) ≡ levels.X ∷ levels.Low ∷ levels.Low ∷ []
unfolding resolve walk_within
strong_between = refl

-- A closed contact makes one of two nets, an open one does not.
closed_contact : resolve 2 (0 ∷ []) ((0, 1) ∷ []) [] (true ∷ []) (drives.Low ∷ []) ≡ levels.Low ∷ levels.Low ∷ []
unfolding resolve walk_within
closed_contact = refl

open_contact : resolve 2 (0 ∷ []) ((0, 1) ∷ []) [] (false ∷ []) (drives.Low ∷ []) ≡ levels.Low ∷ levels.Z ∷ []
unfolding resolve walk_within
open_contact = refl

-- an inverter with an input and an output: what it puts out, and the levels that it holds
record InverterState : Type 0 where
  high : Bool
  held : List Level

inverter : Machine InverterState
inverter = record {
  step = λ s t l i. (record { high = not (reads (unwrap_or (slice_get l 0) levels.Z)); held = l }, None);
  drives = λ s. drives.Z ∷ (if s.high then drives.High else drives.Low) ∷ [];
  contacts = λ s. [];
  held = λ s. s.held;
  due = λ s t. t == 0;
  valid = λ s t. true;
}

-- two in a ring: the output of each is the input of the other
ring : Wiring
ring = record { nets = 2; net_of = 1 ∷ 0 ∷ 0 ∷ 1 ∷ []; contacts = []; resistors = []; first_pin = 0 ∷ 2 ∷ []; chip = true ∷ true ∷ [] }

both_high : List InverterState
both_high = let s : InverterState = record { high = true; held = levels.Z ∷ levels.Z ∷ [] } in s ∷ s ∷ []

-- Both nets are High in even cycles and Low in odd ones, and each cycle has a row.
ring_levels : map (λ n. levels_of inverter ring (states inverter ring [] both_high 0 n)) (0 ∷ 1 ∷ 2 ∷ 3 ∷ [])
    ≡ (levels.High ∷ levels.High ∷ []) ∷ (levels.Low ∷ levels.Low ∷ []) ∷ (levels.High ∷ levels.High ∷ []) ∷ (levels.Low ∷ levels.Low ∷ []) ∷ []
unfolding inverter ring both_high states resolve walk_within
ring_levels = refl

ring_rows : map (λ r. r.cycle) (rows inverter ring [] None both_high 0 4) ≡ 0 ∷ 1 ∷ 2 ∷ 3 ∷ []
unfolding inverter ring both_high rows shown_before states resolve walk_within
ring_rows = refl

-- An inverter whose input has no other pin stays High after cycle 0, and has no further row.
alone : Wiring
alone = record { nets = 2; net_of = 0 ∷ 1 ∷ []; contacts = []; resistors = []; first_pin = 0 ∷ []; chip = false ∷ [] }

alone_rows : map (λ r. r.cycle) (rows inverter alone [] None (record { high = false; held = [] } ∷ []) 0 4) ≡ 0 ∷ 1 ∷ []
unfolding inverter alone rows shown_before states resolve walk_within
alone_rows = refl
