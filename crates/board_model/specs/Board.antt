-- A board stepped cycle by cycle (profile). In each cycle every part takes one step on the same levels, which come from
-- the drives and contacts before any of these steps; so it does not matter in which order the parts are moved, and
-- a change that a part makes is on the nets from the next cycle on.
use Rattle.std.specs.Prelude.{ℕ, zero, suc, ◌+◌, List, [], ◌∷◌, ◌++◌, length, map, take, drop, Bool, ◌&&◌, ◌==◌, Option, None, Some, slice_get, slice_index, unwrap_or, if◌then◌else◌}
use Rattle.std.specs.List.{flat_map}
use Rattle.sim_base.specs.declared.signal.Drive.{Drive}
use Rattle.sim_base.specs.declared.signal.Level.{Level}
use Rattle.sim_base.specs.declared.signal.Level.TheVariants as levels
use Rattle.sim_base.specs.declared.wiring.Wiring.{Wiring}
use Rattle.sim_base.specs.declared.wiring.Input.{Input}
use Rattle.part_law.specs.Machine.{Machine}
use Rattle.board_model.specs.Resolve.{resolve}

-- the level of a net, Z where there is none
abbrev pub level_at : List Level → ℕ → Level
level_at ls n = unwrap_or (slice_get ls n) levels.Z

-- the nets of the n pins of part i
abbrev pub own_nets : Wiring → ℕ → ℕ → List ℕ
own_nets w i n = take n (drop (slice_index w.first_pin i) w.net_of)

-- the value that the script gives part i in cycle t, the last one where there are several, after a value found before
abbrev pub input_from : Option ℕ → List Input → ℕ → ℕ → Option ℕ
input_from found [] t i = found
input_from found (x ∷ xs) t i = input_from (if x.cycle == t && x.part == i then Some x.value else found) xs t i

abbrev pub input_at : List Input → ℕ → ℕ → Option ℕ
input_at xs t i = input_from None xs t i

-- those that there are, in order
abbrev pub options : {A : Type 0} → List (Option A) → List A
options [] = []
options (None ∷ xs) = options xs
options (Some x ∷ xs) = x ∷ options xs

-- a kind of part, and the states of all parts of a board in the order of the parts
module _ {S : Type 0} (m : Machine S) where
  abbrev pub drives_of : List S → List Drive
  drives_of ss = flat_map m.drives ss

  abbrev pub contacts_of : List S → List Bool
  contacts_of ss = flat_map m.contacts ss

  -- the levels in a cycle in which the states are these
  abbrev pub levels_of : Wiring → List S → List Level
  levels_of w ss = resolve w.nets w.net_of w.contacts w.resistors (contacts_of ss) (drives_of ss)

module _ {S : Type 0} (m : Machine S) (w : Wiring) (inputs : List Input) where
  -- the step of part i in cycle t on the levels of its own pins
  abbrev pub part_step : List Level → ℕ → ℕ → S → S × Option ℕ
  part_step ls t i s = m.step s t (map (level_at ls) (own_nets w i (length (m.drives s)))) (input_at inputs t i)

  -- the steps of the parts from number i on, all on these levels
  abbrev pub steps_from : List Level → ℕ → ℕ → List S → List (S × Option ℕ)
  steps_from ls t i [] = []
  steps_from ls t i (s ∷ ss) = part_step ls t i s ∷ steps_from ls t (i + 1) ss

  -- the states after cycle t
  abbrev pub board_step : List S → ℕ → List S
  board_step ss t = map (λ r. r.0) (steps_from (levels_of m w ss) t 0 ss)

  -- the bytes of cycle t, in the order of the parts
  abbrev pub bytes_of : List S → ℕ → List ℕ
  bytes_of ss t = options (map (λ r. r.1) (steps_from (levels_of m w ss) t 0 ss))

  -- the states at cycle c + n of a board whose states at c are these
  unfoldable pub states : List S → ℕ → ℕ → List S
  states ss c zero = ss
  states ss c (suc n) = board_step (states ss c n) (c + n)

  -- the bytes of the n cycles from c on
  unfoldable pub bytes : List S → ℕ → ℕ → List ℕ
  bytes ss c zero = []
  bytes ss c (suc n) = bytes ss c n ++ bytes_of (states ss c n) (c + n)
