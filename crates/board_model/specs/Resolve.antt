-- The levels of nets, from what the pins drive, over closed contacts and resistors (profile).
use Rattle.std.specs.Prelude.{ℕ, List, [], ◌∷◌, ◌++◌, map, filter, Bool, true, false, not, ◌&&◌, ◌||◌, Option, None, Some, if◌then◌else◌}
use Rattle.std.specs.List.{list_any, flat_map, zip}
use Rattle.sim_base.specs.declared.signal.Drive.{Drive}
use Rattle.sim_base.specs.declared.signal.Drive.TheVariants as drives
use Rattle.sim_base.specs.declared.signal.Level.{Level}
use Rattle.sim_base.specs.declared.signal.Level.TheVariants as levels
use Rattle.sim_base.specs.Signal.{value_of, strong_of, is_weak}
use Rattle.board_model.specs.Walks.{below, leads}
use Rattle.board_model.specs.Nets.{joins, joined_by}

-- whether there is a value and it is v: true stands for High, false for Low
abbrev pub is_value : Bool → Option Bool → Bool
is_value v None = false
is_value true (Some v) = v
is_value false (Some v) = not v

-- the level by the values that come together: whether there is a High, and whether there is a Low
abbrev pub level_of_values : Bool → Bool → Level
level_of_values true true = levels.X
level_of_values true false = levels.High
level_of_values false true = levels.Low
level_of_values false false = levels.Z

abbrev pub level_of_all : List Drive → Level
level_of_all ds = level_of_values (list_any (λ d. is_value true (value_of d)) ds) (list_any (λ d. is_value false (value_of d)) ds)

-- A single wiper keeps its position; all else goes by the values.
abbrev pub level_of_drives : List Drive → Level
level_of_drives [] = levels.Z
level_of_drives (drives.Wiper w ∷ []) = levels.Wiped w
level_of_drives (d ∷ ds) = level_of_all (d ∷ ds)

-- whether one of the contacts that are closed joins two nets
abbrev pub contact_joins : List (ℕ × ℕ) → List Bool → ℕ → ℕ → Bool
contact_joins contacts closed n m = list_any (λ c. c.1 && joins c.0 n m) (zip contacts closed)

-- `nets` nets; the net of each pin; the nets of each contact, and whether it is closed; the nets of each resistor;
-- and the drive of each pin
module _ (nets : ℕ) (net_of : List ℕ) (contacts resistors : List (ℕ × ℕ)) (closed : List Bool) (ds : List Drive) where
  -- each pin, as its net and its drive
  abbrev pub pins : List (ℕ × Drive)
  pins = zip net_of ds

  -- Closed contacts lead from n to m.
  abbrev pub is_one : ℕ → ℕ → Bool
  is_one n m = leads nets (contact_joins contacts closed) n m

  -- some pin on a net to which closed contacts lead from n drives the value strongly
  abbrev pub has_strong : ℕ → Bool → Bool
  has_strong n v = list_any (λ p. is_one n p.0 && is_value v (strong_of p.1)) pins

  abbrev pub is_driven : ℕ → Bool
  is_driven n = has_strong n true || has_strong n false

  -- one step over a closed contact or a resistor, from a net that has no strong value
  abbrev pub passes : ℕ → ℕ → Bool
  passes n m = not (is_driven n) && (contact_joins contacts closed n m || joined_by resistors n m)

  -- A walk leads from n to m on which each net before the last has no strong value.
  abbrev pub reaches : ℕ → ℕ → Bool
  reaches n m = leads nets passes n m

  -- the strong values that a net has
  abbrev pub strong_values : ℕ → List Drive
  strong_values n = (if has_strong n true then drives.High ∷ [] else []) ++ (if has_strong n false then drives.Low ∷ [] else [])

  -- What comes together at a net without a strong value: the strong values of the nets that are reached,
  -- and each weak drive on a net that is reached and has no strong value.
  abbrev pub collected : ℕ → List Drive
  collected n =
      flat_map (λ m. if reaches n m then strong_values m else []) (below nets)
      ++ map (λ p. p.1) (filter (λ p. reaches n p.0 && not (is_driven p.0) && is_weak p.1) pins)

  -- the level of net n
  abbrev pub level_of : ℕ → Level
  level_of n = if is_driven n then level_of_values (has_strong n true) (has_strong n false) else level_of_drives (collected n)

  -- the levels of all nets
  unfoldable pub resolve : List Level
  resolve = map level_of (below nets)
