-- How the drives of a net are added up to its level. No public clause cites this.
use Rattle.std.specs.Prelude.{ℕ, ◌&&◌, ◌||◌, ◌==◌, List, [], ◌∷◌, Bool, true, false, not, if◌then◌else◌, slice_index, slice_index_or}
use Rattle.sim_base.specs.declared.signal.Drive.{Drive}
use Rattle.sim_base.specs.declared.signal.Drive.TheVariants as drives
use Rattle.sim_base.specs.declared.signal.Level.{Level}
use Rattle.sim_base.specs.declared.signal.Level.TheVariants as levels
use Rattle.sim_base.specs.Signal.{is_upper}
use Rattle.board_model.specs.Resolve.{level_of_values}

-- whether drives that give this level have a High among them, and a Low
abbrev pub has_high : Level → Bool
has_high levels.Low = false
has_high levels.High = true
has_high levels.X = true
has_high levels.Z = false
has_high (levels.Wiped w) = is_upper w

abbrev pub has_low : Level → Bool
has_low levels.Low = true
has_low levels.High = false
has_low levels.X = true
has_low levels.Z = false
has_low (levels.Wiped w) = not (is_upper w)

abbrev pub is_z : Level → Bool
is_z levels.Low = false
is_z levels.High = false
is_z levels.X = false
is_z levels.Z = true
is_z (levels.Wiped w) = false

-- the level where the drives of two levels come together
abbrev pub together : Level → Level → Level
together a b = if is_z a then b else (if is_z b then a else level_of_values (has_high a || has_high b) (has_low a || has_low b))

-- what a drive adds where strong drives count
abbrev pub strong_level : Drive → Level
strong_level drives.Low = levels.Low
strong_level drives.High = levels.High
strong_level drives.Z = levels.Z
strong_level drives.PullLow = levels.Z
strong_level drives.PullHigh = levels.Z
strong_level (drives.Wiper w) = levels.Z

-- what a drive adds where weak drives count
abbrev pub weak_level : Drive → Level
weak_level drives.PullLow = levels.Low
weak_level drives.PullHigh = levels.High
weak_level (drives.Wiper w) = levels.Wiped w
weak_level drives.Z = levels.Z
weak_level drives.Low = levels.Z
weak_level drives.High = levels.Z

-- a place of a list of levels; what stands past its end is never asked
abbrev pub sum_at : List Level → ℕ → Level
sum_at sums k = slice_index_or sums k levels.Low

-- what pins add, each as its net and its drive, where those of some nets count
unfoldable pub added : (Drive → Level) → (ℕ → Bool) → Level → List (ℕ × Drive) → Level
added gives counts sum [] = sum
added gives counts sum (p ∷ ps) = added gives counts (if counts p.0 then together sum (gives p.1) else sum) ps

-- whether a net's group has no strong value
abbrev pub is_loose : List ℕ → List Level → ℕ → Bool
is_loose groups strong n = is_z (sum_at strong (slice_index groups n))

-- the strong value of a net's group
abbrev pub own_level : List ℕ → List Level → ℕ → Level
own_level groups strong n = sum_at strong (slice_index groups n)

-- what a resistor adds to an area: its strong value at one end, where the other end is loose and of the area
abbrev pub over_adds : List ℕ → List Level → List ℕ → ℕ → ℕ → ℕ → Level → Level
over_adds groups strong areas area from to sum =
    if (not (is_loose groups strong from) && is_loose groups strong to) && (slice_index areas to == area) then together sum (sum_at strong (slice_index groups from)) else sum

unfoldable pub resistors_add : List ℕ → List Level → List ℕ → ℕ → Level → List (ℕ × ℕ) → Level
resistors_add groups strong areas area sum [] = sum
resistors_add groups strong areas area sum (r ∷ rs) = resistors_add groups strong areas area (over_adds groups strong areas area r.0 r.1 (over_adds groups strong areas area r.1 r.0 sum)) rs

-- the level of a net, from the sums of its group and of its area
abbrev pub level_here : List ℕ → List Level → List ℕ → List Level → ℕ → Level
level_here groups strong areas sums n = if is_loose groups strong n then sum_at sums (slice_index areas n) else sum_at strong (slice_index groups n)
