-- The variables by the nets that they show. No public clause cites this.
use Rattle.std.specs.Prelude.{◌≡◌, ◌≢◌, ◌⊎◌, ℕ, ◌+◌, ◌<◌, ◌≤◌, List, length, map, Some, slice_get, slice_index}
use Rattle.sim_base.specs.declared.signal.Level.{Level}
use Rattle.sim_base.specs.declared.signal.Drive.{Drive}
use Rattle.std.specs.Option.{option_map_or}
use Rattle.text_model.specs.Wave.{Source, Net, Variable, level_value, shown_value}
use Rattle.vcd_text.specs.declared.follow.Scope.{Scope}
use Rattle.vcd_text.specs.declared.follow.Scope.TheVariants as scope

abbrev pub sources : List Variable → List Source
sources = map (λ v. v.shows)

-- what each variable has at these levels and drives
abbrev pub values_at : List Level → List Drive → List Variable → List ℕ
values_at levels drives = map (λ v. shown_value levels drives v.shows)

abbrev pub IsNet : Source → Type 0
IsNet s = (n : ℕ) × s ≡ Net n

-- from a place on, the first variable that shows the net is at this one, or none does
pub record IsNext (shows : List Source) (net from at : ℕ) : Type 0 where
  pub order : from ≤ at
  pub within : at ≤ length shows
  pub none : (k : ℕ) → from ≤ k → k < at → slice_get shows k ≢ Some (Net net)
  pub here : at < length shows → slice_get shows at ≡ Some (Net net)

-- of the variables from number i on the first that shows a net, for each net, and behind each the next
pub record AreLinked (shows : List Source) (first next : List ℕ) (i : ℕ) : Type 0 where
  pub firsts : (n : ℕ) → n < length first → IsNext shows n i (slice_index first n)
  pub nexts : (k n : ℕ) → i ≤ k → slice_get shows k ≡ Some (Net n) → IsNext shows n (k + 1) (slice_index next k)

-- the same of all variables
pub record AreChains (shows : List Source) (first next : List ℕ) : Type 0 where
  pub long : length next ≡ length shows
  pub nets : (k n : ℕ) → slice_get shows k ≡ Some (Net n) → n < length first
  pub linked : AreLinked shows first next 0

-- from a place on, the first variable of some net is at this one
pub record OnChain (next : List ℕ) (from at : ℕ) : Type 0 where
  pub shows : List Source
  pub first : List ℕ
  pub net : ℕ
  pub chains : AreChains shows first next
  pub here : IsNext shows net from at

-- the variables of a net have a value, and up to a bound the others have the one that they had
pub record IsRun (shows : List Source) (net : ℕ) (last new : List ℕ) (from bound value : ℕ) : Type 0 where
  pub long : length last ≡ length new
  pub own : (k : ℕ) → slice_get shows k ≡ Some (Net net) → value ≡ slice_index new k
  pub others : (k : ℕ) → from ≤ k → k < bound → slice_get shows k ≢ Some (Net net) → slice_index last k ≡ slice_index new k

-- each variable that shows no net has the value that it had
abbrev pub PinsRest : List Variable → List ℕ → List Level → List Drive → Type 0
PinsRest variables values levels drives =
    (k : ℕ) (s : Source) → slice_get (sources variables) k ≡ Some s → IsNet s ⊎ (slice_index values k ≡ slice_index (values_at levels drives variables) k)

-- the values of the variables that show nets are those of these levels
abbrev pub HasSeen : List Variable → List ℕ → List Level → Type 0
HasSeen variables values levels = (k n : ℕ) → slice_get (sources variables) k ≡ Some (Net n) → slice_index values k ≡ option_map_or level_value (slice_get levels n) 122

-- the variables that show nets, but not two of them, have the values that they had
abbrev pub NetsRest : ℕ × ℕ → List Variable → List ℕ → List Level → List Drive → Type 0
NetsRest nets variables values levels drives = (k n : ℕ) → slice_get (sources variables) k ≡ Some (Net n) → n ≢ nets.0 → n ≢ nets.1 → slice_index values k ≡ slice_index (values_at levels drives variables) k

-- the variables of other nets than two have the values that they had
abbrev pub OthersRest : ℕ × ℕ → List Variable → List ℕ → List Level → List Drive → Type 0
OthersRest nets variables values levels drives = (k : ℕ) → k < length variables → slice_get (sources variables) k ≢ Some (Net nets.0) → slice_get (sources variables) k ≢ Some (Net nets.1)
    → slice_index values k ≡ slice_index (values_at levels drives variables) k

-- the variables that a row need not look at have the values that they had
abbrev pub RestBut : Scope → List Variable → List ℕ → List Level → List Drive → Type 0
RestBut scope.All variables values levels drives = Unit {0}
RestBut (scope.NetsAndPins one two) variables values levels drives = NetsRest (one, two) variables values levels drives
RestBut (scope.Nets one two) variables values levels drives = OthersRest (one, two) variables values levels drives
