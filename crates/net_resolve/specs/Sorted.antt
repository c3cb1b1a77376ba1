-- What a board has, by the subcircuits that it belongs to. No public clause cites this.
use Rattle.std.specs.Prelude.{◌≡◌, ℕ, List, length, map, Some, slice_get, slice_index}
use Rattle.net_resolve.specs.WholeView.{WholeView}
use Rattle.net_resolve.specs.Subcircuits.{IsCut, picked, labels_of}
use Rattle.net_resolve.specs.declared.cut.Sorted.{Sorted}

-- for each number the places of a key
pub record ArePicked (count : ℕ) (keys : List ℕ) (lists : List (List ℕ)) : Type 0 where
  pub long : length lists ≡ count
  pub each : (q : ℕ) (l : List ℕ) → slice_get lists q ≡ Some l → l ≡ picked q 0 keys

pub record IsSorted (w : WholeView) (s : Sorted) : Type 0 where
  pub cut : IsCut w s.labels
  pub nets : ArePicked w.nets s.labels s.nets
  pub pins : ArePicked w.nets (map (slice_index s.labels) w.net_of) s.pins
  pub contacts : ArePicked w.nets (labels_of s.labels w.contacts) s.contacts
  pub resistors : ArePicked w.nets (labels_of s.labels w.resistors) s.resistors
