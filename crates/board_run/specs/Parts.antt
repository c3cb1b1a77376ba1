-- Sets of parts, and which parts have a pin on a net. No public clause cites this.
use Rattle.std.specs.Prelude.{◌≡◌, ℕ, ◌+◌, ◌-◌, ◌<◌, ◌==◌, eqb, List, length, take, drop, Bool, Option, None, Some, slice_get, slice_index, unwrap_or}
use Rattle.std.specs.List.{list_any}
use Rattle.std.specs.Int.{bit_at}
use Rattle.sim_base.specs.declared.wiring.Wiring.{Wiring}
use Rattle.board_run.specs.declared.part_set.PartSet.{PartSet}

abbrev pub has_part : PartSet → ℕ → Bool
has_part set k = bit_at set.bits k == 1

-- where part k's pins end among those of all parts: where the next part's begin
abbrev pub end_of : Wiring → ℕ → ℕ
end_of w k = unwrap_or (slice_get w.first_pin (k + 1)) (length w.net_of)

-- the nets of its pins
abbrev pub part_nets : Wiring → ℕ → List ℕ
part_nets w k = take (end_of w k - slice_index w.first_pin k) (drop (slice_index w.first_pin k) w.net_of)

-- for each net the parts that have a pin on it
abbrev pub AreOn : Wiring → List PartSet → Type 0
AreOn w on = (n k : ℕ) (set : PartSet) → slice_get on n ≡ Some set → k < length w.first_pin → has_part set k ≡ list_any (eqb n) (part_nets w k)

-- no part answers with a byte
abbrev pub AreNone : List (Option ℕ) → Type 0
AreNone answers = (k : ℕ) (a : Option ℕ) → slice_get answers k ≡ Some a → a ≡ None
