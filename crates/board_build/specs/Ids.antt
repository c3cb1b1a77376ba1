-- The ids that a set holds, in its order.
use Rattle.std.specs.Prelude.{ℕ, List, map}
use Rattle.std.specs.Borrow.{Bor}
use Rattle.indexmap.specs.IndexSet.{IndexSet}

abbrev pub ids_in : {S : Type 0} → IndexSet (Bor (List ℕ)) S → List (List ℕ)
ids_in ids = map (λ (id : Bor (List ℕ)). id.now) ids.keys
