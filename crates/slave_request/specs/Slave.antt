-- A serial engine of a chip, moved by one cycle at a time (profile).
use Rattle.std.specs.Prelude.{ℕ, List, Bool}
use Rattle.slave_request.specs.declared.request.EngineRequest.{EngineRequest}

-- A kind of engine: its states of type S, and what its lines read, of type L.
pub record SlaveMachine (S L : Type 0) : Type 0 where
  -- One cycle, from what the lines read in the cycle before and read in this one: the state after it, and what is asked
  -- for in it, in this order.
  pub step : S → ℕ → L → L → S × List EngineRequest
  -- whether the cycle has an event of its own, one that comes though no line changes
  pub due : S → ℕ → Bool
