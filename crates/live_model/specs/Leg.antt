-- Where a run ends (profile).
use Rattle.std.specs.Prelude.{ℕ, zero, suc, ◌-◌, ◌==◌, nat_le, List, [], ◌∷◌, length, drop, Bool, not, ◌||◌, Option, None, Some, Result, Ok, Err, if◌then◌else◌}
use Rattle.sim_refusals.specs.Refusals.{RequestPin, RequestUnknown}
use Rattle.text_model.specs.Wave.{Variable, Source}
use Rattle.live_request.specs.Condition.{Condition, Level, Edge, Sent}
use Rattle.live_request.specs.Words.{◌>>=◌}
use Rattle.live_model.specs.Board.{source_named}

-- A condition whose names were found. `Has shows value`: a variable that shows this has the value. `Turns shows`: it has another
-- one than in the cycle before. `HasSent n`: the Uno has sent at least n bytes.
pub data Wait : Type 0 where
  Has : Source → ℕ → Wait
  Turns : Source → Wait
  HasSent : ℕ → Wait

-- 103 where no variable has the name
abbrev pub found_source : Option Source → Result Source ℕ
found_source None = Err RequestPin
found_source (Some shows) = Ok shows

abbrev pub source_or : List Variable → List ℕ → Result Source ℕ
source_or variables name = found_source (source_named variables name)

-- conditions on parts are not answered yet
abbrev pub wait_for : List Variable → Condition → Result Wait ℕ
wait_for variables (Level name value) = source_or variables name >>= λ shows. Ok (Has shows value)
wait_for variables (Edge name) = source_or variables name >>= λ shows. Ok (Turns shows)
wait_for variables (Sent n) = Ok (HasSent n)
wait_for variables condition = Err RequestUnknown

abbrev pub waits_for : List Variable → List Condition → Result (List Wait) ℕ
waits_for variables [] = Ok []
waits_for variables (c ∷ cs) = wait_for variables c >>= λ w. waits_for variables cs >>= λ ws. Ok (w ∷ ws)

-- by how many bytes a run ends
abbrev pub most_sent : ℕ
most_sent = 65536

-- by the values of variables in each cycle, and the bytes that were sent in the cycles below each
module _ (value : ℕ → Source → ℕ) (sent : ℕ → List ℕ) where
  -- the bytes of the cycles from c on
  abbrev pub sent_from : ℕ → ℕ → List ℕ
  sent_from c t = drop (length (sent c)) (sent t)

  -- whether it holds in cycle t
  abbrev pub holds : ℕ → Wait → Bool
  holds t (Has shows it) = value t shows == it
  holds t (Turns shows) = not (value t shows == value (t - 1) shows)
  holds t (HasSent n) = nat_le n (length (sent t))

  -- the number of the first that holds in cycle t, where the first of all has this number, or 0
  abbrev pub held_from : ℕ → ℕ → List Wait → ℕ
  held_from number t [] = 0
  held_from number t (w ∷ ws) = if holds t w then number else held_from (suc number) t ws

  abbrev pub held : ℕ → List Wait → ℕ
  held t ws = held_from 1 t ws

  -- a run from cycle c ends in cycle t by a wait, or since it has sent 65,536 bytes
  abbrev pub ends_at : ℕ → List Wait → ℕ → Bool
  ends_at c ws t = not (held t ws == 0) || nat_le most_sent (length (sent_from c t))

  -- the first cycle above t in which it ends, and at most n cycles above it
  unfoldable pub end_after : ℕ → List Wait → ℕ → ℕ → ℕ
  end_after c ws t zero = t
  end_after c ws t (suc n) = if ends_at c ws (suc t) then suc t else end_after c ws (suc t) n

  -- the least cycle above c, and at most `until`, in which it ends; `until` where there is none
  abbrev pub leg_end : ℕ → ℕ → List Wait → ℕ
  leg_end c until ws = end_after c ws c (until - c)
