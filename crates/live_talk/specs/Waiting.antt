-- What a run waits for, by what is known of a cycle and of the one before it.
use Rattle.std.specs.Prelude.{ℕ, suc, ◌==◌, nat_le, List, [], ◌∷◌, Bool, not, if◌then◌else◌}
use Rattle.text_model.specs.Wave.{Source}
use Rattle.vcd_text.specs.Variables.{source_of}
use Rattle.live_model.specs.Leg as legs
use Rattle.live_talk.specs.declared.waiting.Wait.{Wait}
use Rattle.live_talk.specs.declared.waiting.Wait.TheVariants as waits

abbrev pub wait_of : Wait → legs.Wait
wait_of (waits.Has shows value) = legs.Has (source_of shows) value
wait_of (waits.Turns shows) = legs.Turns (source_of shows)
wait_of (waits.HasSent count) = legs.HasSent count

-- the value that a wait looks at, by those of all variables
abbrev pub seen : (Source → ℕ) → legs.Wait → ℕ
seen value (legs.Has shows it) = value shows
seen value (legs.Turns shows) = value shows
seen value (legs.HasSent n) = 0

-- whether it holds where it sees this now and saw that in the cycle before, and so many bytes were sent
abbrev pub holds_by : ℕ → ℕ → ℕ → legs.Wait → Bool
holds_by now before sent (legs.Has shows it) = now == it
holds_by now before sent (legs.Turns shows) = not (now == before)
holds_by now before sent (legs.HasSent n) = nat_le n sent

-- the number of the first that holds, where the first of all has this number, or 0
abbrev pub held_by : (Source → ℕ) → (Source → ℕ) → ℕ → ℕ → List legs.Wait → ℕ
held_by now before sent number [] = 0
held_by now before sent number (w ∷ ws) = if holds_by (seen now w) (seen before w) sent w then number else held_by now before sent (suc number) ws
