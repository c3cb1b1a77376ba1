-- What is known of a bus between two changes of its lines, and of what is written. No public clause cites this.
use Rattle.std.specs.Prelude.{ℕ, suc, ◌≡◌, ◌≤◌, ◌++◌, List}
use Rattle.sim_base.specs.declared.bench.Port.TheVariants as ports
use Rattle.sim_base.specs.declared.bench.WriteEnd.{WriteEnd}
use Rattle.sim_base.specs.Outside.{Outside}
use Rattle.sim_outcome_model.specs.Work.{Wrote}
use Rattle.sim_base.specs.declared.signal.Level.{Level}
use Rattle.sim_base.specs.declared.signal.Level.TheVariants as levels
use Rattle.wave_decode.specs.declared.bus.Bus.{Bus}
use Rattle.wave_decode.specs.declared.bus.Heard.{Heard}
use Rattle.wave_decode.specs.Frames.{reading, told}
use Rattle.wave_decode.specs.Levels.{LevelRow}
use Rattle.wave_decode.specs.Rising.{IsRising, level_at, first_cycle}

-- In cycle `now` the two lines are la and lb, and their rows of later cycles ra and rb, the first of which, or the end, is at `next`.
pub record IsAt (bus : Bus) (n : ℕ) (of_a of_b : List LevelRow) (now next : ℕ) (la : Level) (ra : List LevelRow) (lb : Level) (rb : List LevelRow) (heard : Heard) : Type 0 where
  pub first : first_cycle (first_cycle n ra) rb ≡ next
  pub early : suc now ≤ n
  pub a_later : (u : ℕ) → now ≤ u → level_at la ra u ≡ level_at levels.Z of_a u
  pub a_rising : IsRising (suc now) ra
  pub b_later : (u : ℕ) → now ≤ u → level_at lb rb u ≡ level_at levels.Z of_b u
  pub b_rising : IsRising (suc now) rb
  pub is_heard : (told bus n (reading of_a) (reading of_b) now).0 ≡ heard

-- Of a text the end is kept, and what is before it was written, or a first part of that where a write failed.
abbrev pub Gathers : WriteEnd → List ℕ → List ℕ → Outside → Outside → Type 0
Gathers end kept text a b = (gone : List ℕ) × (gone ++ kept ≡ text) × Wrote end ports.Report gone a b
