-- A unit that may stand at an earlier cycle than what asks it, over cycles in which it has no event.
use Rattle.std.specs.Prelude.{◌≡◌, ℕ, ◌-◌, ◌<◌, ◌≤◌, List}
use Rattle.std.proofs.Common.{arith}
use Rattle.sim_base.specs.declared.signal.Level.{Level}
use Rattle.avr_unit.specs.UnitMachine.{UnitMachine, At, least, steps, IsQuiet, FirstDue}
use Rattle.avr_unit.specs.Lagging.{lag_skip, lag_first}

module _ {U : Type 0} (m : UnitMachine U) where
  -- the state at cycle t
  abbrev pub late_state : At U → ℕ → U
  late_state s t = steps m s.unit s.cycle (t - s.cycle)

  -- it has no event before cycle t, and its first one is that of cycle `due`
  pub record Lags (s : At U) (due t : ℕ) : Type 0 where
    pub lags : s.cycle ≤ t
    pub soon : t ≤ due
    pub first : FirstDue m s.unit s.cycle due

  -- it may be asked at cycle t, on the levels l, and requests this vector
  pub record LateStands (s : At U) (due request : ℕ) (l : List Level) (t : ℕ) : Type 0 where
    pub late : Lags s due t
    pub requests : request ≡ least (m.requests s.unit l)

  -- the state u at cycle t is what it becomes over cycles without an event
  pub record Behind (s : At U) (t : ℕ) (u : U) : Type 0 where
    pub lags : s.cycle ≤ t
    pub quiet : IsQuiet m s.unit s.cycle (t - s.cycle)
    pub state : u ≡ late_state s t

  -- cycle t, from the levels before to those now, leaves it as it lags: it has no event there, does the same as on levels that
  -- stay, and requests the same
  pub record Rests (s : At U) (due : ℕ) (before now : List Level) (t : ℕ) : Type 0 where
    pub early : t < due
    pub steps : m.step (late_state s t) t before now ≡ m.step (late_state s t) t now now
    pub requests : least (m.requests s.unit before) ≡ least (m.requests s.unit now)

  pub late_waits : (s : At U) (due request : ℕ) (l : List Level) (t u : ℕ) → LateStands s due request l t → t ≤ u → u ≤ due →
      LateStands s due request l u × (late_state s u ≡ steps m (late_state s t) t (u - t))
  late_waits s due request l t u h le soon = (
    record { late = record { lags = omega (arith, h.late.lags); soon = soon; first = h.late.first }; requests = h.requests },
    lag_skip m s.unit s.cycle t u h.late.lags le,
  )

  pub late_first : (s : At U) (due request : ℕ) (l : List Level) (t : ℕ) → LateStands s due request l t → FirstDue m (late_state s t) t due
  late_first s due request l t h = lag_first m s.unit s.cycle t due h.late.lags h.late.soon h.late.first
