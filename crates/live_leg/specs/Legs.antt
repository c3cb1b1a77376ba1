-- What a watcher of a leg stands for. No public clause of a talk cites this.
use Rattle.std.specs.Prelude.{ℕ, List}
use Rattle.sim_base.specs.Outside.{Outside}
use Rattle.sim_base.specs.Rows.{Row}
use Rattle.vcd_text.specs.Writers.{Tied, place_of, Stands, HasStopped}
use Rattle.live_leg.specs.Said.{HasSaid}
use Rattle.live_leg.specs.SentView.{HasOf}
use Rattle.live_leg.specs.declared.leg.Leg.{Leg}

-- What no call of it changes: the references that it holds, and the environment as the leg found it.
pub record LegTied : Type 0 where
  pub tied : Tied
  pub keeps : ℕ
  pub begun : Outside
  pub first : ℕ

module _ {B : Type 0} (outside : B → Outside) (w : Leg B) where
  abbrev pub leg_place : LegTied
  leg_place = record { tied = place_of outside w.writer; keeps = w.sent.ghost_name; begun = outside w.begun.now.value; first = w.sent.now.first }

  -- Its writer has written the rows, and on Serial what was said before the leg began, and no more. The bytes were kept.
  pub record LegStands (rows : List Row) (bytes : List ℕ) : Type 0 where
    pub wrote : (said : List ℕ) → HasSaid (place_of outside w.writer).start (outside w.begun.now.value) said → Stands outside w.writer rows said
    pub sent : HasOf w.sent.now bytes

  -- first parts of the rows' text and of what was said were written, and a write failed
  abbrev pub LegStopped : List Row → List ℕ → Type 0
  LegStopped rows bytes = (said : List ℕ) → HasSaid (place_of outside w.writer).start (outside w.begun.now.value) said → HasStopped outside w.writer rows said
