-- The first cycle from one on at which something is due. No public clause cites it.
use Rattle.std.specs.Prelude.{ℕ, ◌&&◌, nat_le, nat_lt, min, List, [], ◌∷◌, Option, None, Some, if◌then◌else◌}
use Rattle.sim_base.specs.declared.limits.TheConstants.{MOST_CYCLES}
use Rattle.slave_serial.specs.Reception.{next_sample}
use Rattle.slave_serial.specs.Sending.{bit_end}
use Rattle.slave_serial.specs.Spi.{is_opening, next_turn}
use Rattle.chip_engines.specs.declared.serial.Serial.{Serial}
use Rattle.chip_engines.specs.declared.serial.Serial.TheVariants as serials
use Rattle.chip_engines.specs.declared.engine.Engine.{Engine}

abbrev pub due_from : ℕ → Option ℕ → Option ℕ
due_from t None = None
due_from t (Some u) = if nat_le t u && nat_lt u MOST_CYCLES then Some u else None

abbrev pub earlier : Option ℕ → Option ℕ → Option ℕ
earlier None b = b
earlier (Some a) None = Some a
earlier (Some a) (Some b) = Some (min a b)

abbrev pub first_serial : ℕ → Serial → Option ℕ
first_serial t (serials.Uart u) = earlier (due_from t (bit_end u.sending)) (due_from t (next_sample u.reception))
first_serial t (serials.Spi s) = if is_opening s.transaction then due_from t (Some t) else due_from t (next_turn s.transaction)
first_serial t (serials.I2c s) = None

abbrev pub first_at : ℕ → Option Engine → Option ℕ
first_at t None = None
first_at t (Some e) = first_serial t e.serial

abbrev pub first_engine : ℕ → List (Option Engine) → Option ℕ
first_engine t [] = None
first_engine t (o ∷ os) = earlier (first_at t o) (first_engine t os)
