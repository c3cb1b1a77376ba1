-- The text display on its pins, in parallel or by I2C (HD44780U data sheet, "Interfacing to the MPU"; Wokwi documentation,
-- "wokwi-lcd1602").
use Rattle.std.proofs.Common.{refl, ap, arith}
use Rattle.std.specs.Prelude.{◌≡◌, ℕ, ◌+◌, ◌*◌, ◌%◌, ◌&&◌, not, List, [], ◌∷◌, length, replicate, Bool, true, false, if◌then◌else◌}
use Rattle.sim_base.specs.declared.signal.Drive.{Drive}
use Rattle.sim_base.specs.declared.signal.Drive.TheVariants as drives
use Rattle.sim_base.specs.declared.signal.Level.{Level}
use Rattle.part_catalog.specs.declared.settings.Settings.{Settings}
use Rattle.part_reactive.specs.Pins.{reads_at, falls}
use Rattle.part_reactive.specs.Reaction.{Reaction, ReactionLaws}
use Rattle.slave_request.specs.declared.request.EngineRequest.{EngineRequest}
use Rattle.slave_i2c.specs.declared.lines.Lines.{Lines}
use Rattle.slave_i2c.specs.declared.slave.Slave.{Slave}
use Rattle.slave_i2c.specs.I2c.{IsPlace}
use Rattle.slave_i2c.proofs.I2cLemmas.{rests}
use Rattle.parts_display.specs.declared.expander.Expander.{Expander}
use Rattle.parts_display.specs.declared.lcd.Bus.{Bus}
use Rattle.parts_display.specs.declared.lcd.Bus.TheVariants.{Parallel, I2c}
use Rattle.parts_display.specs.Halves.{half}
use Rattle.parts_display.specs.Screen.{Screen, blank, taken}
use Rattle.parts_display.specs.Expander.{new_expander, heard, expander_step}

pub record LcdState : Type 0 where
  pub screen : Screen
  pub bus : Bus

-- RS, RW and E of the full pins; D0 to D3 stand from pin 6 on, D4 to D7 from pin 10 on
abbrev pub rs : ℕ
rs = 3

abbrev pub rw_pin : ℕ
rw_pin = 4

abbrev pub e : ℕ
e = 5

abbrev pub half_at : List Level → ℕ → ℕ
half_at ls first = half (reads_at ls first) (reads_at ls (first + 1)) (reads_at ls (first + 2)) (reads_at ls (first + 3))

abbrev pub data_of : List Level → ℕ
data_of ls = half_at ls 6 + 16 * half_at ls 10

-- A fall of E takes RS and D7 to D0, where RW reads 0.
abbrev pub parallel : Screen → List Level → List Level → Screen
parallel s before now = if falls before now e && not (reads_at now rw_pin) then taken s (reads_at now rs) (data_of now) else s

-- SDA and SCL of the I2C pins are pins 2 and 3
abbrev pub lines_at : List Level → Lines
lines_at ls = record { scl = reads_at ls 3; sda = reads_at ls 2 }

abbrev pub by_i2c : Screen × Expander → LcdState
by_i2c x = record { screen = x.0; bus = I2c x.1 }

abbrev pub reacted : Screen → Bus → List Level → List Level → LcdState
reacted s Parallel before now = record { screen = parallel s before now; bus = Parallel }
reacted s (I2c expander) before now = by_i2c (expander_step s expander (lines_at before) (lines_at now))

-- the slave holds SDA Low, and nothing else is driven
abbrev pub sda : Bool → Drive
sda low = if low then drives.Low else drives.Z

abbrev pub drives_of : Bus → List Drive
drives_of Parallel = replicate 16 drives.Z
drives_of (I2c expander) = drives.Z ∷ drives.Z ∷ sda expander.slave.low ∷ drives.Z ∷ []

abbrev pub full_lcd : LcdState
full_lcd = record { screen = blank; bus = Parallel }

-- the address has seven bits
abbrev pub i2c_lcd : Settings → LcdState
i2c_lcd settings = record { screen = blank; bus = I2c (new_expander (settings.number % 128)) }

abbrev pub lcd : Reaction LcdState
lcd = record {
  react = λ s before now input. reacted s.screen s.bus before now;
  drives = λ s. drives_of s.bus;
  contacts = λ s. [];
  agrees = λ s ls. true;
  counted = λ s. 0;
}

-- a slave that stands where one can stand
abbrev pub IsBus : Bus → Type 0
IsBus Parallel = Unit {0}
IsBus (I2c expander) = IsPlace expander.slave.phase

-- on the same levels once more nothing falls
not_again : (one write : Bool) (next s : Screen) → (if (one && not one) && write then next else s) ≡ s
not_again true write next s = refl
not_again false write next s = refl

stays : (s : Screen) (b : Bus) (ls : List Level) → reacted s b ls ls ≡ record { screen = s; bus = b }
stays s Parallel ls =
    let next = taken s (reads_at ls rs) (data_of ls) in
    ap (λ (x : Screen). record { screen = x; bus = Parallel }) (not_again (reads_at ls e) (not (reads_at ls rw_pin)) next s)
stays s (I2c expander) ls =
    ap (λ (x : Slave × List EngineRequest). by_i2c (heard s (record expander { slave = x.0 }) x.1)) (rests expander.slave (lines_at ls))

keeps : (s : Screen) (b : Bus) (before now : List Level) → length (drives_of (reacted s b before now).bus) ≡ length (drives_of b)
keeps s Parallel before now = refl
keeps s (I2c expander) before now = refl

pub lcd_laws : ReactionLaws lcd
lcd_laws = record {
  still = λ s ls h. stays s.screen s.bus ls;
  agrees_then = λ s before now input. refl;
  keeps_pins = λ s before now input. keeps s.screen s.bus before now;
  keeps_contacts = λ s before now input. refl;
  counts_once = λ s before now input. omega arith;
}
