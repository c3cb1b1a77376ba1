-- A small OLED on its pins: a slave on I2C that is written to, and never read (SSD1306 data sheet, "MCU I2C Interface"; that it does
-- not acknowledge a read, and that each acknowledge comes in its bit's own cycle, are the profile's).
use Rattle.std.proofs.Common.{refl, ap, arith}
use Rattle.std.specs.Prelude.{◌≡◌, ℕ, ◌+◌, ◌%◌, List, [], ◌∷◌, length, Bool, true, if◌then◌else◌}
use Rattle.sim_base.specs.declared.signal.Drive.{Drive}
use Rattle.sim_base.specs.declared.signal.Drive.TheVariants as drives
use Rattle.sim_base.specs.declared.signal.Level.{Level}
use Rattle.part_catalog.specs.declared.settings.Settings.{Settings}
use Rattle.part_reactive.specs.Pins.{reads_at}
use Rattle.part_reactive.specs.Reaction.{Reaction, ReactionLaws}
use Rattle.slave_request.specs.declared.request.EngineRequest.{EngineRequest}
use Rattle.slave_request.specs.declared.request.EngineRequest.TheVariants as requests
use Rattle.slave_i2c.specs.declared.lines.Lines.{Lines}
use Rattle.slave_i2c.specs.declared.slave.Slave.{Slave}
use Rattle.slave_i2c.specs.I2c.{i2c_step, new_slave, with_answer}
use Rattle.slave_i2c.proofs.I2cLemmas.{rests}
use Rattle.part_oled.specs.declared.stream.Stream.{Stream}
use Rattle.part_oled.specs.declared.stream.Stream.TheVariants.{Control}
use Rattle.part_oled.specs.Picture.{Picture, dark}
use Rattle.part_oled.specs.Stream.{put, after}

-- the picture, what the next byte of a write is, and the slave
pub record OledState : Type 0 where
  pub picture : Picture
  pub stream : Stream
  pub slave : Slave

-- dark, at an address of seven bits
abbrev pub new_oled : Settings → OledState
new_oled settings = record { picture = dark; stream = Control; slave = new_slave (settings.number % 128) }

-- SCL and SDA are pins 2 and 3
abbrev pub lines_at : List Level → Lines
lines_at ls = record { scl = reads_at ls 2; sda = reads_at ls 3 }

-- What the slave asks: it is there for a write, which begins with a control byte, and takes each byte of it.
abbrev pub heard : OledState → List EngineRequest → OledState
heard s (requests.Connect address read ∷ rs) = record s { stream = Control; slave = with_answer s.slave s.slave.phase (if read then 0 else 1) }
heard s (requests.Write x ∷ rs) = record { picture = put s.picture s.stream x; stream = after s.stream x; slave = with_answer s.slave s.slave.phase 1 }
heard s rs = s

-- One cycle, from what the lines read in the cycle before and read in this one.
abbrev pub oled_step : OledState → Lines → Lines → OledState
oled_step s before now =
    let asked = i2c_step s.slave before now in
    heard (record s { slave = asked.0 }) asked.1

-- the slave holds SDA Low, and nothing else is driven
abbrev pub drives_of : Bool → List Drive
drives_of low = drives.Z ∷ drives.Z ∷ drives.Z ∷ (if low then drives.Low else drives.Z) ∷ []

abbrev pub oled : Reaction OledState
oled = record {
  react = λ s before now input. oled_step s (lines_at before) (lines_at now);
  drives = λ s. drives_of s.slave.low;
  contacts = λ s. [];
  agrees = λ s ls. true;
  counted = λ s. 0;
}

-- on the same levels once more it is asked nothing
stays : (s : OledState) (ls : List Level) → oled_step s (lines_at ls) (lines_at ls) ≡ s
stays s ls = ap (λ (x : Slave × List EngineRequest). heard (record s { slave = x.0 }) x.1) (rests s.slave (lines_at ls))

pub oled_laws : ReactionLaws oled
oled_laws = record {
  still = λ s ls h. stays s ls;
  agrees_then = λ s before now input. refl;
  keeps_pins = λ s before now input. refl;
  keeps_contacts = λ s before now input. refl;
  counts_once = λ s before now input. omega arith;
}
