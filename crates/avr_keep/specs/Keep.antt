-- The watchdog and the EEPROM as one unit: what goes on over sleep and over a watchdog reset (profile).
use Rattle.std.specs.Prelude.{ℕ, ◌/◌, ◌%◌, ◌==◌, ◌&&◌, ◌||◌, Bool, if◌then◌else◌, List, [], ◌∷◌, None, is_some, is_none}
use Rattle.avr_unit.specs.Bits.{with_bit}
use Rattle.avr_unit.specs.Pad.{untouched}
use Rattle.avr_unit.specs.UnitMachine.{UnitMachine, at_register}
use Rattle.avr_unit.specs.declared.request.Request.{Request}
use Rattle.avr_keep.specs.Registers.{register_at}
use Rattle.avr_keep.specs.declared.registers.Register.{Register}
use Rattle.avr_keep.specs.declared.registers.Register.TheVariants.{EECR, EEDR, EEARL, EEARH, MCUSR, WDTCSR}
use Rattle.avr_keep.specs.declared.watchdog.Watchdog.{Watchdog}
use Rattle.avr_keep.specs.Watchdog as dog
use Rattle.avr_keep.specs.declared.eeprom.Eeprom.{Eeprom}
use Rattle.avr_keep.specs.Eeprom.{eeprom_step, eeprom_due, eecr, eecr_kept, with_eecr, with_eearl, with_eearh, blank, eeprom_reset}

pub record Keep : Type 0 where
  pub watchdog : Watchdog
  pub eeprom : Eeprom

-- Each steps by itself.
abbrev pub stepped : Keep → ℕ → Keep
stepped u t = record { watchdog = dog.watchdog_step u.watchdog t; eeprom = eeprom_step u.eeprom t }

abbrev pub register : Keep → Register → ℕ
register u EECR = eecr u.eeprom
register u EEDR = u.eeprom.eedr
register u EEARL = u.eeprom.eear % 256
register u EEARH = u.eeprom.eear / 256
register u MCUSR = u.watchdog.mcusr
register u WDTCSR = dog.wdtcsr u.watchdog

abbrev pub with_register : Keep → ℕ → Register → ℕ → Keep
with_register u t EECR x = record u { eeprom = with_eecr u.eeprom t x }
with_register u t EEDR x = record u { eeprom = record (u.eeprom) { eedr = x } }
with_register u t EEARL x = record u { eeprom = with_eearl u.eeprom x }
with_register u t EEARH x = record u { eeprom = with_eearh u.eeprom x }
with_register u t MCUSR x = record u { watchdog = dog.with_mcusr u.watchdog x }
with_register u t WDTCSR x = record u { watchdog = dog.with_wdtcsr u.watchdog t x }

-- What a write of one bit alone writes to the others: 0 to the bits that act.
abbrev pub kept : Keep → Register → ℕ
kept u EECR = eecr_kept u.eeprom
kept u EEDR = u.eeprom.eedr
kept u EEARL = u.eeprom.eear % 256
kept u EEARH = u.eeprom.eear / 256
kept u MCUSR = u.watchdog.mcusr
kept u WDTCSR = dog.wdtcsr_kept u.watchdog

-- WDT has vector 6, and EE READY, which asks while no write is on the way, vector 22.
abbrev pub requests : Keep → List Request
requests u =
    record { vector = 6; enabled = u.watchdog.wdie; flag = u.watchdog.wdif }
    ∷ record { vector = 22; enabled = u.eeprom.eerie; flag = is_none u.eeprom.programming }
    ∷ []

-- WDR in cycle t
abbrev pub wdr : Keep → ℕ → Keep
wdr u t = record u { watchdog = dog.wdr u.watchdog t }

-- After a reset of the watchdog's own all is as after power-on but the bytes of the EEPROM and MCUSR.
abbrev pub restarted : Keep → Keep
restarted u = record { watchdog = dog.watchdog_restarted u.watchdog; eeprom = eeprom_reset u.eeprom.cells }

-- what ends power-down: the watchdog's interrupt
abbrev pub rouses : Keep → Bool
rouses u = u.watchdog.wdie && u.watchdog.wdif

abbrev pub keep : UnitMachine Keep
keep = record {
  step = λ u t before now. stepped u t;
  due = λ u t. dog.watchdog_due u.watchdog t || eeprom_due u.eeprom t;
  requests = λ u l. requests u;
  pad = λ u p. untouched;
  sends = λ u t. None;
  has = λ a. is_some (register_at a);
  answers = λ u t l a. at_register (register_at a) 0 (register u);
  read = λ u t a. u;
  write = λ u t a x. at_register (register_at a) u (λ r. with_register u t r x);
  write_bit = λ u t a k x. at_register (register_at a) u (λ r. with_register u t r (with_bit (kept u r) k x));
  taken = λ u v. if v == 6 then record u { watchdog = dog.watchdog_taken u.watchdog } else u;
  reset = record { watchdog = dog.watchdog_reset; eeprom = eeprom_reset blank };
  power = record {
    rouses = λ u l. rouses u;
    wdr = wdr;
    resets = λ u t. dog.resets u.watchdog t;
    restart = restarted;
    doze = λ u. u;
  };
}
