-- A cycle without an event leaves the watchdog and the EEPROM as they are, and none asks anything of a pin.
use Rattle.std.specs.Prelude.{◌≡◌, ◌==◌, ◌&&◌, not, ℕ, Bool, false, Option, Some, None}
use Rattle.std.proofs.Common.{refl, ap, ◌∙◌}
use Rattle.std.proofs.lemmas.Bool.{or_parts, cond-false}
use Rattle.avr_unit.specs.Coming.{comes}
use Rattle.avr_unit.specs.Reach.{Reaches, nowhere, nowhere_reaches}
use Rattle.avr_unit.specs.UnitMachine.{Laws}
use Rattle.avr_keep.specs.declared.watchdog.Watchdog.{Watchdog}
use Rattle.avr_keep.specs.declared.eeprom.Programming.{Programming}
use Rattle.avr_keep.specs.Watchdog.{watchdog_step, watchdog_due, times_out, resets, timed_out, open_after}
use Rattle.avr_keep.specs.declared.eeprom.Eeprom.{Eeprom}
use Rattle.avr_keep.specs.Eeprom.{eeprom_step, eeprom_due, end_of, written, finished}
use Rattle.avr_keep.specs.Keep.{Keep, keep, requests, rouses, stepped}

stays_open : (o : Option ℕ) (t : ℕ) → comes o t ≡ false → open_after o t ≡ o
stays_open o t h = cond-false (comes o t) None o h

pub watchdog_quiet : (w : Watchdog) (t : ℕ) → watchdog_due w t ≡ false → watchdog_step w t ≡ w
watchdog_quiet w t h =
    let d = or_parts (comes w.window t) (times_out w t) h in
    let same : timed_out w t ≡ w = cond-false (times_out w t) _ w d.1 in
    ap (λ (a : Watchdog). record a { window = open_after a.window t }) same ∙ ap (λ (o : Option ℕ). record w { window = o }) (stays_open w.window t d.0)

not_written : (e : Eeprom) (o : Option Programming) (t : ℕ) → comes (end_of o) t ≡ false → written e o t ≡ e
not_written e None t h = refl
not_written e (Some p) t h = cond-false (p.end == t) (finished e p) e h

pub eeprom_quiet : (e : Eeprom) (t : ℕ) → eeprom_due e t ≡ false → eeprom_step e t ≡ e
eeprom_quiet e t h =
    let d = or_parts (comes e.window t) (comes (end_of e.programming) t) h in
    ap (λ (a : Eeprom). record a { window = open_after a.window t }) (not_written e e.programming t d.1)
    ∙ ap (λ (o : Option ℕ). record e { window = o }) (stays_open e.window t d.0)

pub quiet : (u : Keep) (t : ℕ) → keep.due u t ≡ false → stepped u t ≡ u
quiet u t h =
    let d = or_parts (watchdog_due u.watchdog t) (eeprom_due u.eeprom t) h in
    ap (λ (w : Watchdog). record u { watchdog = w; eeprom = eeprom_step u.eeprom t }) (watchdog_quiet u.watchdog t d.0)
    ∙ ap (λ (e : Eeprom). record u { eeprom = e }) (eeprom_quiet u.eeprom t d.1)

pub keep_laws : Laws keep
keep_laws = record {
  keeps_pad = λ s t l p h. refl;
  keeps_requests = λ s t l h. ap requests (quiet s t h);
  keeps_silent = λ s t h. refl;
  deaf = λ s t l k h. refl;
  reads_pad = λ s t a p. refl;
  taken_pad = λ s v p. refl;
  power_laws = record {
    keeps_rouses = λ s t l k h. ap rouses (quiet s t h);
    keeps_resets = λ s t u l h. ap (λ (v : Keep). resets v.watchdog u) (quiet s t h);
    resets_due = λ s t h. let d = or_parts (watchdog_due s.watchdog t) _ h in
        ap (λ (b : Bool). b && not s.watchdog.wdie) (or_parts (comes s.watchdog.window t) (times_out s.watchdog t) d.0).1;
    wdr_pad = λ s t p. refl;
    doze_pad = λ s p. refl;
  };
}

pub keep_reaches : Reaches keep nowhere
keep_reaches = nowhere_reaches keep (λ new old p. refl)
