-- The pins that the turn of an engine, and what is served in it, leave alone.
use Rattle.std.proofs.Common.{◌≡◌, ◌≢◌, ◌<◌, ◌+◌, ℕ, Bool, true, false, Option, None, Some, refl, ap, sym, subst, ◌∙◌, arith}
use Rattle.std.specs.Prelude.{◌==◌, if◌then◌else◌, nat_lt, slice_get, unwrap_or}
use Rattle.std.proofs.lemmas.Bool.Decides.{eqb_tells, nat_tests}
use Rattle.std.proofs.lemmas.Option.{slice_get_within}
use Rattle.sim_base.specs.declared.signal.Drive.{Drive}
use Rattle.sim_base.specs.declared.signal.Drive.TheVariants as drives
use Rattle.part_law.specs.Spans.{IsIn, all_pins, no_pins}
use Rattle.part_law.specs.declared.span.Span.{Span}
use Rattle.slave_request.specs.declared.request.EngineRequest.{EngineRequest}
use Rattle.slave_request.specs.declared.request.EngineRequest.TheVariants as requests
use Rattle.chip_engines.specs.declared.engine.Engine.{Engine}
use Rattle.chip_engines.specs.Engine.{out_drives, drives_at, gets_byte}
use Rattle.chip_engines.specs.Serial.{serial_output}
use Rattle.chip_engines.proofs.PlaceLemmas.{driven_same}
use Rattle.chip_host.proofs.HostLemmas.{get_set}
use Rattle.chip_host.specs.Inventory.{joined, engine_at, pin_at, drive_of}
use Rattle.chip_host.specs.Chip.{Chip, chip_drive, is_live, with_engine, serves, byte_in, byte_address}
use Rattle.chip_host.specs.Shown.{DrivesBut, out_span, moved_span, request_span}

-- every pin is one of all
pub all_in : {X : Type 0} (i : ℕ) → i < 64 → ¬ IsIn all_pins i → X
all_in i l out = absurd (out (omega arith, omega (arith, l)))

not_out : (pin : Option ℕ) (i : ℕ) → i < 64 → ¬ IsIn (out_span pin) i → pin ≢ Some i
not_out None i l out e = absurd cc
not_out (Some p) i l out e = by (nat_lt p 64) refl out (let same : p ≡ i = cc in same)
  where
    by : (b : Bool) → nat_lt p 64 ≡ b → ¬ IsIn (if b then record { from = p; to = p + 1 } else no_pins) i → p ≢ i
    by true below out same = out (omega (arith, same), omega (arith, same))
    by false past out same = grind (arith, nat_tests, past, same, l)

other_out : (i : ℕ) (pin : Option ℕ) (d : Option Drive) → pin ≢ Some i → out_drives i pin d ≡ None
other_out i None d other = refl
other_out i (Some o) d other = by (o == i) refl
  where
    by : (b : Bool) → (o == i) ≡ b → (if b then d else None) ≡ None
    by true same = let e : o ≡ i = grind (arith, eqb_tells o i, same) in absurd (other (ap (λ (n : ℕ). Some n) e))
    by false same = refl

engine_there : (o : Option (Option Engine)) (e : Engine) → joined o ≡ Some e → o ≡ Some (Some e)
engine_there None e h = absurd cc
engine_there (Some p) e h = ap (λ (x : Option Engine). Some x) h

-- an engine that is put in the place of another
module _ (s : Chip) (k : ℕ) (e g : Engine) where
  pub set_there : engine_at s.inventory k ≡ Some e → engine_at (with_engine s k g).inventory k ≡ Some g
  set_there at =
      let there = engine_there (slice_get s.inventory.engines k) e at in
      ap joined (get_set s.inventory.engines k (Some g) (slice_get_within s.inventory.engines k (Some e) there))

  put_same : (i : ℕ) → engine_at s.inventory k ≡ Some e → drives_at i g ≡ drives_at i e → chip_drive (with_engine s k g) i ≡ chip_drive s i
  put_same i at same =
      ap (λ (d : Option Drive). if is_live s then unwrap_or d (drive_of (pin_at s.inventory i)) else drives.Z)
      (driven_same i s.inventory.engines k e g (engine_there (slice_get s.inventory.engines k) e at) same)

  -- it drives the same pin
  put_but : (i : ℕ) → engine_at s.inventory k ≡ Some e → g.pins ≡ e.pins → i < 64 → ¬ IsIn (out_span e.pins.out) i → chip_drive (with_engine s k g) i ≡ chip_drive s i
  put_but i at pins l out =
      let other : e.pins.out ≢ Some i = not_out e.pins.out i l out in
      put_same i at
      (ap (λ (p : _). out_drives i p.out (serial_output g.serial g.early)) pins ∙ other_out i e.pins.out (serial_output g.serial g.early) other
      ∙ sym (other_out i e.pins.out (serial_output e.serial e.early) other))

-- behind its turn, of which it tells whether it drives something else
pub turned_but : (s : Chip) (k : ℕ) (e g : Engine) (moved : Bool) (i : ℕ) → engine_at s.inventory k ≡ Some e → (moved ≡ false → serial_output g.serial g.early ≡ serial_output e.serial e.early) → i < 64
    → ¬ IsIn (moved_span moved (Some g)) i → g.pins ≡ e.pins → chip_drive (with_engine s k g) i ≡ chip_drive s i
turned_but s k e g true i at told l out pins =
    let same : g.pins.out ≡ e.pins.out = ap (λ (p : _). p.out) pins in
    put_but s k e g i at pins l (subst (λ (o : Option ℕ). ¬ IsIn (out_span o) i) same out)
turned_but s k e g false i at told l out pins =
    put_same s k e g i at (ap (λ (p : _). out_drives i p.out (serial_output g.serial g.early)) pins ∙ ap (out_drives i e.pins.out) (told refl))

-- behind a request of an engine that stands there
serves_but : (s : Chip) (t k : ℕ) (e : Engine) (r : EngineRequest) (i : ℕ) → engine_at s.inventory k ≡ Some e → i < 64 → ¬ IsIn (request_span r e.pins.out) i → chip_drive (serves s t k e r) i ≡ chip_drive s i
serves_but s t k e requests.None i at l out = refl
serves_but s t k e (requests.Fetch n) i at l out = put_but s k e (gets_byte e (byte_in s.running.memory (byte_address e n))) i at refl l out
serves_but s t k e (requests.Store n x) i at l out = refl
serves_but s t k e (requests.Received x) i at l out = all_in i l out
serves_but s t k e requests.Sent i at l out = all_in i l out
serves_but s t k e (requests.Done n) i at l out = all_in i l out
serves_but s t k e (requests.Connect address read) i at l out = all_in i l out
serves_but s t k e requests.Read i at l out = all_in i l out
serves_but s t k e (requests.Write x) i at l out = all_in i l out
serves_but s t k e requests.Disconnect i at l out = all_in i l out

-- behind one with a further one behind it
pub waiting_but : (s : Chip) (t k : ℕ) (e : Engine) (r : EngineRequest) (later : Option EngineRequest) (i : ℕ) → engine_at s.inventory k ≡ Some e → i < 64 → ¬ IsIn (request_span r e.pins.out) i
    → chip_drive (serves (with_engine s k (record e { later = later })) t k (record e { later = later }) r) i ≡ chip_drive s i
waiting_but s t k e r later i at l out =
    let w : Engine = record e { later = later } in
    serves_but (with_engine s k w) t k w r i (set_there s k e w at) l out ∙ put_same s k e w i at refl

-- one change behind another
pub both_but : (a b c : Span) (s r q : Chip) → ((k : ℕ) → ¬ IsIn c k → (¬ IsIn a k) × (¬ IsIn b k)) → DrivesBut a r s → DrivesBut b q r → DrivesBut c q s
both_but a b c s r q neither first second i l out = second i l (neither i out).1 ∙ first i l (neither i out).0
