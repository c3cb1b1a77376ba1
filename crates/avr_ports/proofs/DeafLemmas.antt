-- Ports that are deaf take no notice of a change of levels.
use Rattle.std.proofs.Common.{◌≡◌, ℕ, ◌%◌, ◌∙◌, Bool, true, false, ◌&&◌, ◌||◌, not, List, [], refl, sym, arith}
use Rattle.std.specs.Prelude.{if◌then◌else◌, ◌==◌, min}
use Rattle.std.specs.Int.Bits.{and_zero_r}
use Rattle.std.proofs.lemmas.Bool.Decides.{nat_tests}
use Rattle.std.proofs.lemmas.Bool.{not-false, not-true}
use Rattle.sim_base.specs.declared.signal.Level.{Level}
use Rattle.avr_unit.specs.Bits.{is_set}
use Rattle.avr_unit.specs.UnitMachine.{least}
use Rattle.avr_unit.specs.Unheard.{UnheardFrom}
use Rattle.avr_unit.proofs.UnheardLemmas.{still_unheard}
use Rattle.avr_ports.specs.Deaf.{is_deaf}
use Rattle.avr_ports.specs.PortLaws.{ports_still}
use Rattle.avr_ports.specs.Ports.{Ports, ports, requests_int, is_edge, is_change, isc0, isc1, on, pinb, pinc, pind, requests, rouses, edges_sensed, changes_sensed, ports_step}

all_six : (a b c d e f : Bool) → (a && (b && (c && (d && (e && f))))) ≡ true →
    (a ≡ true) × (b ≡ true) × (c ≡ true) × (d ≡ true) × (e ≡ true) × (f ≡ true)
all_six true true true true true true h = (refl, refl, refl, refl, refl, refl)
all_six true true true true true false h = cc
all_six true true true true false f h = cc
all_six true true true false e f h = cc
all_six true true false d e f h = cc
all_six true false c d e f h = cc
all_six false b c d e f h = cc

is_none : (x : ℕ) → (x == 0) ≡ true → x ≡ 0
is_none x h = grind (arith, nat_tests)

no_mask : (x y m : ℕ) (b : Bool) → m ≡ 0 → (b || is_change m x y) ≡ b
no_mask x y m true h = refl
no_mask x y m false h = rw (h, and_zero_r) refl

no_sense : (x y b : Bool) (sense : ℕ) → sense ≡ 0 → (b || is_edge sense x y) ≡ b
no_sense x y true sense h = refl
no_sense x y false sense h = rw h refl

-- ports that are deaf sense nothing
deaf_step : (u : Ports) (before now : List Level) → is_deaf u ≡ true → ports_step u before now ≡ u
deaf_step u before now h =
    let p = all_six (u.eicra % 16 == 0) (u.pcmsk0 == 0) (u.pcmsk1 == 0) (u.pcmsk2 == 0) (not (is_set u.eimsk 0)) (not (is_set u.eimsk 1)) h in
    let d : u.eicra % 16 ≡ 0 = is_none (u.eicra % 16) p.0 in
    let d0 : isc0 u ≡ 0 = omega arith in
    let d1 : isc1 u ≡ 0 = omega arith in
    changes (edges_sensed u before now) (is_none u.pcmsk0 p.1) (is_none u.pcmsk1 p.2) (is_none u.pcmsk2 p.3) ∙ edges d0 d1
  where
    changes : (u : Ports) → u.pcmsk0 ≡ 0 → u.pcmsk1 ≡ 0 → u.pcmsk2 ≡ 0 → changes_sensed u before now ≡ u
    changes u e f g =
        rw (no_mask (pinb before) (pinb now) u.pcmsk0 u.pcif0 e)
        (rw (no_mask (pinc before) (pinc now) u.pcmsk1 u.pcif1 f)
        (rw (no_mask (pind before) (pind now) u.pcmsk2 u.pcif2 g) refl))

    edges : isc0 u ≡ 0 → isc1 u ≡ 0 → edges_sensed u before now ≡ u
    edges e f = rw (no_sense (on before 2) (on now 2) u.intf0 (isc0 u) e) (rw (no_sense (on before 3) (on now 3) u.intf1 (isc1 u) f) refl)

-- and request by no level
deaf_requests : (u : Ports) (before now : List Level) → is_deaf u ≡ true → least (requests u before) ≡ least (requests u now)
deaf_requests u before now h =
    let p = all_six (u.eicra % 16 == 0) (u.pcmsk0 == 0) (u.pcmsk1 == 0) (u.pcmsk2 == 0) (not (is_set u.eimsk 0)) (not (is_set u.eimsk 1)) h in
    by (is_set u.eimsk 0) (is_set u.eimsk 1) (not-true _ p.4) (not-true _ p.5)
  where
    rest : ℕ
    rest = min (if is_set u.pcicr 0 && u.pcif0 then 3 else 26) (min (if is_set u.pcicr 1 && u.pcif1 then 4 else 26) (min (if is_set u.pcicr 2 && u.pcif2 then 5 else 26) 26))

    of_two : Bool → Bool → List Level → ℕ
    of_two a b l = min (if a && requests_int u.intf0 (isc0 u) (on l 2) then 1 else 26) (min (if b && requests_int u.intf1 (isc1 u) (on l 3) then 2 else 26) rest)

    by : (a b : Bool) → a ≡ false → b ≡ false → of_two a b before ≡ of_two a b now
    by true b e f = cc
    by false true e f = cc
    by false false e f = refl

-- nor does a level end power-down then
deaf_rouses : (u : Ports) (before now : List Level) → is_deaf u ≡ true → rouses u before ≡ rouses u now
deaf_rouses u before now h =
    let p = all_six (u.eicra % 16 == 0) (u.pcmsk0 == 0) (u.pcmsk1 == 0) (u.pcmsk2 == 0) (not (is_set u.eimsk 0)) (not (is_set u.eimsk 1)) h in
    by (is_set u.eimsk 0) (is_set u.eimsk 1) (not-true _ p.4) (not-true _ p.5)
  where
    of_two : Bool → Bool → List Level → Bool
    of_two a b l =
        (a && (isc0 u == 0 && requests_int u.intf0 (isc0 u) (on l 2)))
        || ((b && (isc1 u == 0 && requests_int u.intf1 (isc1 u) (on l 3)))
        || ((is_set u.pcicr 0 && u.pcif0) || ((is_set u.pcicr 1 && u.pcif1) || (is_set u.pcicr 2 && u.pcif2))))

    by : (a b : Bool) → a ≡ false → b ≡ false → of_two a b before ≡ of_two a b now
    by true b e f = cc
    by false true e f = cc
    by false false e f = refl

pub ports_unheard : (u : Ports) (t : ℕ) (before now : List Level) → not (is_deaf u) ≡ false → UnheardFrom ports u t before now
ports_unheard u t before now h =
    let deaf = not-false (is_deaf u) h in
    still_unheard ports (λ s t due. ports_still s []) u t before now (λ k. record {
      steps = λ due. deaf_step u before now deaf ∙ sym (ports_still u now);
      requests = deaf_requests u before now deaf;
      rouses = deaf_rouses u before now deaf;
    })
