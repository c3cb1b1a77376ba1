-- TIFRn and TIMSKn (data sheet, "Register Description"): TOVn and TOIEn 0, OCFnA and OCIEnA 1, OCFnB and OCIEnB 2.
use Rattle.std.specs.Prelude.{ℕ, ◌+◌, ◌*◌, ◌==◌, ◌&&◌, not, false, if◌then◌else◌, List, [], ◌∷◌}
use Rattle.avr_unit.specs.Bits.{is_set, one}
use Rattle.avr_unit.specs.declared.request.Request.{Request}
use Rattle.avr_timer.specs.declared.counter.Counter.{Counter}

abbrev pub flag_bits : Counter → ℕ
flag_bits c = 4 * one c.b.flag + 2 * one c.a.flag + one c.tov

-- Writing 1 clears a flag.
abbrev pub with_flags : Counter → ℕ → Counter
with_flags c x = record c {
  tov = c.tov && not (is_set x 0);
  a = record (c.a) { flag = c.a.flag && not (is_set x 1) };
  b = record (c.b) { flag = c.b.flag && not (is_set x 2) };
}

-- COMPA has the vector v, COMPB and OVF follow.
abbrev pub requests_from : ℕ → ℕ → Counter → List Request
requests_from v timsk c =
    record { vector = v; enabled = is_set timsk 1; flag = c.a.flag }
    ∷ record { vector = v + 1; enabled = is_set timsk 2; flag = c.b.flag }
    ∷ record { vector = v + 2; enabled = is_set timsk 0; flag = c.tov }
    ∷ []

-- Entering a vector clears its flag.
abbrev pub entered : ℕ → Counter → ℕ → Counter
entered v c x =
    if x == v then record c { a = record (c.a) { flag = false } }
    else if x == v + 1 then record c { b = record (c.b) { flag = false } }
    else if x == v + 2 then record c { tov = false }
    else c
