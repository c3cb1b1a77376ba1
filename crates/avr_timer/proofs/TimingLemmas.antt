-- Cycles as ticks: what many cycles leave, and the cycle of the next event.
use Rattle.std.proofs.Common.{◌≡◌, ℕ, zero, suc, ◌+◌, ◌-◌, ◌*◌, ◌/◌, ◌%◌, ◌<◌, ◌≤◌, ◌∙◌, ◌⊎◌, inl, inr, Bool, true, false, refl, arith, ap, sym, subst, Some, None, ◌&&◌, nat_lt}
use Rattle.std.specs.Prelude.{◌==◌}
use Rattle.std.proofs.lemmas.Bool.Decides.{nat_tests}
use Rattle.std.proofs.lemmas.Nat.{mod-mul-add, div-mul-add, div-add-mod', mod_below, le-div}
use Rattle.std.proofs.lemmas.Bool.{cases_Bool, and_right, and_from, both_ways}
use Rattle.sim_base.specs.declared.limits.TheConstants.{MOST_CYCLES}
use Rattle.avr_timer.specs.declared.counter.Counter.{Counter}
use Rattle.avr_timer.specs.declared.timing.Timing.{Timing}
use Rattle.avr_timer.specs.Count.{tick, has_event, ticks}
use Rattle.avr_timer.specs.Counted.{IsMode, Holds, wait, counted}
use Rattle.avr_timer.specs.Timing.{is_tick, counter_step, counter_due, counter_steps, IsStill, IsNext, ticks_in, begins, ticks_to, passed, tick_after, Begun}
use Rattle.avr_timer.proofs.CountLemmas.{quiet_tick, fits_from, wait_short, ticks_hold, ticks_counted, none_before, event_there}

next_or_end : (m d : ℕ) → m < d → (m + 1 < d) ⊎ (m + 1 ≡ d)
next_or_end m d h = grind arith

-- in a cycle without a tick the number of ticks stays
ticks_stay : (d x : ℕ) → 0 < d → 0 < x → (x % d ≡ 0 → ⊥) → ticks_in d (x + 1) ≡ ticks_in d x
ticks_stay d x some later none =
    let small : (x - 1) % d < d = mod_below (x - 1) d some in
    let e : (x - 1) / d * d + (x - 1) % d ≡ x - 1 = div-add-mod' (x - 1) d in
    elim (next_or_end ((x - 1) % d) d small) [
      | inl h ↦
          let f : (x - 1) / d * d + ((x - 1) % d + 1) ≡ x + 1 - 1 = omega arith in
          ap (λ (y : ℕ). y / d) (sym f) ∙ div-mul-add ((x - 1) / d) d ((x - 1) % d + 1) h
      | inr h ↦
          let f : ((x - 1) / d + 1) * d + 0 ≡ x = omega arith in
          absurd (none (ap (λ (y : ℕ). y % d) (sym f) ∙ mod-mul-add ((x - 1) / d + 1) d 0 some))
    ]

-- a tick stands at the next multiple of the divisor
at_tick : (d x : ℕ) → 0 < d → 0 < x → x % d ≡ 0 → x ≡ (ticks_in d x + 1) * d
at_tick d x some later whole =
    let small : (x - 1) % d < d = mod_below (x - 1) d some in
    let e : (x - 1) / d * d + (x - 1) % d ≡ x - 1 = div-add-mod' (x - 1) d in
    elim (next_or_end ((x - 1) % d) d small) [
      | inl h ↦
          let f : (x - 1) / d * d + ((x - 1) % d + 1) ≡ x = omega arith in
          let g : x % d ≡ (x - 1) % d + 1 = ap (λ (y : ℕ). y % d) (sym f) ∙ mod-mul-add ((x - 1) / d) d ((x - 1) % d + 1) h in
          absurd (omega arith)
      | inr h ↦ omega arith
    ]

ticks_more : (d x : ℕ) → 0 < d → 0 < x → x % d ≡ 0 → ticks_in d (x + 1) ≡ ticks_in d x + 1
ticks_more d x some later whole =
    let f : (ticks_in d x + 1) * d + 0 ≡ x + 1 - 1 = omega (arith, at_tick d x some later whole) in
    ap (λ (y : ℕ). y / d) (sym f) ∙ div-mul-add (ticks_in d x + 1) d 0 some

ticks_mono : (d x y : ℕ) → 0 < d → x ≤ y → ticks_in d x ≤ ticks_in d y
ticks_mono d x y some h =
    let small : (x - 1) % d < d = mod_below (x - 1) d some in
    let e : (x - 1) / d * d + (x - 1) % d ≡ x - 1 = div-add-mod' (x - 1) d in
    le-div ((x - 1) / d) (y - 1) d some (omega arith)

-- a tick, in words
record Ticks (k : Timing) (t : ℕ) : Type 0 where
  pub runs : 0 < k.divisor
  pub later : k.reset < t
  pub free : k.written < t
  pub whole : (t - k.reset) % k.divisor ≡ 0

and_parts : (a b c d : Bool) → (a && b && c && d) ≡ true → (a ≡ true) × (b ≡ true) × (c ≡ true) × (d ≡ true)
and_parts true true true true h = (refl, refl, refl, refl)
and_parts true true true false h = cc
and_parts true true false d h = cc
and_parts true false c d h = cc
and_parts false b c d h = cc

tick_is : (k : Timing) (t : ℕ) → is_tick k t ≡ true → Ticks k t
tick_is k t h =
    let p = and_parts (nat_lt 0 k.divisor) (nat_lt k.reset t) (nat_lt k.written t) ((t - k.reset) % k.divisor == 0) h in
    let a : nat_lt 0 k.divisor ≡ true = p.0 in
    let b : nat_lt k.reset t ≡ true = p.1 in
    let c : nat_lt k.written t ≡ true = p.2 in
    let d : ((t - k.reset) % k.divisor == 0) ≡ true = p.3 in
    record { runs = grind (arith, nat_tests); later = grind (arith, nat_tests); free = grind (arith, nat_tests); whole = grind (arith, nat_tests) }

tick_from : (k : Timing) (t : ℕ) → Ticks k t → is_tick k t ≡ true
tick_from k t h =
    let a : nat_lt 0 k.divisor ≡ true = grind (arith, nat_tests, h.runs) in
    let b : nat_lt k.reset t ≡ true = grind (arith, nat_tests, h.later) in
    let c : nat_lt k.written t ≡ true = grind (arith, nat_tests, h.free) in
    let d : ((t - k.reset) % k.divisor == 0) ≡ true = grind (arith, nat_tests, h.whole) in
    rw a (rw b (rw c (rw d refl)))

zero_or : (x : ℕ) → (x ≡ 0) ⊎ (0 < x)
zero_or x = grind arith

le_or : (a b : ℕ) → (b ≤ a) ⊎ (a < b)
le_or a b = grind arith

-- the ticks before the next cycle
to_at_tick : (k : Timing) (u : ℕ) → is_tick k u ≡ true → ticks_to k (u + 1) ≡ ticks_to k u + 1
to_at_tick k u h =
    let w = tick_is k u h in
    let d : 0 < k.divisor = w.runs in
    let r : k.reset < u = w.later in
    let e : u - k.reset + 1 ≡ u + 1 - k.reset = omega arith in
    let l : 0 < u - k.reset = omega arith in
    ap (λ (x : ℕ). ticks_in k.divisor x) (sym e) ∙ ticks_more k.divisor (u - k.reset) d l w.whole

to_at_rest : (k : Timing) (u : ℕ) → 0 < k.divisor → k.reset ≤ u → k.written < u → is_tick k u ≡ false → ticks_to k (u + 1) ≡ ticks_to k u
to_at_rest k u runs begun free h =
    let e : u - k.reset + 1 ≡ u + 1 - k.reset = omega arith in
    elim (zero_or (u - k.reset)) [
      | inl z ↦
          let f : u + 1 - k.reset - 1 ≡ u - k.reset - 1 = omega arith in
          ap (λ (x : ℕ). x / k.divisor) f
      | inr l ↦
          let r : k.reset < u = omega arith in
          ap (λ (x : ℕ). ticks_in k.divisor x) (sym e) ∙ ticks_stay k.divisor (u - k.reset) runs l
          (λ whole. let yes : is_tick k u ≡ true = tick_from k u (record { runs = runs; later = r; free = free; whole = whole }) in cc)
    ]

begins_if : (k : Timing) (t : ℕ) → k.written < t → begins k t ≡ t
begins_if k t h = let e : nat_lt k.written t ≡ true = grind (arith, nat_tests) in rw e refl

begins_later : (k : Timing) (t : ℕ) → k.written ≡ t → begins k t ≡ t + 1
begins_later k t h = let e : nat_lt k.written t ≡ false = grind (arith, nat_tests) in rw e refl

begins_from : (k : Timing) (t : ℕ) → k.written ≤ t → (t ≤ begins k t) × (begins k t ≤ t + 1) × (k.written < begins k t)
begins_from k t h = (grind (arith, nat_tests), grind (arith, nat_tests), grind (arith, nat_tests))

passed_some : (k : Timing) (t u : ℕ) → 0 < k.divisor → passed k t u ≡ ticks_to k u - ticks_to k (begins k t)
passed_some k t u h = let e : nat_lt 0 k.divisor ≡ true = grind (arith, nat_tests) in rw e refl

passed_none : (k : Timing) (t u : ℕ) → k.divisor ≡ 0 → passed k t u ≡ 0
passed_none k t u h = let e : nat_lt 0 k.divisor ≡ false = grind (arith, nat_tests) in rw e refl

no_tick : (k : Timing) (u : ℕ) → k.divisor ≡ 0 → is_tick k u ≡ false
no_tick k u h = let e : nat_lt 0 k.divisor ≡ false = grind (arith, nat_tests) in rw e refl

not_free : (k : Timing) (u : ℕ) → u ≤ k.written → is_tick k u ≡ false
not_free k u h = elim (cases_Bool (is_tick k u)) [
  | inl y ↦ let w : k.written < u = (tick_is k u y).free in absurd (omega (arith, h, w))
  | inr n ↦ n
]

to_mono : (k : Timing) (t u : ℕ) → 0 < k.divisor → t ≤ u → ticks_to k t ≤ ticks_to k u
to_mono k t u some h = ticks_mono k.divisor (t - k.reset) (u - k.reset) some (omega (arith, h))

-- one more cycle
passed_tick : (k : Timing) (t u : ℕ) → Begun k t → t ≤ u → is_tick k u ≡ true → passed k t (u + 1) ≡ passed k t u + 1
passed_tick k t u begun le h =
    let w = tick_is k u h in
    let b = begins_from k t begun.written in
    let from : begins k t ≤ u = elim (le_or k.written t) [
      | inl z ↦ let e : k.written ≡ t = omega (arith, z, begun.written) in let f : k.written < u = w.free in let g : begins k t ≤ t + 1 = b.1 in omega arith
      | inr z ↦ let e : begins k t ≡ t = begins_if k t z in omega arith
    ] in
    let mono : ticks_to k (begins k t) ≤ ticks_to k u = to_mono k (begins k t) u w.runs from in
    let more : ticks_to k (u + 1) ≡ ticks_to k u + 1 = to_at_tick k u h in
    let e : ticks_to k (u + 1) - ticks_to k (begins k t) ≡ ticks_to k u - ticks_to k (begins k t) + 1 = omega arith in
    passed_some k t (u + 1) w.runs ∙ e ∙ ap (λ (x : ℕ). x + 1) (sym (passed_some k t u w.runs))

passed_rest : (k : Timing) (t u : ℕ) → Begun k t → t ≤ u → is_tick k u ≡ false → passed k t (u + 1) ≡ passed k t u
passed_rest k t u begun le h = elim (zero_or k.divisor) [
  | inl z ↦ passed_none k t (u + 1) z ∙ sym (passed_none k t u z)
  | inr some ↦ elim (le_or k.written u) [
    | inr free ↦
        let r : k.reset ≤ u = omega (arith, begun.reset, le) in
        let same : ticks_to k (u + 1) ≡ ticks_to k u = to_at_rest k u some r free h in
        passed_some k t (u + 1) some ∙ ap (λ (x : ℕ). x - ticks_to k (begins k t)) same ∙ sym (passed_some k t u some)
    | inl taken ↦
        let e : k.written ≡ t = omega (arith, taken, begun.written, le) in
        let f : u ≡ t = omega (arith, taken, begun.written, le) in
        let b : begins k t ≡ t + 1 = begins_later k t e in
        let g : u + 1 ≡ begins k t = omega arith in
        let mono : ticks_to k u ≤ ticks_to k (begins k t) = to_mono k u (begins k t) some (omega arith) in
        let same : ticks_to k (u + 1) ≡ ticks_to k (begins k t) = ap (ticks_to k) g in
        let x : ticks_to k (u + 1) - ticks_to k (begins k t) ≡ ticks_to k u - ticks_to k (begins k t) = omega arith in
        passed_some k t (u + 1) some ∙ x ∙ sym (passed_some k t u some)
  ]
]

passed_start : (k : Timing) (t : ℕ) → Begun k t → passed k t t ≡ 0
passed_start k t begun = elim (zero_or k.divisor) [
  | inl z ↦ passed_none k t t z
  | inr some ↦
      let b : t ≤ begins k t = (begins_from k t begun.written).0 in
      let mono : ticks_to k t ≤ ticks_to k (begins k t) = to_mono k t (begins k t) some b in
      let e : ticks_to k t - ticks_to k (begins k t) ≡ 0 = omega arith in
      passed_some k t t some ∙ e
]

-- cycles are ticks
ticks_next : (k : Timing) (s : Counter) (n p : ℕ) → p ≡ n + 1 → tick k.mode (ticks k.mode s n) ≡ ticks k.mode s p
unfolding ticks
ticks_next k s n p h = let e : suc n ≡ p = omega (arith, h) in ap (ticks k.mode s) e

ticks_none : (k : Timing) (s : Counter) (p : ℕ) → p ≡ 0 → s ≡ ticks k.mode s p
unfolding ticks
ticks_none k s p h = let e : 0 ≡ p = omega (arith, h) in ap (ticks k.mode s) e

pub steps_ticks : (k : Timing) (s : Counter) (t n : ℕ) → Begun k t → counter_steps k s t n ≡ ticks k.mode s (passed k t (t + n))
unfolding counter_steps
steps_ticks k s t zero begun =
    let e : t ≡ t + 0 = omega arith in
    ticks_none k s (passed k t (t + 0)) (ap (passed k t) (sym e) ∙ passed_start k t begun)
steps_ticks k s t (suc n) begun =
    let u : ℕ = t + n in
    let e : u + 1 ≡ t + suc n = omega arith in
    let le : t ≤ u = omega arith in
    let so : counter_steps k s t n ≡ ticks k.mode s (passed k t u) = steps_ticks k s t n begun in
    ap (λ (x : Counter). counter_step k x u) so ∙ elim (cases_Bool (is_tick k u)) [
      | inl h ↦ rw h (ticks_next k s (passed k t u) (passed k t (t + suc n)) (ap (passed k t) (sym e) ∙ passed_tick k t u begun le h))
      | inr h ↦ rw h (ap (ticks k.mode s) (sym (passed_rest k t u begun le h) ∙ ap (passed k t) e))
    ]

-- the tick after w more ones, from t on
less_rows : (a b d : ℕ) → a * d < b * d → a < b
less_rows a b d h =
    elim (le_or a b) [
      | inl l ↦
          let k : ℕ = a - b in
          let e : b + k ≡ a = omega arith in
          let f : (b + k) * d ≡ a * d = ap (λ (x : ℕ). x * d) e in
          absurd (omega arith)
      | inr l ↦ l
    ]

pub record IsTickAfter (k : Timing) (t w u : ℕ) : Type 0 where
  pub later : t ≤ u
  pub tick : is_tick k u ≡ true
  pub passed : passed k t u ≡ w

tick_after_from : (k : Timing) (t w : ℕ) → 0 < k.divisor → k.reset ≤ begins k t → begins k t ≤ tick_after k t w
tick_after_from k t w some begun =
    let b : ℕ = begins k t in
    let x : ℕ = b - k.reset - 1 in
    let small : x % k.divisor < k.divisor = mod_below x k.divisor some in
    let e : x / k.divisor * k.divisor + x % k.divisor ≡ x = div-add-mod' x k.divisor in
    let f : (ticks_to k b + w + 1) * k.divisor ≡ ticks_to k b * k.divisor + w * k.divisor + k.divisor = omega arith in
    omega arith

pub tick_after_is : (k : Timing) (t w : ℕ) → Begun k t → 0 < k.divisor → IsTickAfter k t w (tick_after k t w)
tick_after_is k t w begun some =
    let b = begins_from k t begun.written in
    let n : ℕ = ticks_to k (begins k t) + w in
    let u : ℕ = tick_after k t w in
    let from : begins k t ≤ u = tick_after_from k t w some (omega (arith, b.0, begun.reset)) in
    let x : u - k.reset ≡ (n + 1) * k.divisor + 0 = omega arith in
    let y : u - k.reset - 1 ≡ n * k.divisor + (k.divisor - 1) = omega arith in
    let whole : (u - k.reset) % k.divisor ≡ 0 = ap (λ (z : ℕ). z % k.divisor) x ∙ mod-mul-add (n + 1) k.divisor 0 some in
    let l : k.divisor - 1 < k.divisor = omega arith in
    let later : k.reset < u = omega arith in
    let free : k.written < u = omega (arith, b.2, from) in
    let to : ticks_to k u ≡ n = ap (λ (z : ℕ). z / k.divisor) y ∙ div-mul-add n k.divisor (k.divisor - 1) l in
    record {
      later = omega (arith, b.0, from);
      tick = tick_from k u (record { runs = some; later = later; free = free; whole = whole });
      passed = passed_some k t u some ∙ omega (arith, to);
    }

-- a tick before it has fewer before
before_after : (k : Timing) (t w u : ℕ) → Begun k t → t ≤ u → u < tick_after k t w → is_tick k u ≡ true → passed k t u < w
before_after k t w u begun le below h =
    let p = tick_is k u h in
    let some : 0 < k.divisor = p.runs in
    let r : k.reset < u = p.later in
    let b = begins_from k t begun.written in
    let from : begins k t ≤ u = elim (le_or k.written t) [
      | inl z ↦ let e : k.written ≡ t = omega (arith, z, begun.written) in let f : k.written < u = p.free in let g : begins k t ≤ t + 1 = b.1 in omega arith
      | inr z ↦ let e : begins k t ≡ t = begins_if k t z in omega arith
    ] in
    let mono : ticks_to k (begins k t) ≤ ticks_to k u = to_mono k (begins k t) u some from in
    let at : u - k.reset ≡ (ticks_to k u + 1) * k.divisor = at_tick k.divisor (u - k.reset) some (omega arith) p.whole in
    let rows : (ticks_to k u + 1) * k.divisor < (ticks_to k (begins k t) + w + 1) * k.divisor = omega arith in
    let less : ticks_to k u + 1 < ticks_to k (begins k t) + w + 1 = less_rows _ _ k.divisor rows in
    let e : passed k t u ≡ ticks_to k u - ticks_to k (begins k t) = passed_some k t u some in
    omega (arith, e, less, mono)

passed_mono : (k : Timing) (t u v : ℕ) → u ≤ v → passed k t u ≤ passed k t v
passed_mono k t u v le = elim (zero_or k.divisor) [
  | inl z ↦ let e : passed k t u ≡ 0 = passed_none k t u z in omega (arith, e)
  | inr some ↦
      let e : passed k t u ≡ ticks_to k u - ticks_to k (begins k t) = passed_some k t u some in
      let f : passed k t v ≡ ticks_to k v - ticks_to k (begins k t) = passed_some k t v some in
      let mono : ticks_to k u ≤ ticks_to k v = to_mono k u v some le in
      omega (arith, e, f, mono)
]

-- no event before it
pub still_before : (k : Timing) (s : Counter) (t n : ℕ) → IsMode k.mode → Holds k.mode.greatest s → Begun k t → t + n ≤ tick_after k t (wait k.mode s) → IsStill k s t n
still_before k s t n mode holds begun below j less =
    let u : ℕ = t + j in
    let fits = fits_from k.mode s mode holds in
    let so : counter_steps k s t j ≡ ticks k.mode s (passed k t u) = steps_ticks k s t j begun in
    ap (λ (x : Counter). counter_due k x u) so ∙ elim (cases_Bool (is_tick k u)) [
      | inl h ↦
          let few : passed k t u < wait k.mode s = before_after k t (wait k.mode s) u begun (omega arith) (omega (arith, less, below)) h in
          ap (λ (x : Counter). counter_due k x u) (ticks_counted k.mode s (passed k t u) fits (omega (arith, few)))
          ∙ and_right (is_tick k u) (has_event k.mode (counted k.mode s (passed k t u))) (none_before k.mode s (passed k t u) fits few)
      | inr h ↦ rw h refl
    ]

pub due_there : (k : Timing) (s : Counter) (t : ℕ) → IsMode k.mode → Holds k.mode.greatest s → Begun k t → 0 < k.divisor →
    counter_due k (counter_steps k s t (tick_after k t (wait k.mode s) - t)) (tick_after k t (wait k.mode s)) ≡ true
due_there k s t mode holds begun some =
    let w : ℕ = wait k.mode s in
    let u : ℕ = tick_after k t w in
    let fits = fits_from k.mode s mode holds in
    let is = tick_after_is k t w begun some in
    let back : t + (u - t) ≡ u = omega (arith, is.later) in
    let e : passed k t (t + (u - t)) ≡ w = ap (passed k t) back ∙ is.passed in
    let so : counter_steps k s t (u - t) ≡ counted k.mode s w =
    steps_ticks k s t (u - t) begun ∙ ap (ticks k.mode s) e ∙ ticks_counted k.mode s w fits (omega arith) in
    ap (λ (x : Counter). counter_due k x u) so ∙ and_from (is_tick k u) (has_event k.mode (counted k.mode s w)) is.tick (event_there k.mode s fits)

-- cycles without an event are few ticks
pub passed_low : (k : Timing) (s : Counter) (t n : ℕ) → IsMode k.mode → Holds k.mode.greatest s → Begun k t → IsStill k s t n → passed k t (t + n) ≤ wait k.mode s
passed_low k s t n mode holds begun still = elim (zero_or k.divisor) [
  | inl z ↦ let e : passed k t (t + n) ≡ 0 = passed_none k t (t + n) z in omega (arith, e)
  | inr some ↦
      let w : ℕ = wait k.mode s in
      let u : ℕ = tick_after k t w in
      let is = tick_after_is k t w begun some in
      elim (le_or u (t + n)) [
        | inl le ↦
            let mono : passed k t (t + n) ≤ passed k t u = passed_mono k t (t + n) u le in
            omega (arith, mono, is.passed)
        | inr less ↦
            let j : ℕ = u - t in
            let back : t + j ≡ u = omega (arith, is.later) in
            let no : counter_due k (counter_steps k s t j) u ≡ false = subst (λ (x : ℕ). counter_due k (counter_steps k s t j) x ≡ false) back (still j (omega (arith, less, is.later))) in
            let yes : counter_due k (counter_steps k s t j) u ≡ true = due_there k s t mode holds begun some in
            absurd (both_ways (counter_due k (counter_steps k s t j) u) no yes)
      ]
]

-- the same, to the cycle u
pub glides : (k : Timing) (s : Counter) (t u : ℕ) → IsMode k.mode → Holds k.mode.greatest s → Begun k t → t ≤ u → IsStill k s t (u - t) →
    (passed k t u ≤ wait k.mode s) × (counted k.mode s (passed k t u) ≡ counter_steps k s t (u - t))
glides k s t u mode holds begun le still =
    let back : t + (u - t) ≡ u = omega (arith, le) in
    let low : passed k t u ≤ wait k.mode s = subst (λ (x : ℕ). passed k t x ≤ wait k.mode s) back (passed_low k s t (u - t) mode holds begun still) in
    (low, sym (steps_ticks k s t (u - t) begun ∙ ap (λ (x : ℕ). ticks k.mode s (passed k t x)) back ∙ ticks_counted k.mode s (passed k t u) (fits_from k.mode s mode holds) low))

pub steps_hold : (k : Timing) (s : Counter) (t n : ℕ) → IsMode k.mode → Holds k.mode.greatest s → Begun k t → Holds k.mode.greatest (counter_steps k s t n)
steps_hold k s t n mode holds begun =
    subst (λ (x : Counter). Holds k.mode.greatest x) (sym (steps_ticks k s t n begun)) (ticks_hold k.mode s (passed k t (t + n)) mode holds)

pub step_last : (k : Timing) (s : Counter) (t u : ℕ) → t < u → counter_steps k s t (u - t) ≡ counter_step k (counter_steps k s t (u - 1 - t)) (u - 1)
unfolding counter_steps
step_last k s t u less =
    let n : ℕ = u - 1 - t in
    let e : u - t ≡ suc n = omega (arith, less) in
    let f : t + n ≡ u - 1 = omega (arith, less) in
    ap (counter_steps k s t) e ∙ ap (counter_step k (counter_steps k s t n)) f

-- the next event
pub next_some : (k : Timing) (s : Counter) (t u : ℕ) → IsMode k.mode → Holds k.mode.greatest s → Begun k t → 0 < k.divisor → u ≡ tick_after k t (wait k.mode s) → u < MOST_CYCLES → IsNext k s t (Some u)
next_some k s t u mode holds begun some e end =
    let v : ℕ = tick_after k t (wait k.mode s) in
    let later : t ≤ v = (tick_after_is k t (wait k.mode s) begun some).later in
    subst (λ (x : ℕ). IsNext k s t (Some x)) (sym e)
    (later, omega (arith, e, end), still_before k s t (v - t) mode holds begun (omega (arith, later)), due_there k s t mode holds begun some)

pub next_late : (k : Timing) (s : Counter) (t u : ℕ) → IsMode k.mode → Holds k.mode.greatest s → Begun k t → t ≤ MOST_CYCLES → u ≡ tick_after k t (wait k.mode s) → MOST_CYCLES ≤ u → IsNext k s t None
next_late k s t u mode holds begun now e end = still_before k s t (MOST_CYCLES - t) mode holds begun (omega (arith, e, end, now))

pub next_never : (k : Timing) (s : Counter) (t : ℕ) → k.divisor ≡ 0 → IsNext k s t None
next_never k s t h j less = rw (no_tick k (t + j) h) refl

pub glides_short : (k : Timing) (s : Counter) (t u : ℕ) → IsMode k.mode → Holds k.mode.greatest s → Begun k t → t ≤ u → IsStill k s t (u - t) → passed k t u < 65536
glides_short k s t u mode holds begun le still =
    let low : passed k t u ≤ wait k.mode s = (glides k s t u mode holds begun le still).0 in
    let short : wait k.mode s < 65536 = wait_short k.mode s mode holds in
    omega (arith, low, short)

-- the last cycle after quiet ones
pub last_tick : (k : Timing) (s x : Counter) (t u : ℕ) → t < u → x ≡ counter_steps k s t (u - 1 - t) → is_tick k (u - 1) ≡ true → tick k.mode x ≡ counter_steps k s t (u - t)
last_tick k s x t u less so h = sym (step_last k s t u less ∙ ap (λ (y : Counter). counter_step k y (u - 1)) (sym so) ∙ rw h refl)

pub last_rest : (k : Timing) (s x : Counter) (t u : ℕ) → t < u → x ≡ counter_steps k s t (u - 1 - t) → is_tick k (u - 1) ≡ false → x ≡ counter_steps k s t (u - t)
last_rest k s x t u less so h = sym (step_last k s t u less ∙ ap (λ (y : Counter). counter_step k y (u - 1)) (sym so) ∙ rw h refl)

-- What a cycle without an event keeps.
pub record Keeps (s x : Counter) : Type 0 where
  pub a : x.a ≡ s.a
  pub b : x.b ≡ s.b
  pub icf : x.icf ≡ s.icf
  pub tov : x.tov ≡ s.tov

and_false : (a b : Bool) → (a && b) ≡ false → a ≡ true → b ≡ false
and_false true b h e = h
and_false false b h e = cc

pub quiet_keeps : (k : Timing) (s : Counter) (t : ℕ) → counter_due k s t ≡ false → Keeps s (counter_step k s t)
quiet_keeps k s t h = elim (cases_Bool (is_tick k t)) [
  | inr off ↦ rw off (record { a = refl; b = refl; icf = refl; tov = refl })
  | inl on ↦
      let e = quiet_tick k.mode s (and_false (is_tick k t) (has_event k.mode s) h on) in
      let f : counter_step k s t ≡ tick k.mode s = rw on refl in
      record { a = ap (λ (x : Counter). x.a) (f ∙ e); b = ap (λ (x : Counter). x.b) (f ∙ e); icf = ap (λ (x : Counter). x.icf) (f ∙ e); tov = ap (λ (x : Counter). x.tov) (f ∙ e) }
]
