-- One cycle of the microcontroller and cycles in which nothing is due, as the code does them.
use Rattle.std.proofs.Common.{◌≡◌, ℕ, zero, suc, ◌+◌, ◌-◌, ◌<◌, ◌≤◌, ◌∙◌, List, [], map, length, Bool, true, false, ◌&&◌, ◌||◌, not, nat_lt, None, Some, ◌⊎◌, inl, inr, arith, ap, sym, subst, refl, slice_get}
use Rattle.std.specs.Prelude.{if◌then◌else◌, ◌==◌, max, min}
use Rattle.std.specs.List.{range_with_len}
use Rattle.std.proofs.lemmas.Bool.Decides.{nat_tests}
use Rattle.std.proofs.lemmas.Option.{slice_get-get_or, slice_get_past}
use Rattle.std.proofs.lemmas.List.FromFn.{length-map-range_with_len, get_or-map-range_with_len}
use Rattle.std.proofs.lemmas.Bool.{or_left, or_right, or_from, and_parts}
use Rattle.std.proofs.Math.Bool.{and-false}
use Rattle.sim_base.specs.declared.signal.Drive.{Drive}
use Rattle.sim_base.specs.declared.signal.Drive.TheVariants as drives
use Rattle.sim_base.specs.declared.signal.Level.{Level}
use Rattle.sim_base.specs.declared.limits.TheConstants.{MOST_CYCLES}
use Rattle.part_law.specs.Machine.{glide, idle, IsQuiet, IsFirstDue}
use Rattle.part_law.specs.declared.span.Span.{Span}
use Rattle.part_law.specs.Spans.{IsIn, all_pins}
use Rattle.part_law.proofs.SpanLemmas.{none_in}
use Rattle.avr_core.specs.CoreState.{Core}
use Rattle.avr_core.specs.AvrStep.{Did}
use Rattle.avr_unit.specs.declared.pins.TheConstants.{PORT_PINS}
use Rattle.avr_unit.specs.UnitMachine.{UnitMachine, least, steps, FirstDue}
use Rattle.avr_unit.specs.UnitMachine as unit
use Rattle.avr_unit.specs.Lagging.{quiet_requests}
use Rattle.avr_unit.proofs.UnitLemmas.{step_none, step_last}
use Rattle.avr_mcu.specs.declared.pins.TheConstants.{UNO_PINS}
use Rattle.avr_mcu.specs.Units.{UnitsAt, pins, request, units_step}
use Rattle.avr_mcu.specs.Touched.{Touched, bare}
use Rattle.avr_unit.specs.Placed.{hull, SameBut}
use Rattle.avr_unit.proofs.HullLemmas.{apart}
use Rattle.avr_mcu.specs.McuOf.{Mcu, mcu, mcu_step, ready, enters, starts, performed, acted, core_acted, units_acted, restarted, uno_drive, uno_drives}
use Rattle.avr_mcu.specs.McuLawsOf.{drive_same, drives_same, length-uno_drives, rests, rested}
use Rattle.avr_mcu.specs.McuState.{state_of}

le_or : (a b : ℕ) → (a ≤ b) ⊎ (b ≤ a)
le_or a b = grind arith

module _ {D : Type 0} (m : UnitMachine D) (laws : unit.Laws m) where
  -- the drive of one pin of the Uno
  pub drive_at : (u : D) (p : ℕ) (d : Drive) → p < UNO_PINS → d ≡ uno_drive m u p → slice_get (uno_drives m u) p ≡ Some d
  unfolding uno_drives
  drive_at u p d h e =
      let l : p < length (map (uno_drive m u) (range_with_len 0 UNO_PINS)) = omega (arith, length-map-range_with_len (uno_drive m u) 0 UNO_PINS) in
      let z : 0 + p ≡ p = omega arith in
      slice_get-get_or (map (uno_drive m u) (range_with_len 0 UNO_PINS)) p drives.Z l ∙ ap (λ (x : Drive). Some x) (get_or-map-range_with_len (uno_drive m u) 0 UNO_PINS p p drives.Z h z ∙ sym e)

  drive_get : (u v : D) (p : ℕ) → (p < PORT_PINS → m.pad u p ≡ m.pad v p) → slice_get (uno_drives m u) p ≡ slice_get (uno_drives m v) p
  drive_get u v p h = elim (lt_or p UNO_PINS) [
    | inl less ↦ drive_at u p (uno_drive m u p) less refl ∙ sym (drive_at v p (uno_drive m u p) less (drive_same m u v p h))
    | inr more ↦
        let none : (w : D) → slice_get (uno_drives m w) p ≡ None = λ w. slice_get_past (uno_drives m w) p (omega (arith, length-uno_drives m w, more)) in
        none u ∙ sym (none v)
  ]
    where
      lt_or : (a b : ℕ) → (a < b) ⊎ (b ≤ a)
      lt_or a b = grind arith

  -- the core does something
  pub act_is : (flash : List ℕ) (core after : Core) (next cycles : ℕ) (s x : Touched D) (cycle : ℕ) (b : Bool) → record { core = after; bus = bare x; cycles = cycles } ≡ performed m b flash core (bare s) →
      x.held ≡ s.held → s.cycle ≡ cycle → next ≤ cycle → b ≡ enters m (state_of flash core next s) → ready core.mode b ≡ true →
      state_of flash after (cycle + cycles) x ≡ core_acted m (state_of flash core next s) cycle
  act_is flash core after next cycles s x cycle b e held here l is go =
      let y : Mcu D = state_of flash core next s in
      let late : nat_lt cycle next ≡ false = grind (arith, nat_tests) in
      let run : ready core.mode (enters m y) ≡ true = ap (ready core.mode) (sym is) ∙ go in
      let starts_is : starts m y cycle ≡ true = rw late run in
      let at : ℕ → UnitsAt D = λ u. record { units = s.units; held = s.held; cycle = u } in
      let by : Did (UnitsAt D) → Mcu D = λ d. record { flash = flash; core = d.core; next = cycle + d.cycles; units = d.bus.units; held = s.held } in
      ap (λ (l : List Level). record y { core = after; next = cycle + cycles; units = x.units; held = l }) held
      ∙ ap by e ∙ ap (λ (u : ℕ). by (performed m b flash core (at u))) here
      ∙ ap (λ (c : Bool). by (performed m c flash core (at cycle))) is
      ∙ sym (ap (λ (c : Bool). if c then acted m y cycle else y) starts_is)

  -- or not
  pub act_not : (flash : List ℕ) (core : Core) (next : ℕ) (s : Touched D) (cycle : ℕ) (b c : Bool) → b ≡ enters m (state_of flash core next s) →
      c ≡ ready core.mode b → (not (nat_lt cycle next) && c) ≡ false → state_of flash core next s ≡ core_acted m (state_of flash core next s) cycle
  act_not flash core next s cycle b c is e h =
      let x : Mcu D = state_of flash core next s in
      let none : starts m x cycle ≡ false = ap (λ (y : Bool). not (nat_lt cycle next) && y) (sym (e ∙ ap (ready core.mode) is)) ∙ h in
      sym (ap (λ (y : Bool). if y then acted m x cycle else x) none)

  -- what the core does leaves the held levels alone
  acted_holds : (s : Mcu D) (t : ℕ) → (core_acted m s t).held ≡ s.held
  acted_holds s t = by (starts m s t)
    where
      by : (b : Bool) → (if b then acted m s t else s).held ≡ s.held
      by true = refl
      by false = refl

  -- on the levels that are held a cycle is what the core does, and then the units on those
  pub held_woken : (s a : Mcu D) (t : ℕ) → a ≡ core_acted m s t → units_acted m a t a.held ≡ mcu_step m s t s.held
  held_woken s a t e =
      let b = core_acted m s t in
      ap (λ (x : Mcu D). units_acted m x t x.held) e ∙ ap (λ (l : List Level). units_acted m b t l) (acted_holds s t)

  -- where no unit has an event, the units' part is their step
  pub rest_acts : (a : Mcu D) (t : ℕ) → m.due a.units.devices t ≡ false → record a { units = units_step m a.units t a.held a.held } ≡ units_acted m a t a.held
  rest_acts a t none =
      let b = record a { units = units_step m a.units t a.held a.held } in
      sym (ap (λ (x : Bool). if x then restarted m b (t + 1) else b) (laws.power_laws.resets_due a.units.devices t none))

  -- where one has, it is their step and perhaps a reset, as the code does it
  pub turned_is : (flash : List ℕ) (core : Core) (next : ℕ) (u v : Touched D) (t : ℕ) (b : Bool) (l : List Level) (y : Mcu D) → u.cycle ≡ t → b ≡ m.power.resets u.units.devices u.cycle →
      v ≡ record u { units = units_step m u.units u.cycle u.held l; held = l; cycle = u.cycle + 1 } →
      y ≡ (if b then restarted m (state_of flash core next v) (t + 1) else state_of flash core next v) → y ≡ units_acted m (state_of flash core next u) t l
  turned_is flash core next u v t b l y here is_b is_v is_y =
      let by : Bool → Touched D → Mcu D = λ c x. if c then restarted m (state_of flash core next x) (t + 1) else state_of flash core next x in
      is_y ∙ ap (by b) is_v ∙ ap (λ c. by c (record u { units = units_step m u.units u.cycle u.held l; held = l; cycle = u.cycle + 1 })) is_b
      ∙ ap (λ (k : ℕ). if m.power.resets u.units.devices k then restarted m (state_of flash core next (record u { units = units_step m u.units k u.held l; held = l })) (t + 1)
      else state_of flash core next (record u { units = units_step m u.units k u.held l; held = l })) here

  -- and what it may change of a pin
  pub turned_pads : (u v w : D) (b : Bool) (moved span : Span) → span ≡ (if b then all_pins else moved) → (b ≡ false → w ≡ v) → SameBut m moved v u → SameBut m span w u
  turned_pads u v w true moved span is stays same p less out = absurd (out (subst (λ (s : Span). IsIn s p) (sym is) (omega arith, omega (arith, less))))
  turned_pads u v w false moved span is stays same p less out =
      ap (λ (x : D). m.pad x p) (stays refl) ∙ same p less (λ h. out (subst (λ (s : Span). IsIn s p) (sym is) h))

  -- after what the core does and a step of the units, each of which may change what is asked of some pins
  module _ (old mid new : D) (touched moved : Span) (did : (p : ℕ) → p < PORT_PINS → ¬ IsIn touched p → m.pad mid p ≡ m.pad old p)
      (stepped : (p : ℕ) → p < PORT_PINS → ¬ IsIn moved p → m.pad new p ≡ m.pad mid p) (span : Span) (is : span ≡ hull touched moved) where
    woken_pad : (p : ℕ) → p < PORT_PINS → ¬ IsIn span p → m.pad new p ≡ m.pad old p
    woken_pad p l out =
        let both = apart span touched moved p is out in
        stepped p l both.1 ∙ did p l both.0

    -- all drives are what they were, if these are no pins
    pub wake_drives : nat_lt span.from span.to ≡ false → uno_drives m new ≡ uno_drives m old
    wake_drives none = drives_same m new old (λ p l. woken_pad p l (none_in span p none))

    -- one of another pin is
    pub wake_drive : (p : ℕ) → ¬ IsIn span p → slice_get (uno_drives m new) p ≡ slice_get (uno_drives m old) p
    wake_drive p out = drive_get new old p (λ l. woken_pad p l out)

  -- one cycle of the units without an event
  pub rest_is : (s : Touched D) (t d : ℕ) → s.cycle ≡ t → FirstDue m s.units.devices s.cycle d → t < d →
      (unit.IsQuiet m s.units.devices s.cycle (t + 1 - s.cycle))
      × (m.due s.units.devices t ≡ false)
      × (steps m s.units.devices s.cycle (t + 1 - s.cycle) ≡ m.step s.units.devices t (pins s.held) (pins s.held))
  rest_is s t d here first less =
      let one : t + 1 - s.cycle ≡ 0 + 1 = omega (arith, here) in
      let at : s.cycle + 0 ≡ t = omega (arith, here) in
      let none : m.due s.units.devices t ≡ false =
      ap (λ (x : D). m.due x t) (sym (step_none m s.units.devices s.cycle 0 refl)) ∙ ap (m.due (steps m s.units.devices s.cycle 0)) (sym at) ∙ first.quiet 0 (omega (arith, less, here)) in (
        λ k (h : k < t + 1 - s.cycle). first.quiet k (omega (arith, h, less, here)),
        none,
        step_last m s.units.devices s.cycle 0 (t + 1 - s.cycle) one
            ∙ ap (λ (x : D). m.step x (s.cycle + 0) [] []) (step_none m s.units.devices s.cycle 0 refl) ∙ ap (λ (x : ℕ). m.step s.units.devices x [] []) at
            ∙ laws.deaf s.units.devices t [] (pins s.held) none,
      )

  -- the state after n cycles in which no unit has an event and the core does nothing
  abbrev pub waited : Mcu D → ℕ → ℕ → Mcu D
  waited s t n = record s { units = record (s.units) { devices = steps m s.units.devices t n } }

  waited_more : (s : Mcu D) (t n : ℕ) → (mcu m).due (waited s t n) (t + n) ≡ false → idle (mcu m) (waited s t n) (t + n) ≡ waited s t (suc n)
  waited_more s t n h =
      let w = waited s t n in
      let r = rests m w (t + n) h in
      let d = steps m s.units.devices t n in
      let e : suc n ≡ n + 1 = omega arith in
      rested m laws w (t + n) h
      ∙ ap (λ (x : D). record s { units = record (s.units) { devices = x } }) (laws.deaf d (t + n) (pins s.held) [] r.1 ∙ sym (step_last m s.units.devices t n (suc n) e))

  -- it goes on like this as long as nothing is due
  pub glide_waits : (s : Mcu D) (t n : ℕ) → IsQuiet (mcu m) s t n → (glide (mcu m) s t n ≡ waited s t n) × unit.IsQuiet m s.units.devices t n
  glide_waits s t zero quiet = (ap (λ (x : D). record s { units = record (s.units) { devices = x } }) (sym (step_none m s.units.devices t 0 refl)), λ k (h : k < 0). absurd (omega arith))
  glide_waits s t (suc n) quiet =
      let before = glide_waits s t n (λ k (h : k < n). quiet k (omega arith)) in
      let none : (mcu m).due (waited s t n) (t + n) ≡ false = ap (λ (x : Mcu D). (mcu m).due x (t + n)) (sym before.0) ∙ quiet n (omega arith) in (
        ap (λ (x : Mcu D). idle (mcu m) x (t + n)) before.0 ∙ waited_more s t n none,
        λ k (h : k < suc n). elim (last k n h) [
          | inl less ↦ before.1 k less
          | inr same ↦ subst (λ (j : ℕ). m.due (steps m s.units.devices t j) (t + j) ≡ false) (sym same) (rests m (waited s t n) (t + n) none).1
        ],
      )
    where
      last : (k n : ℕ) → k < suc n → (k < n) ⊎ (k ≡ n)
      last k n h = grind (arith, h)

  -- what is due there
  waits_glide : (s : Mcu D) (t n : ℕ) → ((k : ℕ) → k < n → (mcu m).due (waited s t k) (t + k) ≡ false) → glide (mcu m) s t n ≡ waited s t n
  waits_glide s t zero quiet = ap (λ (x : D). record s { units = record (s.units) { devices = x } }) (sym (step_none m s.units.devices t 0 refl))
  waits_glide s t (suc n) quiet =
      ap (λ (x : Mcu D). idle (mcu m) x (t + n)) (waits_glide s t n (λ k (h : k < n). quiet k (omega arith))) ∙ waited_more s t n (quiet n (omega arith))

  pub waits_quiet : (s : Mcu D) (t n : ℕ) → ((k : ℕ) → k < n → (mcu m).due (waited s t k) (t + k) ≡ false) → IsQuiet (mcu m) s t n
  waits_quiet s t n quiet k h = ap (λ (x : Mcu D). (mcu m).due x (t + k)) (waits_glide s t k (λ j (l : j < k). quiet j (omega (arith, l, h)))) ∙ quiet k h

  pub waited_enters : (s : Mcu D) (t n : ℕ) → unit.IsQuiet m s.units.devices t n → enters m (waited s t n) ≡ enters m s
  waited_enters s t n quiet =
      ap (λ (x : ℕ). s.core.sreg.i && not s.core.just_enabled && nat_lt x 26) (ap least (quiet_requests m laws s.units.devices t n (pins s.held) quiet))

  -- the first cycle in which it is due, by when the core can go on and by the units' first event
  module _ (s : Mcu D) (t a e : ℕ) (r : Bool) (later : (t == 0) ≡ false) (is : r ≡ ready s.core.mode (enters m s)) (is_a : a ≡ (if r then max s.next t else MOST_CYCLES))
      (first : FirstDue m s.units.devices t e) where
    no_start : (k : ℕ) → t + k < min a e → unit.IsQuiet m s.units.devices t k → (r : Bool) → r ≡ ready s.core.mode (enters m s) → a ≡ (if r then max s.next t else MOST_CYCLES) → starts m (waited s t k) (t + k) ≡ false
    no_start k less events true is is_a =
        let l : nat_lt (t + k) s.next ≡ true = grind (arith, nat_tests, less, is_a) in
        ap (λ (b : Bool). not b && ready s.core.mode (enters m (waited s t k))) l
    no_start k less events false is is_a =
        ap (λ (b : Bool). not (nat_lt (t + k) s.next) && ready s.core.mode b) (waited_enters s t k events)
        ∙ ap (λ (b : Bool). not (nat_lt (t + k) s.next) && b) (sym is) ∙ and-false (not (nat_lt (t + k) s.next))

    quiet_to : (k : ℕ) → t + k < min a e → (mcu m).due (waited s t k) (t + k) ≡ false
    quiet_to k less =
        let soon : t + k < e = grind (arith, less) in
        let events : unit.IsQuiet m s.units.devices t k = λ j (h : j < k). first.quiet j (omega (arith, h, soon)) in
        let none : m.due (steps m s.units.devices t k) (t + k) ≡ false = first.quiet k (omega (arith, soon)) in
        let positive : (t + k == 0) ≡ false = grind (arith, nat_tests, later) in
        or_from (t + k == 0) _ positive (or_from (starts m (waited s t k) (t + k)) _ (no_start k less events r is is_a) none)

    from_is : (r : Bool) → a ≡ (if r then max s.next t else MOST_CYCLES) → t ≤ min a e
    from_is true is_a = grind (arith, is_a, first.later)
    from_is false is_a = grind (arith, is_a, first.later, first.end)

    by_ready : min a e < MOST_CYCLES → a ≤ e → (r : Bool) → r ≡ ready s.core.mode (enters m s) → a ≡ (if r then max s.next t else MOST_CYCLES) → starts m (waited s t (min a e - t)) (min a e) ≡ true
    by_ready l le true is is_a =
        let late : nat_lt (min a e) s.next ≡ false = grind (arith, nat_tests, is_a, le) in
        let events : unit.IsQuiet m s.units.devices t (min a e - t) = λ j (h : j < min a e - t). first.quiet j (grind (arith, h)) in
        ap (λ (b : Bool). not b && ready s.core.mode (enters m (waited s t (min a e - t)))) late
        ∙ ap (ready s.core.mode) (waited_enters s t (min a e - t) events) ∙ sym is
    by_ready l le false is is_a = absurd (grind (arith, is_a, le, l))

    event : min a e < MOST_CYCLES → (a ≤ e) ⊎ (e ≤ a) → (starts m (waited s t (min a e - t)) (min a e) || m.due (steps m s.units.devices t (min a e - t)) (min a e)) ≡ true
    event l (inl le) = or_left _ _ (by_ready l le r is is_a)
    event l (inr le) =
        let u : min a e ≡ e = grind (arith, le) in
        let i : e < MOST_CYCLES = omega (arith, u, l) in
        or_right _ _ (subst (λ (x : ℕ). m.due (steps m s.units.devices t (x - t)) x ≡ true) (sym u) (first.event i))

    pub due_some : (d : ℕ) → d ≡ min a e → d < MOST_CYCLES → IsFirstDue (mcu m) s t (Some d)
    due_some d is_d less =
        let l : min a e < MOST_CYCLES = omega (arith, is_d, less) in
        let from : t ≤ min a e = from_is r is_a in
        let quiet : (k : ℕ) → k < min a e - t → (mcu m).due (waited s t k) (t + k) ≡ false = λ k (i : k < min a e - t). quiet_to k (omega (arith, i, from)) in
        subst (λ (x : ℕ). IsFirstDue (mcu m) s t (Some x)) (sym is_d) (
          from,
          l,
          waits_quiet s t (min a e - t) quiet,
          ap (λ (x : Mcu D). (mcu m).due x (min a e)) (waits_glide s t (min a e - t) quiet) ∙ or_right (min a e == 0) _ (event l (le_or a e)),
        )

    pub due_none : (d : ℕ) → d ≡ min a e → MOST_CYCLES ≤ d → IsFirstDue (mcu m) s t None
    due_none d is_d more = waits_quiet s t (MOST_CYCLES - t) (λ k (i : k < MOST_CYCLES - t). quiet_to k (omega (arith, i, is_d, more)))

  -- one cycle of the units without an event, as the code does it
  pub rest_turn : (s : Touched D) (t d : ℕ) → s.cycle ≡ t → FirstDue m s.units.devices s.cycle d → t < d →
      record s { units = record (s.units) { devices = steps m s.units.devices s.cycle (t + 1 - s.cycle) }; cycle = t + 1 } ≡ record s { units = units_step m s.units t s.held s.held; cycle = t + 1 }
  rest_turn s t d here first less = ap (λ (x : D). record s { units = record (s.units) { devices = x }; cycle = t + 1 }) (rest_is s t d here first less).2

  pub rest_pads : (s : Touched D) (t d p : ℕ) → s.cycle ≡ t → FirstDue m s.units.devices s.cycle d → t < d → m.pad (m.step s.units.devices t (pins s.held) (pins s.held)) p ≡ m.pad s.units.devices p
  rest_pads s t d p here first less = laws.keeps_pad s.units.devices t (pins s.held) p (rest_is s t d here first less).1

  pub rest_silent : (s : Touched D) (t d : ℕ) → s.cycle ≡ t → FirstDue m s.units.devices s.cycle d → t < d → None ≡ m.sends s.units.devices t
  rest_silent s t d here first less = sym (laws.keeps_silent s.units.devices t (rest_is s t d here first less).1)

  -- a requested vector that is entered is one
  pub enters_some : (s : Mcu D) (b : Bool) → b ≡ enters m s → b ≡ true → request m s.units s.held < 26
  enters_some s b is h =
      let x : nat_lt (request m s.units s.held) 26 ≡ true = (and_parts _ _ (sym is ∙ h)).1 in
      grind (arith, nat_tests, x)
