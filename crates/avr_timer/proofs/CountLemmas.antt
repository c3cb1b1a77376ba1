-- Ticks without an event in closed form, and the first one that has one.
use Rattle.std.proofs.Common.{◌≡◌, ℕ, zero, suc, ◌+◌, ◌-◌, ◌<◌, ◌≤◌, ◌∙◌, ◌⊎◌, inl, inr, Bool, true, false, refl, arith, ap, sym, subst, ◌&&◌, ◌||◌, nat_lt}
use Rattle.std.specs.Prelude.{◌==◌, not, if◌then◌else◌}
use Rattle.std.proofs.lemmas.Bool.Decides.{nat_tests}
use Rattle.std.proofs.lemmas.Bool.{cases_Bool}
use Rattle.sim_base.proofs.BoolLemmas.{or_off}
use Rattle.avr_timer.specs.declared.mode.Kind.{Kind}
use Rattle.avr_timer.specs.declared.mode.Kind.TheVariants.{Normal, Ctc, Fast, Phase, PhaseFrequency}
use Rattle.avr_timer.specs.declared.mode.Top.{Top}
use Rattle.avr_timer.specs.declared.mode.Top.TheVariants.{Ocr, Icr, Fixed}
use Rattle.avr_timer.specs.declared.mode.Com.{Com}
use Rattle.avr_timer.specs.declared.mode.Com.TheVariants.{Off, Toggle, Clear, Set}
use Rattle.avr_timer.specs.declared.mode.Mode.{Mode}
use Rattle.avr_timer.specs.declared.channel.Channel.{Channel}
use Rattle.avr_timer.specs.declared.counter.Counter.{Counter}
use Rattle.avr_timer.specs.Count.{top_by, top_of, turned, direction, plain_act, fast_act, phase_act, pin_act, overflows, upward, slope, next, loads, compared, tick, has_event, ticks}
use Rattle.avr_timer.specs.Modes.{is_icr}
use Rattle.avr_timer.specs.Counted.{Fits, FixedFits, IsMode, Holds, IsRow, lesser, least, ahead, behind, last, icr_or, wait_up, wait_down, is_back, forward, wait, place, counted}
use Rattle.avr_timer.specs.Modes.{is_phase}

-- Bool

-- five tests of which none holds, or one
pub record None5 (a b c d e : Bool) : Type 0 where
  pub i : a ≡ false
  pub ii : b ≡ false
  pub iii : c ≡ false
  pub iv : d ≡ false
  pub v : e ≡ false

none5 : (a b c d e : Bool) → (a || b || c || d || e) ≡ false → None5 a b c d e
none5 false false false false false h = record { i = refl; ii = refl; iii = refl; iv = refl; v = refl }
none5 true b c d e h = cc
none5 false true c d e h = cc
none5 false false true d e h = cc
none5 false false false true e h = cc
none5 false false false false true h = cc

all5 : (a b c d e : Bool) → None5 a b c d e → (a || b || c || d || e) ≡ false
all5 a b c d e h = rw h.i (rw h.ii (rw h.iii (rw h.iv (rw h.v refl))))

one5 : (a b c d e : Bool) → a ≡ true → (a || b || c || d || e) ≡ true
one5 true b c d e h = refl
one5 false b c d e h = cc

two5 : (a b c d e : Bool) → b ≡ true → (a || b || c || d || e) ≡ true
two5 true b c d e h = refl
two5 false true c d e h = refl
two5 false false c d e h = cc

three5 : (a b c d e : Bool) → c ≡ true → (a || b || c || d || e) ≡ true
three5 true b c d e h = refl
three5 false true c d e h = refl
three5 false false true d e h = refl
three5 false false false d e h = cc

four5 : (a b c d e : Bool) → d ≡ true → (a || b || c || d || e) ≡ true
four5 true b c d e h = refl
four5 false true c d e h = refl
four5 false false true d e h = refl
four5 false false false true e h = refl
four5 false false false false e h = cc

five5 : (a b c d e : Bool) → e ≡ true → (a || b || c || d || e) ≡ true
five5 true b c d e h = refl
five5 false true c d e h = refl
five5 false false true d e h = refl
five5 false false false true e h = refl
five5 false false false false e h = h

-- a tick without an event

plain_quiet : (how : Com) (latch : Bool) → plain_act how false latch ≡ latch
plain_quiet Off latch = refl
plain_quiet Toggle latch = refl
plain_quiet Clear latch = refl
plain_quiet Set latch = refl

fast_quiet : (how : Com) (latch : Bool) → fast_act how false false latch ≡ latch
fast_quiet Off latch = refl
fast_quiet Toggle latch = refl
fast_quiet Clear latch = refl
fast_quiet Set latch = refl

phase_quiet : (how : Com) (down latch : Bool) → phase_act how false down latch ≡ latch
phase_quiet Off down latch = refl
phase_quiet Toggle down latch = refl
phase_quiet Clear down latch = refl
phase_quiet Set down latch = refl

pin_quiet : (kind : Kind) (how : Com) (top c : ℕ) (down latch : Bool) → loads kind top c ≡ false → pin_act kind how false (c == top) down latch ≡ latch
pin_quiet Normal how top c down latch h = plain_quiet how latch
pin_quiet Ctc how top c down latch h = plain_quiet how latch
pin_quiet Fast how top c down latch h = ap (λ x. fast_act how false x latch) h ∙ fast_quiet how latch
pin_quiet Phase how top c down latch h = phase_quiet how down latch
pin_quiet PhaseFrequency how top c down latch h = phase_quiet how down latch

channel_quiet : (kind : Kind) (how : Com) (top c : ℕ) (down : Bool) (ch : Channel) → (c == ch.active) ≡ false → loads kind top c ≡ false →
    compared kind how top c down ch ≡ ch
channel_quiet kind how top c down ch none still =
    ap (λ (x : Bool). record ch { flag = ch.flag || x; latch = pin_act kind how x (c == top) down ch.latch; active = if loads kind top c then ch.written else ch.active }) none
    ∙ ap (λ (x : Bool). record ch { flag = ch.flag || false; latch = pin_act kind how false (c == top) down ch.latch; active = if x then ch.written else ch.active }) still
    ∙ ap (λ (x : Bool). record ch { flag = x; latch = pin_act kind how false (c == top) down ch.latch }) (or_off ch.flag false refl)
    ∙ ap (λ (x : Bool). record ch { latch = x }) (pin_quiet kind how top c down ch.latch still)

-- It changes the count and the direction alone.
pub quiet_tick : (m : Mode) (s : Counter) → has_event m s ≡ false →
    tick m s ≡ record s {
      count = next m.kind m.greatest (top_of m s) s.count (direction m.kind (top_of m s) s.count s.down);
      down = direction m.kind (top_of m s) s.count s.down;
    }
quiet_tick m s h =
    let c = s.count in
    let top = top_of m s in
    let down = direction m.kind top c s.down in
    let none = none5 (c == s.a.active) (c == s.b.active) (is_icr m.top && (c == s.icr)) (overflows m.kind m.greatest top c) (loads m.kind top c) h in
    let go : Channel → Channel → Bool → Bool → Counter = λ a b icf tov. record s { down = down; a = a; b = b; icf = icf; tov = tov; count = next m.kind m.greatest top c down } in
    let icf = s.icf || (is_icr m.top && (c == s.icr)) in
    let tov = s.tov || overflows m.kind m.greatest top c in
    let b = compared m.kind m.com_b top c down s.b in
    ap (λ (x : Channel). go x b icf tov) (channel_quiet m.kind m.com_a top c down s.a none.i none.v)
    ∙ ap (λ (x : Channel). go s.a x icf tov) (channel_quiet m.kind m.com_b top c down s.b none.ii none.v)
    ∙ ap (λ (x : Bool). go s.a s.b x tov) (or_off s.icf (is_icr m.top && (c == s.icr)) none.iii)
    ∙ ap (λ (x : Bool). go s.a s.b s.icf x) (or_off s.tov (overflows m.kind m.greatest top c) none.iv)

-- arithmetic of the wheel

lesser_left : (a b k : ℕ) → k < lesser a b → k < a
lesser_left a b k h = grind (arith, nat_tests)

lesser_right : (a b k : ℕ) → k < lesser a b → k < b
lesser_right a b k h = grind (arith, nat_tests)

lesser_is : (a b : ℕ) → (lesser a b ≡ a) ⊎ (lesser a b ≡ b)
lesser_is a b = grind (arith, nat_tests)

ahead_none : (g c x k : ℕ) → c ≤ g → x ≤ g → k < ahead g c x → (forward g c k == x) ≡ false
ahead_none g c x k p q h = grind (arith, nat_tests)

ahead_there : (g c x k : ℕ) → c ≤ g → x ≤ g → k ≡ ahead g c x → (forward g c k == x) ≡ true
ahead_there g c x k p q h = grind (arith, nat_tests)

behind_none : (g c x k : ℕ) → c ≤ g → x ≤ g → k ≤ c → k < behind g c x → (c - k == x) ≡ false
behind_none g c x k p q l h = grind (arith, nat_tests)

behind_there : (g c x k : ℕ) → c ≤ g → x ≤ g → k ≤ c → k ≡ behind g c x → (c - k == x) ≡ true
behind_there g c x k p q l h = grind (arith, nat_tests)

record Below4 (k w x y z : ℕ) : Type 0 where
  pub i : k < w
  pub ii : k < x
  pub iii : k < y
  pub iv : k < z

least_below : (w x y z k : ℕ) → k < least w x y z → Below4 k w x y z
least_below w x y z k h =
    let l = lesser_left (lesser w x) (lesser y z) k h in
    let r = lesser_right (lesser w x) (lesser y z) k h in
    record { i = lesser_left w x k l; ii = lesser_right w x k l; iii = lesser_left y z k r; iv = lesser_right y z k r }

least_is : (w x y z : ℕ) → (least w x y z ≡ w) ⊎ ((least w x y z ≡ x) ⊎ ((least w x y z ≡ y) ⊎ (least w x y z ≡ z)))
least_is w x y z = elim (lesser_is (lesser w x) (lesser y z)) [
  | inl l ↦ elim (lesser_is w x) [
    | inl h ↦ inl (l ∙ h)
    | inr h ↦ inr (inl (l ∙ h))
  ]
  | inr r ↦ elim (lesser_is y z) [
    | inl h ↦ inr (inr (inl (r ∙ h)))
    | inr h ↦ inr (inr (inr (r ∙ h)))
  ]
]

-- the tests of a tick by the candidates

icr_none : (top : Top) (p icr other : ℕ) → (p == icr_or top icr other) ≡ false → (is_icr top && (p == icr)) ≡ false
icr_none Ocr p icr other h = refl
icr_none Icr p icr other h = h
icr_none (Fixed n) p icr other h = refl

icr_there : (top : Top) (p icr other : ℕ) → (p == icr_or top icr other) ≡ true → ((is_icr top && (p == icr)) ≡ true) ⊎ ((p == other) ≡ true)
icr_there Ocr p icr other h = inr h
icr_there Icr p icr other h = inl h
icr_there (Fixed n) p icr other h = inr h

icr_fits : (top : Top) (icr other g : ℕ) → icr ≤ g → other ≤ g → icr_or top icr other ≤ g
icr_fits Ocr icr other g h k = k
icr_fits Icr icr other g h k = h
icr_fits (Fixed n) icr other g h k = k

last_fits : (kind : Kind) (g t : ℕ) → t ≤ g → last kind g t ≤ g
last_fits Normal g t h = omega arith
last_fits Ctc g t h = omega arith
last_fits Fast g t h = h
last_fits Phase g t h = h
last_fits PhaseFrequency g t h = h

over_none : (kind : Kind) (g t p : ℕ) → is_phase kind ≡ false → (p == last kind g t) ≡ false → overflows kind g t p ≡ false
over_none Normal g t p flat h = h
over_none Ctc g t p flat h = h
over_none Fast g t p flat h = h
over_none Phase g t p flat h = cc
over_none PhaseFrequency g t p flat h = cc

load_none : (kind : Kind) (g t p : ℕ) → is_phase kind ≡ false → (p == last kind g t) ≡ false → loads kind t p ≡ false
load_none Normal g t p flat h = refl
load_none Ctc g t p flat h = refl
load_none Fast g t p flat h = h
load_none Phase g t p flat h = cc
load_none PhaseFrequency g t p flat h = cc

-- TOP has an event in each row
top_none : (kind : Kind) (top : Top) (g a icr p : ℕ) → IsRow kind top g → (p == a) ≡ false → (is_icr top && (p == icr)) ≡ false →
    overflows kind g (top_by top a icr) p ≡ false → loads kind (top_by top a icr) p ≡ false → (p == top_by top a icr) ≡ false
top_none Normal top g a icr p row x y over load = ap (λ (t : Top). p == top_by t a icr) row ∙ over
top_none Ctc Ocr g a icr p row x y over load = x
top_none Ctc Icr g a icr p row x y over load = y
top_none Ctc (Fixed n) g a icr p row x y over load = cc
top_none Fast top g a icr p row x y over load = over
top_none Phase top g a icr p row x y over load = at_least p (top_by top a icr) load
  where
    at_least : (p t : ℕ) → not (nat_lt p t) ≡ false → (p == t) ≡ false
    at_least p t h = grind (arith, nat_tests)
top_none PhaseFrequency Ocr g a icr p row x y over load = x
top_none PhaseFrequency Icr g a icr p row x y over load = y
top_none PhaseFrequency (Fixed n) g a icr p row x y over load = cc

-- a run: the counts p 0, p 1 .. up to the first event, in the direction that the first tick takes
pub record Run (m : Mode) (s : Counter) (p : ℕ → ℕ) (n : ℕ) : Type 0 where
  pub start : p 0 ≡ s.count
  pub none : (k : ℕ) → k < n → has_event m (record s { count = p k }) ≡ false
  pub next : (k : ℕ) → k < n → next m.kind m.greatest (top_of m s) (p k) (direction m.kind (top_of m s) s.count s.down) ≡ p (k + 1)
  pub turn : (k : ℕ) → k < n → direction m.kind (top_of m s) (p k) (direction m.kind (top_of m s) s.count s.down) ≡ direction m.kind (top_of m s) s.count s.down
  pub place : (k : ℕ) → 0 < k → k ≤ n → place m s k ≡ p k
  pub there : has_event m (record s { count = p n }) ≡ true

counted_none : (m : Mode) (s : Counter) (k : ℕ) → k ≡ 0 → counted m s k ≡ s
counted_none m s k h = ap (counted m s) h

counted_some : (m : Mode) (s : Counter) (k : ℕ) → 0 < k → counted m s k ≡ record s { count = place m s k; down = direction m.kind (top_of m s) s.count s.down }
counted_some m s k h = let e : (k == 0) ≡ false = grind (arith, nat_tests) in rw e refl

zero_or : (k : ℕ) → (k ≡ 0) ⊎ (0 < k)
zero_or k = grind arith

-- one tick of a run
run_step : (m : Mode) (s : Counter) (p : ℕ → ℕ) (n k : ℕ) → Run m s p n → k < n → tick m (counted m s k) ≡ counted m s (k + 1)
run_step m s p n k run less =
    let t = top_of m s in
    let d = direction m.kind t s.count s.down in
    let q : ℕ = p (k + 1) in
    let end : counted m s (k + 1) ≡ record s { count = q; down = d } =
    counted_some m s (k + 1) (omega arith) ∙ ap (λ (x : ℕ). record s { count = x; down = d }) (run.place (k + 1) (omega arith) (omega (arith, less))) in
    elim (zero_or k) [
      | inl z ↦
          let at : p k ≡ s.count = ap p z ∙ run.start in
          let none : has_event m s ≡ false = subst (λ (x : ℕ). has_event m (record s { count = x }) ≡ false) at (run.none k less) in
          let go : next m.kind m.greatest t s.count d ≡ q = subst (λ (x : ℕ). next m.kind m.greatest t x d ≡ q) at (run.next k less) in
          ap (tick m) (counted_none m s k z) ∙ quiet_tick m s none ∙ ap (λ (x : ℕ). record s { count = x; down = d }) go ∙ sym end
      | inr more ↦
          let here : counted m s k ≡ record s { count = p k; down = d } =
          counted_some m s k more ∙ ap (λ (x : ℕ). record s { count = x; down = d }) (run.place k more (omega (arith, less))) in
          ap (tick m) here ∙ quiet_tick m (record s { count = p k; down = d }) (run.none k less)
          ∙ ap (λ (x : Bool). record s { count = next m.kind m.greatest t (p k) x; down = x }) (run.turn k less)
          ∙ ap (λ (x : ℕ). record s { count = x; down = d }) (run.next k less) ∙ sym end
    ]

pub run_ticks : (m : Mode) (s : Counter) (p : ℕ → ℕ) (n k : ℕ) → Run m s p n → k ≤ n → ticks m s k ≡ counted m s k
unfolding ticks
run_ticks m s p n zero run le = sym (counted_none m s 0 refl)
run_ticks m s p n (suc k) run le =
    let e : k + 1 ≡ suc k = omega arith in
    ap (tick m) (run_ticks m s p n k run (omega (arith, le))) ∙ run_step m s p n k run (omega (arith, le)) ∙ ap (counted m s) e

-- has_event of a counted state
run_event : (m : Mode) (s : Counter) (p : ℕ → ℕ) (n k : ℕ) → Run m s p n → k ≤ n → has_event m (counted m s k) ≡ has_event m (record s { count = p k })
run_event m s p n k run le = elim (zero_or k) [
  | inl z ↦
      let at : s.count ≡ p k = sym (ap p z ∙ run.start) in
      ap (has_event m) (counted_none m s k z) ∙ ap (λ (x : ℕ). has_event m (record s { count = x })) at
  | inr more ↦ ap (has_event m) (counted_some m s k more) ∙ ap (λ (x : ℕ). has_event m (record s { count = x })) (run.place k more le)
]

-- what a tick's five tests are
tests : (m : Mode) (s : Counter) (p : ℕ) → None5 (p == s.a.active) (p == s.b.active) (is_icr m.top && (p == s.icr)) (overflows m.kind m.greatest (top_of m s) p) (loads m.kind (top_of m s) p) →
    has_event m (record s { count = p }) ≡ false
tests m s p h = all5 (p == s.a.active) (p == s.b.active) (is_icr m.top && (p == s.icr)) (overflows m.kind m.greatest (top_of m s) p) (loads m.kind (top_of m s) p) h

parts : (m : Mode) (s : Counter) (p : ℕ) → has_event m (record s { count = p }) ≡ false →
    None5 (p == s.a.active) (p == s.b.active) (is_icr m.top && (p == s.icr)) (overflows m.kind m.greatest (top_of m s) p) (loads m.kind (top_of m s) p)
parts m s p h = none5 (p == s.a.active) (p == s.b.active) (is_icr m.top && (p == s.icr)) (overflows m.kind m.greatest (top_of m s) p) (loads m.kind (top_of m s) p) h

-- one of the tests holds
hit_a : (m : Mode) (s : Counter) (p : ℕ) → (p == s.a.active) ≡ true → has_event m (record s { count = p }) ≡ true
hit_a m s p h = one5 (p == s.a.active) (p == s.b.active) (is_icr m.top && (p == s.icr)) (overflows m.kind m.greatest (top_of m s) p) (loads m.kind (top_of m s) p) h

hit_b : (m : Mode) (s : Counter) (p : ℕ) → (p == s.b.active) ≡ true → has_event m (record s { count = p }) ≡ true
hit_b m s p h = two5 (p == s.a.active) (p == s.b.active) (is_icr m.top && (p == s.icr)) (overflows m.kind m.greatest (top_of m s) p) (loads m.kind (top_of m s) p) h

hit_icr : (m : Mode) (s : Counter) (p : ℕ) → (is_icr m.top && (p == s.icr)) ≡ true → has_event m (record s { count = p }) ≡ true
hit_icr m s p h = three5 (p == s.a.active) (p == s.b.active) (is_icr m.top && (p == s.icr)) (overflows m.kind m.greatest (top_of m s) p) (loads m.kind (top_of m s) p) h

hit_tov : (m : Mode) (s : Counter) (p : ℕ) → overflows m.kind m.greatest (top_of m s) p ≡ true → has_event m (record s { count = p }) ≡ true
hit_tov m s p h = four5 (p == s.a.active) (p == s.b.active) (is_icr m.top && (p == s.icr)) (overflows m.kind m.greatest (top_of m s) p) (loads m.kind (top_of m s) p) h

hit_load : (m : Mode) (s : Counter) (p : ℕ) → loads m.kind (top_of m s) p ≡ true → has_event m (record s { count = p }) ≡ true
hit_load m s p h = five5 (p == s.a.active) (p == s.b.active) (is_icr m.top && (p == s.icr)) (overflows m.kind m.greatest (top_of m s) p) (loads m.kind (top_of m s) p) h

-- forward: the candidates, and one of them
up_at : (m : Mode) (s : Counter) → Fits m s → (has_event m (record s { count = last m.kind m.greatest (top_of m s) }) ≡ true) →
    has_event m (record s { count = forward m.greatest s.count (wait_up m s) }) ≡ true
up_at m s fits ends =
    let g = m.greatest in
    let c = s.count in
    let end = last m.kind g (top_of m s) in
    let n : ℕ = wait_up m s in
    let p : ℕ = forward g c n in
    let end_fits : end ≤ g = last_fits m.kind g (top_of m s) fits.top in
    let icr_fit : icr_or m.top s.icr end ≤ g = icr_fits m.top s.icr end g fits.icr end_fits in
    let at_end : (p == end) ≡ true → has_event m (record s { count = p }) ≡ true = λ h.
    subst (λ (x : ℕ). has_event m (record s { count = x }) ≡ true) (sym (same p end h)) ends in
    elim (least_is (ahead g c s.a.active) (ahead g c s.b.active) (ahead g c (icr_or m.top s.icr end)) (ahead g c end)) [
      | inl h ↦ hit_a m s p (ahead_there g c s.a.active n fits.count fits.a h)
      | inr (inl h) ↦ hit_b m s p (ahead_there g c s.b.active n fits.count fits.b h)
      | inr (inr (inl h)) ↦ elim (icr_there m.top p s.icr end (ahead_there g c (icr_or m.top s.icr end) n fits.count icr_fit h)) [
        | inl y ↦ hit_icr m s p y
        | inr y ↦ at_end y
      ]
      | inr (inr (inr h)) ↦ at_end (ahead_there g c end n fits.count end_fits h)
    ]
  where
    same : (a b : ℕ) → (a == b) ≡ true → a ≡ b
    same a b h = grind (arith, nat_tests)

-- the tests before it
pub record Passes (m : Mode) (s : Counter) (p end : ℕ) : Type 0 where
  pub a : (p == s.a.active) ≡ false
  pub b : (p == s.b.active) ≡ false
  pub icr : (is_icr m.top && (p == s.icr)) ≡ false
  pub last : (p == end) ≡ false

up_passes : (m : Mode) (s : Counter) (k : ℕ) → Fits m s → k < wait_up m s → Passes m s (forward m.greatest s.count k) (last m.kind m.greatest (top_of m s))
up_passes m s k fits less =
    let g = m.greatest in
    let c = s.count in
    let end = last m.kind g (top_of m s) in
    let end_fits : end ≤ g = last_fits m.kind g (top_of m s) fits.top in
    let icr_fit : icr_or m.top s.icr end ≤ g = icr_fits m.top s.icr end g fits.icr end_fits in
    let l = least_below (ahead g c s.a.active) (ahead g c s.b.active) (ahead g c (icr_or m.top s.icr end)) (ahead g c end) k less in
    record {
      a = ahead_none g c s.a.active k fits.count fits.a l.i;
      b = ahead_none g c s.b.active k fits.count fits.b l.ii;
      icr = icr_none m.top (forward g c k) s.icr end (ahead_none g c (icr_or m.top s.icr end) k fits.count icr_fit l.iii);
      last = ahead_none g c end k fits.count end_fits l.iv;
    }

up_short : (m : Mode) (s : Counter) (k : ℕ) → k < wait_up m s → k < ahead m.greatest s.count (last m.kind m.greatest (top_of m s))
up_short m s k less =
    let end = last m.kind m.greatest (top_of m s) in
    (least_below (ahead m.greatest s.count s.a.active) (ahead m.greatest s.count s.b.active) (ahead m.greatest s.count (icr_or m.top s.icr end)) (ahead m.greatest s.count end) k less).iv

-- normal, CTC and fast kinds

flat_last : (kind : Kind) (top : Top) (g a icr : ℕ) → is_phase kind ≡ false → overflows kind g (top_by top a icr) (last kind g (top_by top a icr)) ≡ true
flat_last Normal top g a icr h = is_self g
  where
    is_self : (x : ℕ) → (x == x) ≡ true
    is_self x = grind (arith, nat_tests)
flat_last Ctc top g a icr h = is_self g
  where
    is_self : (x : ℕ) → (x == x) ≡ true
    is_self x = grind (arith, nat_tests)
flat_last Fast top g a icr h = is_self (top_by top a icr)
  where
    is_self : (x : ℕ) → (x == x) ≡ true
    is_self x = grind (arith, nat_tests)
flat_last Phase top g a icr h = cc
flat_last PhaseFrequency top g a icr h = cc

upward_next : (g t c k : ℕ) → c ≤ g → k < g + 1 → (forward g c k == t) ≡ false → upward g t (forward g c k) ≡ forward g c (k + 1)
upward_next g t c k fits short none = ap (λ (b : Bool). if b || (forward g c k == g) then 0 else forward g c k + 1) none ∙ wraps g c k fits short
  where
    wraps : (g c k : ℕ) → c ≤ g → k < g + 1 → (if forward g c k == g then 0 else forward g c k + 1) ≡ forward g c (k + 1)
    wraps g c k fits short = grind (arith, nat_tests)

flat_next : (kind : Kind) (g t c k : ℕ) (down : Bool) → is_phase kind ≡ false → c ≤ g → k < g + 1 → (forward g c k == t) ≡ false →
    next kind g t (forward g c k) down ≡ forward g c (k + 1)
flat_next Normal g t c k down flat fits short none = upward_next g t c k fits short none
flat_next Ctc g t c k down flat fits short none = upward_next g t c k fits short none
flat_next Fast g t c k down flat fits short none = upward_next g t c k fits short none
flat_next Phase g t c k down flat fits short none = cc
flat_next PhaseFrequency g t c k down flat fits short none = cc

flat_dir : (kind : Kind) (t p : ℕ) (d : Bool) → is_phase kind ≡ false → direction kind t p d ≡ d
flat_dir Normal t p d h = refl
flat_dir Ctc t p d h = refl
flat_dir Fast t p d h = refl
flat_dir Phase t p d h = cc
flat_dir PhaseFrequency t p d h = cc

forward_none : (g c : ℕ) → c ≤ g → forward g c 0 ≡ c
forward_none g c h = grind (arith, nat_tests)

ahead_short : (g c x k : ℕ) → c ≤ g → x ≤ g → k < ahead g c x → k < g + 1
ahead_short g c x k p q h = grind (arith, nat_tests)

place_up : (m : Mode) (s : Counter) (k : ℕ) → is_back m s ≡ false → place m s k ≡ forward m.greatest s.count k
place_up m s k h = rw h refl

-- forward in normal, CTC and fast kinds
flat_run : (m : Mode) (s : Counter) → Fits m s → is_phase m.kind ≡ false → is_back m s ≡ false → Run m s (forward m.greatest s.count) (wait_up m s)
flat_run m s fits flat up =
    let g = m.greatest in
    let c = s.count in
    let t = top_of m s in
    let end = last m.kind g t in
    let tests_of : (k : ℕ) → k < wait_up m s → None5 (forward g c k == s.a.active) (forward g c k == s.b.active) (is_icr m.top && (forward g c k == s.icr)) (overflows m.kind g t (forward g c k)) (loads m.kind t (forward g c k)) = λ k less.
    let pass = up_passes m s k fits less in
    record { i = pass.a; ii = pass.b; iii = pass.icr; iv = over_none m.kind g t (forward g c k) flat pass.last; v = load_none m.kind g t (forward g c k) flat pass.last } in
    record {
      start = forward_none g c fits.count;
      none = λ k less. tests m s (forward g c k) (tests_of k less);
      next = λ k less.
          let n = tests_of k less in
          let short : k < g + 1 = ahead_short g c end k fits.count (last_fits m.kind g t fits.top) (up_short m s k less) in
          flat_next m.kind g t c k (direction m.kind t c s.down) flat fits.count short (top_none m.kind m.top g s.a.active s.icr (forward g c k) fits.row n.i n.iii n.iv n.v);
      turn = λ k less. flat_dir m.kind t (forward g c k) (direction m.kind t c s.down) flat;
      place = λ k more le. place_up m s k up;
      there = up_at m s fits (hit_tov m s end (flat_last m.kind m.top g s.a.active s.icr flat));
    }

-- phase kinds

not_zero : (p : ℕ) → 0 < p → (p == 0) ≡ false
not_zero p h = grind (arith, nat_tests)

above_zero : (p : ℕ) → (p == 0) ≡ false → 0 < p
above_zero p h = grind (arith, nat_tests)

below_top : (p t : ℕ) → p < t → not (nat_lt p t) ≡ false
below_top p t h = grind (arith, nat_tests)

still_below : (t c p : ℕ) → not (nat_lt c t) ≡ false → p ≤ c → not (nat_lt p t) ≡ false
still_below t c p h k = grind (arith, nat_tests)

turned_up : (t p : ℕ) → 0 < p → p < t → turned t p false ≡ false
turned_up t p l k = grind (arith, nat_tests)

turned_down : (t p : ℕ) → 0 < p → turned t p true ≡ true
turned_down t p l = grind (arith, nat_tests)

turned_below : (t c : ℕ) (d : Bool) → turned t c d ≡ false → c < t
turned_below t c d h = grind (arith, nat_tests)

slope_up : (t p : ℕ) → 0 < t → slope t p false ≡ p + 1
slope_up t p h = grind (arith, nat_tests)

slope_down : (t p : ℕ) → 0 < t → slope t p true ≡ p - 1
slope_down t p h = grind (arith, nat_tests)

-- what both phase kinds have in common
pub record Phasic (kind : Kind) (g t : ℕ) : Type 0 where
  pub ends : last kind g t ≡ t
  pub over : (p : ℕ) → 0 < p → overflows kind g t p ≡ false
  pub from : (p : ℕ) → overflows kind g t p ≡ false → 0 < p
  pub bottom : overflows kind g t 0 ≡ true
  pub load : (p : ℕ) → 0 < p → p < t → loads kind t p ≡ false
  pub back : (c p : ℕ) → loads kind t c ≡ false → 0 < p → p ≤ c → loads kind t p ≡ false
  pub up : (p : ℕ) → 0 < p → p < t → direction kind t p false ≡ false
  pub down : (p : ℕ) → 0 < p → direction kind t p true ≡ true
  pub below : (c : ℕ) (d : Bool) → direction kind t c d ≡ false → c < t
  pub goes : (p : ℕ) (d : Bool) → next kind g t p d ≡ slope t p d

phasic : (kind : Kind) (g t : ℕ) → is_phase kind ≡ true → Phasic kind g t
phasic Normal g t h = cc
phasic Ctc g t h = cc
phasic Fast g t h = cc
phasic Phase g t h = record {
  ends = refl;
  over = not_zero;
  from = above_zero;
  bottom = refl;
  load = λ p l k. below_top p t k;
  back = λ c p load l k. still_below t c p load k;
  up = turned_up t;
  down = turned_down t;
  below = turned_below t;
  goes = λ p d. refl;
}
phasic PhaseFrequency g t h = record {
  ends = refl;
  over = not_zero;
  from = above_zero;
  bottom = refl;
  load = λ p l k. not_zero p l;
  back = λ c p load l k. not_zero p l;
  up = turned_up t;
  down = turned_down t;
  below = turned_below t;
  goes = λ p d. refl;
}

-- the turn at TOP has an event
phase_top : (m : Mode) (s : Counter) → Fits m s → is_phase m.kind ≡ true → has_event m (record s { count = top_of m s }) ≡ true
phase_top m s fits h = elim (by_row m.kind m.top m.greatest s.a.active s.icr h fits.row) [
  | inl x ↦ hit_a m s (top_of m s) x
  | inr (inl x) ↦ hit_icr m s (top_of m s) x
  | inr (inr x) ↦ hit_load m s (top_of m s) x
]
  where
    is_self : (x : ℕ) → (x == x) ≡ true
    is_self x = grind (arith, nat_tests)

    at_self : (x : ℕ) → not (nat_lt x x) ≡ true
    at_self x = grind (arith, nat_tests)

    by_row : (kind : Kind) (top : Top) (g a icr : ℕ) → is_phase kind ≡ true → IsRow kind top g →
        ((top_by top a icr == a) ≡ true) ⊎ (((is_icr top && (top_by top a icr == icr)) ≡ true) ⊎ (loads kind (top_by top a icr) (top_by top a icr) ≡ true))
    by_row Normal top g a icr h row = cc
    by_row Ctc top g a icr h row = cc
    by_row Fast top g a icr h row = cc
    by_row Phase top g a icr h row = inr (inr (at_self (top_by top a icr)))
    by_row PhaseFrequency Ocr g a icr h row = inl (is_self a)
    by_row PhaseFrequency Icr g a icr h row = inr (inl (is_self icr))
    by_row PhaseFrequency (Fixed n) g a icr h row = cc

forward_low : (g c k t : ℕ) → c < t → t ≤ g → k < ahead g c t → (forward g c k ≡ c + k) × (c + k < t) × (forward g c (k + 1) ≡ c + k + 1)
forward_low g c k t h l less = (grind (arith, nat_tests), grind (arith, nat_tests), grind (arith, nat_tests))

-- up
rise_run : (m : Mode) (s : Counter) → Fits m s → is_phase m.kind ≡ true → has_event m s ≡ false → direction m.kind (top_of m s) s.count s.down ≡ false → Run m s (forward m.greatest s.count) (wait_up m s)
rise_run m s fits phase quiet up =
    let g = m.greatest in
    let c = s.count in
    let t = top_of m s in
    let ph = phasic m.kind g t phase in
    let here = parts m s c quiet in
    let from : 0 < c = ph.from c here.iv in
    let below : c < t = ph.below c s.down up in
    let end : last m.kind g t ≡ t = ph.ends in
    let back : is_back m s ≡ false = rw phase up in
    let low : (k : ℕ) → k < wait_up m s → (forward g c k ≡ c + k) × (c + k < t) × (forward g c (k + 1) ≡ c + k + 1) = λ k less.
    forward_low g c k t below fits.top (subst (λ (x : ℕ). k < ahead g c x) end (up_short m s k less)) in
    record {
      start = forward_none g c fits.count;
      none = λ k less.
          let pass = up_passes m s k fits less in
          let l = low k less in
          let p : ℕ = forward g c k in
          let e : p ≡ c + k = l.0 in
          let lt : c + k < t = l.1 in
          let more : 0 < p = omega arith in
          let under : p < t = omega arith in
          tests m s p (record { i = pass.a; ii = pass.b; iii = pass.icr; iv = ph.over p more; v = ph.load p more under });
      next = λ k less.
          let l = low k less in
          let p : ℕ = forward g c k in
          let some : 0 < t = omega (arith, below) in
          ap (λ (d : Bool). next m.kind g t p d) up ∙ ph.goes p false ∙ slope_up t p some ∙ ap (λ (x : ℕ). x + 1) l.0 ∙ sym l.2;
      turn = λ k less.
          let l = low k less in
          let p : ℕ = forward g c k in
          let e : p ≡ c + k = l.0 in
          let lt : c + k < t = l.1 in
          let more : 0 < p = omega arith in
          let under : p < t = omega arith in
          ap (direction m.kind t p) up ∙ ph.up p more under ∙ sym up;
      place = λ k more le. place_up m s k back;
      there = up_at m s fits (subst (λ (x : ℕ). has_event m (record s { count = x }) ≡ true) (sym end) (phase_top m s fits phase));
    }

down_four : (m : Mode) (s : Counter) (k : ℕ) → k < wait_down m s →
    Below4 k (behind m.greatest s.count s.a.active) (behind m.greatest s.count s.b.active) (behind m.greatest s.count (icr_or m.top s.icr 0)) s.count
down_four m s k less = least_below (behind m.greatest s.count s.a.active) (behind m.greatest s.count s.b.active) (behind m.greatest s.count (icr_or m.top s.icr 0)) s.count k less

lesser_low : (a b : ℕ) → lesser a b ≤ b
lesser_low a b = grind (arith, nat_tests)

down_low : (m : Mode) (s : Counter) → wait_down m s ≤ s.count
down_low m s =
    let w : ℕ = lesser (behind m.greatest s.count s.a.active) (behind m.greatest s.count s.b.active) in
    let y : ℕ = lesser (behind m.greatest s.count (icr_or m.top s.icr 0)) s.count in
    let i : lesser w y ≤ y = lesser_low w y in
    let j : y ≤ s.count = lesser_low (behind m.greatest s.count (icr_or m.top s.icr 0)) s.count in
    omega (arith, i, j)

down_at : (m : Mode) (s : Counter) → Fits m s → is_phase m.kind ≡ true → has_event m (record s { count = s.count - wait_down m s }) ≡ true
down_at m s fits phase =
    let g = m.greatest in
    let c = s.count in
    let n : ℕ = wait_down m s in
    let p : ℕ = c - n in
    let low : n ≤ c = down_low m s in
    let zero_fits : 0 ≤ g = omega arith in
    let icr_fit : icr_or m.top s.icr 0 ≤ g = icr_fits m.top s.icr 0 g fits.icr zero_fits in
    let at_zero : (p == 0) ≡ true → has_event m (record s { count = p }) ≡ true = λ h.
    hit_tov m s p (ap (λ (x : ℕ). overflows m.kind g (top_of m s) x) (same p 0 h) ∙ (phasic m.kind g (top_of m s) phase).bottom) in
    elim (least_is (behind g c s.a.active) (behind g c s.b.active) (behind g c (icr_or m.top s.icr 0)) c) [
      | inl h ↦ hit_a m s p (behind_there g c s.a.active n fits.count fits.a low h)
      | inr (inl h) ↦ hit_b m s p (behind_there g c s.b.active n fits.count fits.b low h)
      | inr (inr (inl h)) ↦ elim (icr_there m.top p s.icr 0 (behind_there g c (icr_or m.top s.icr 0) n fits.count icr_fit low h)) [
        | inl y ↦ hit_icr m s p y
        | inr y ↦ at_zero y
      ]
      | inr (inr (inr h)) ↦ at_zero (gone c n h)
    ]
  where
    same : (a b : ℕ) → (a == b) ≡ true → a ≡ b
    same a b h = grind (arith, nat_tests)

    gone : (c n : ℕ) → n ≡ c → (c - n == 0) ≡ true
    gone c n h = grind (arith, nat_tests)

is_none : (t : ℕ) → 0 < t → (t == 0) ≡ false
is_none t h = grind (arith, nat_tests)

place_down : (m : Mode) (s : Counter) (k : ℕ) → is_back m s ≡ true → 0 < top_of m s → place m s k ≡ s.count - k
place_down m s k h some = rw h (rw (is_none (top_of m s) some) refl)

-- down
fall_run : (m : Mode) (s : Counter) → Fits m s → is_phase m.kind ≡ true → has_event m s ≡ false → direction m.kind (top_of m s) s.count s.down ≡ true → 0 < top_of m s →
    Run m s (λ k. s.count - k) (wait_down m s)
fall_run m s fits phase quiet down some =
    let g = m.greatest in
    let c = s.count in
    let t = top_of m s in
    let ph = phasic m.kind g t phase in
    let here = parts m s c quiet in
    let back : is_back m s ≡ true = rw phase down in
    let low : wait_down m s ≤ c = down_low m s in
    let zero_fits : 0 ≤ g = omega arith in
    let icr_fit : icr_or m.top s.icr 0 ≤ g = icr_fits m.top s.icr 0 g fits.icr zero_fits in
    record {
      start = omega arith;
      none = λ k less.
          let l = down_four m s k less in
          let p : ℕ = c - k in
          let le : k ≤ c = omega (arith, low, less) in
          let more : 0 < p = omega (arith, low, less) in
          let under : p ≤ c = omega arith in
          tests m s p (record {
            i = behind_none g c s.a.active k fits.count fits.a le l.i;
            ii = behind_none g c s.b.active k fits.count fits.b le l.ii;
            iii = icr_none m.top p s.icr 0 (behind_none g c (icr_or m.top s.icr 0) k fits.count icr_fit le l.iii);
            iv = ph.over p more;
            v = ph.back c p here.v more under;
          });
      next = λ k less.
          let p : ℕ = c - k in
          let e : p - 1 ≡ c - (k + 1) = omega arith in
          ap (λ (d : Bool). next m.kind g t p d) down ∙ ph.goes p true ∙ slope_down t p some ∙ e;
      turn = λ k less.
          let p : ℕ = c - k in
          let more : 0 < p = omega (arith, low, less) in
          ap (direction m.kind t p) down ∙ ph.down p more ∙ sym down;
      place = λ k more le. place_down m s k back some;
      there = down_at m s fits phase;
    }

zero_run : (m : Mode) (s : Counter) → is_phase m.kind ≡ true → has_event m s ≡ false → direction m.kind (top_of m s) s.count s.down ≡ true → top_of m s ≡ 0 →
    Run m s (λ k. if k == 0 then s.count else 0) 1
zero_run m s phase quiet down none =
    let g = m.greatest in
    let c = s.count in
    let t = top_of m s in
    let ph = phasic m.kind g t phase in
    let here = parts m s c quiet in
    let from : 0 < c = ph.from c here.iv in
    let back : is_back m s ≡ true = rw phase down in
    let at : (k : ℕ) → k < 1 → (if k == 0 then c else 0) ≡ c = λ k less. let z : k ≡ 0 = omega (arith, less) in ap (λ (x : ℕ). if x == 0 then c else 0) z in
    record {
      start = refl;
      none = λ k less. ap (λ (x : ℕ). has_event m (record s { count = x })) (at k less) ∙ quiet;
      next = λ k less.
          let z : k ≡ 0 = omega (arith, less) in
          let p : ℕ = if k == 0 then c else 0 in
          ph.goes p (direction m.kind t c s.down) ∙ ap (λ (x : ℕ). slope x p (direction m.kind t c s.down)) none
          ∙ ap (λ (x : ℕ). if x + 1 == 0 then c else 0) (sym z);
      turn = λ k less.
          ap (λ (x : ℕ). direction m.kind t x (direction m.kind t c s.down)) (at k less) ∙ ap (direction m.kind t c) down ∙ ph.down c from ∙ sym down;
      place = λ k more le. place_zero k more back;
      there = hit_tov m s 0 (ph.bottom);
    }
  where
    place_zero : (k : ℕ) → 0 < k → is_back m s ≡ true → place m s k ≡ (if k == 0 then s.count else 0)
    place_zero k more back =
        let a : (top_of m s == 0) ≡ true = ap (λ (x : ℕ). x == 0) none in
        let b : (k == 0) ≡ false = is_none k more in
        rw back (rw a (rw b refl))

-- an event at once
held_run : (m : Mode) (s : Counter) → has_event m s ≡ true → Run m s (λ k. s.count) 0
held_run m s h = record {
  start = refl;
  none = λ k (less : k < 0). absurd (omega (arith, less));
  next = λ k (less : k < 0). absurd (omega (arith, less));
  turn = λ k (less : k < 0). absurd (omega (arith, less));
  place = λ k (more : 0 < k) (le : k ≤ 0). absurd (omega (arith, more, le));
  there = h;
}

-- each counter is in a run, of `wait` ticks
pub record Runs (m : Mode) (s : Counter) : Type 0 where
  pub counts : ℕ → ℕ
  pub run : Run m s counts (wait m s)

run_for : (m : Mode) (s : Counter) (p : ℕ → ℕ) (n : ℕ) → wait m s ≡ n → Run m s p n → Runs m s
run_for m s p n h run = record { counts = p; run = subst (λ (x : ℕ). Run m s p x) (sym h) run }

pub runs : (m : Mode) (s : Counter) → Fits m s → Runs m s
runs m s fits = elim (cases_Bool (has_event m s)) [
  | inl h ↦ run_for m s (λ k. s.count) 0 (rw h refl) (held_run m s h)
  | inr quiet ↦ elim (cases_Bool (is_phase m.kind)) [
    | inr flat ↦
        let up : is_back m s ≡ false = rw flat refl in
        run_for m s (forward m.greatest s.count) (wait_up m s) (rw quiet (rw up refl)) (flat_run m s fits flat up)
    | inl phase ↦ elim (cases_Bool (direction m.kind (top_of m s) s.count s.down)) [
      | inr up ↦
          let ahead : is_back m s ≡ false = rw phase up in
          run_for m s (forward m.greatest s.count) (wait_up m s) (rw quiet (rw ahead refl)) (rise_run m s fits phase quiet up)
      | inl down ↦
          let back : is_back m s ≡ true = rw phase down in
          elim (zero_or (top_of m s)) [
            | inl none ↦
                let z : (top_of m s == 0) ≡ true = ap (λ (x : ℕ). x == 0) none in
                run_for m s (λ k. if k == 0 then s.count else 0) 1 (rw quiet (rw back (rw z refl))) (zero_run m s phase quiet down none)
            | inr some ↦
                let z : (top_of m s == 0) ≡ false = is_none (top_of m s) some in
                run_for m s (λ k. s.count - k) (wait_down m s) (rw quiet (rw back (rw z refl))) (fall_run m s fits phase quiet down some)
          ]
    ]
  ]
]

-- The three facts. So many ticks leave what `counted` says,
pub ticks_counted : (m : Mode) (s : Counter) (k : ℕ) → Fits m s → k ≤ wait m s → ticks m s k ≡ counted m s k
ticks_counted m s k fits le = let r = runs m s fits in run_ticks m s r.counts (wait m s) k r.run le

-- none of them has an event,
pub none_before : (m : Mode) (s : Counter) (k : ℕ) → Fits m s → k < wait m s → has_event m (counted m s k) ≡ false
none_before m s k fits less = let r = runs m s fits in run_event m s r.counts (wait m s) k r.run (omega (arith, less)) ∙ r.run.none k less

-- and the next one has.
pub event_there : (m : Mode) (s : Counter) → Fits m s → has_event m (counted m s (wait m s)) ≡ true
event_there m s fits = let r = runs m s fits in run_event m s r.counts (wait m s) (wait m s) r.run (omega arith) ∙ r.run.there

-- a run back does not pass 0
pub back_low : (m : Mode) (s : Counter) (k : ℕ) → k ≤ wait m s → is_back m s ≡ true → (top_of m s ≡ 0 → ⊥) → k ≤ s.count
back_low m s k le back some = elim (cases_Bool (has_event m s)) [
  | inl h ↦ let w : wait m s ≡ 0 = rw h refl in omega (arith, le, w)
  | inr quiet ↦ elim (zero_or (top_of m s)) [
    | inl none ↦ absurd (some none)
    | inr more ↦
        let z : (top_of m s == 0) ≡ false = is_none (top_of m s) more in
        let w : wait m s ≡ wait_down m s = rw quiet (rw back (rw z refl)) in
        let low : wait_down m s ≤ s.count = down_low m s in
        omega (arith, le, w, low)
  ]
]

top_fits : (top : Top) (g a icr : ℕ) → FixedFits top g → a ≤ g → icr ≤ g → top_by top a icr ≤ g
top_fits Ocr g a icr fixed x y = x
top_fits Icr g a icr fixed x y = y
top_fits (Fixed n) g a icr fixed x y = fixed

pub fits_from : (m : Mode) (s : Counter) → IsMode m → Holds m.greatest s → Fits m s
fits_from m s mode holds = record {
  row = mode.row;
  top = top_fits m.top m.greatest s.a.active s.icr mode.fixed holds.a holds.icr;
  count = holds.count;
  a = holds.a;
  b = holds.b;
  icr = holds.icr;
}

-- the numbers stay in range
upward_fits : (g t c : ℕ) → c ≤ g → upward g t c ≤ g
upward_fits g t c h = elim (cases_Bool (c == t)) [
  | inl x ↦ let e : upward g t c ≡ 0 = rw x refl in omega (arith, e)
  | inr x ↦ elim (cases_Bool (c == g)) [
    | inl y ↦ let e : upward g t c ≡ 0 = rw x (rw y refl) in omega (arith, e)
    | inr y ↦ let e : upward g t c ≡ c + 1 = rw x (rw y refl) in less g t c h y e
  ]
]
  where
    less : (g t c : ℕ) → c ≤ g → (c == g) ≡ false → upward g t c ≡ c + 1 → upward g t c ≤ g
    less g t c h y e = let l : c + 1 ≤ g = grind (arith, nat_tests) in rw e l

slope_fits : (g t c : ℕ) (d : Bool) → c ≤ g → t ≤ g → slope t c (turned t c d) ≤ g
slope_fits g t c d h k = grind (arith, nat_tests)

next_fits : (kind : Kind) (g t c : ℕ) (d : Bool) → c ≤ g → t ≤ g → next kind g t c (direction kind t c d) ≤ g
next_fits Normal g t c d h k = upward_fits g t c h
next_fits Ctc g t c d h k = upward_fits g t c h
next_fits Fast g t c d h k = upward_fits g t c h
next_fits Phase g t c d h k = slope_fits g t c d h k
next_fits PhaseFrequency g t c d h k = slope_fits g t c d h k

either_fits : (b : Bool) (x y g : ℕ) → x ≤ g → y ≤ g → (if b then x else y) ≤ g
either_fits true x y g h k = h
either_fits false x y g h k = k

pub tick_holds : (m : Mode) (s : Counter) → IsMode m → Holds m.greatest s → Holds m.greatest (tick m s)
tick_holds m s mode holds = record {
  count = next_fits m.kind m.greatest (top_of m s) s.count s.down holds.count (fits_from m s mode holds).top;
  a = either_fits (loads m.kind (top_of m s) s.count) s.a.written s.a.active m.greatest holds.next_a holds.a;
  b = either_fits (loads m.kind (top_of m s) s.count) s.b.written s.b.active m.greatest holds.next_b holds.b;
  icr = holds.icr;
  next_a = holds.next_a;
  next_b = holds.next_b;
}

pub ticks_hold : (m : Mode) (s : Counter) (k : ℕ) → IsMode m → Holds m.greatest s → Holds m.greatest (ticks m s k)
unfolding ticks
ticks_hold m s zero mode holds = holds
ticks_hold m s (suc k) mode holds = tick_holds m (ticks m s k) mode (ticks_hold m s k mode holds)

ahead_low : (g c x : ℕ) → c ≤ g → x ≤ g → ahead g c x ≤ g
ahead_low g c x h k = grind (arith, nat_tests)

up_low : (m : Mode) (s : Counter) → Fits m s → wait_up m s ≤ m.greatest
up_low m s fits =
    let g = m.greatest in
    let end = last m.kind g (top_of m s) in
    let w : ℕ = lesser (ahead g s.count s.a.active) (ahead g s.count s.b.active) in
    let y : ℕ = lesser (ahead g s.count (icr_or m.top s.icr end)) (ahead g s.count end) in
    let i : lesser w y ≤ y = lesser_low w y in
    let j : y ≤ ahead g s.count end = lesser_low (ahead g s.count (icr_or m.top s.icr end)) (ahead g s.count end) in
    let k : ahead g s.count end ≤ g = ahead_low g s.count end fits.count (last_fits m.kind g (top_of m s) fits.top) in
    omega (arith, i, j, k)

-- the wait is a count
pub wait_short : (m : Mode) (s : Counter) → IsMode m → Holds m.greatest s → wait m s < 65536
wait_short m s mode holds =
    let fits = fits_from m s mode holds in
    let short : m.greatest < 65536 = mode.short in
    elim (cases_Bool (has_event m s)) [
      | inl h ↦ let w : wait m s ≡ 0 = rw h refl in omega (arith, w)
      | inr quiet ↦ elim (cases_Bool (is_back m s)) [
        | inr ahead ↦ let w : wait m s ≡ wait_up m s = rw quiet (rw ahead refl) in let l : wait_up m s ≤ m.greatest = up_low m s fits in omega (arith, w, l)
        | inl back ↦ elim (zero_or (top_of m s)) [
          | inl none ↦
              let z : (top_of m s == 0) ≡ true = ap (λ (x : ℕ). x == 0) none in
              let w : wait m s ≡ 1 = rw quiet (rw back (rw z refl)) in
              omega (arith, w)
          | inr some ↦
              let z : (top_of m s == 0) ≡ false = is_none (top_of m s) some in
              let w : wait m s ≡ wait_down m s = rw quiet (rw back (rw z refl)) in
              let l : wait_down m s ≤ s.count = down_low m s in
              let c : s.count ≤ m.greatest = holds.count in
              omega (arith, w, l, c)
        ]
      ]
    ]
