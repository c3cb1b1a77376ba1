-- A hardware unit of the microcontroller, moved by one cycle at a time (ATmega328P data sheet: each unit is
-- clocked by clkIO).
use Rattle.std.specs.Prelude.{◌≡◌, ℕ, zero, suc, ◌+◌, ◌-◌, ◌<◌, ◌≤◌, ◌&&◌, min, List, [], ◌∷◌, Bool, true, false, if◌then◌else◌, Option, None, Some}
use Rattle.std.proofs.Common.{ap, sym, ◌∙◌}
use Rattle.sim_base.specs.declared.signal.Level.{Level}
use Rattle.sim_base.specs.declared.limits.TheConstants.{MOST_CYCLES}
use Rattle.avr_unit.specs.declared.request.Request.{Request}
use Rattle.avr_unit.specs.declared.pad.Pad.{Pad}

-- The least vector that is enabled and flagged; 26, the number of vectors, where none is (data sheet, "Reset and
-- Interrupt Vectors": the lower the address the higher the priority).
abbrev pub asked : Request → ℕ
asked r = if r.enabled && r.flag then r.vector else 26

abbrev pub least : List Request → ℕ
least [] = 26
least (r ∷ rs) = min (asked r) (least rs)

-- What power-down, WDR and a reset of the watchdog do to units (data sheet, "Power Management and Sleep Modes", "Watchdog
-- System Reset").
pub record Power (U : Type 0) : Type 0 where
  -- whether something that ends power-down is enabled and flagged while the pins have these levels
  pub rouses : U → List Level → Bool
  -- what WDR in a cycle leaves
  pub wdr : U → ℕ → U
  -- whether the step of a cycle ends in a reset
  pub resets : U → ℕ → Bool
  -- the state in the cycle behind it
  pub restart : U → U
  -- what entering power-down leaves
  pub doze : U → U

-- a unit that has no part in it
abbrev pub powerless : {U : Type 0} → Power U
powerless = record { rouses = λ u l. false; wdr = λ u t. u; resets = λ u t. false; restart = λ u. u; doze = λ u. u }

-- A kind of unit: its states of type U, and what they do. Levels are those of the Uno's pins 0 to 13 and A0 to A5.
pub record UnitMachine (U : Type 0) : Type 0 where
  -- the state after a cycle, from the levels in the cycle before and in this one
  pub step : U → ℕ → List Level → List Level → U
  -- whether the cycle has an event of its own, one that comes though no level changes
  pub due : U → ℕ → Bool
  -- its vectors, each with what enables it and its flag, while the pins have these levels
  pub requests : U → List Level → List Request
  -- what it asks of an Uno pin
  pub pad : U → ℕ → Pad
  -- the byte that leaves in the cycle
  pub sends : U → ℕ → Option ℕ
  -- whether a data address is one of its registers
  pub has : ℕ → Bool
  -- what reading the register in a cycle answers, on the levels of the cycle before
  pub answers : U → ℕ → List Level → ℕ → ℕ
  -- what reading the register leaves
  pub read : U → ℕ → ℕ → U
  -- what a write of the register in a cycle leaves
  pub write : U → ℕ → ℕ → ℕ → U
  -- what a write of one bit alone leaves, as SBI and CBI do it
  pub write_bit : U → ℕ → ℕ → ℕ → Bool → U
  -- what entering a vector leaves
  pub taken : U → ℕ → U
  -- the state after reset
  pub reset : U
  pub power : Power U

-- what a register gives, and what else where there is none
abbrev pub at_register : {R A : Type 0} → Option R → A → (R → A) → A
at_register None other f = other
at_register (Some r) other f = f r

-- A unit before the step of `cycle`.
pub record At (U : Type 0) : Type 0 where
  pub unit : U
  pub cycle : ℕ

module _ {U : Type 0} (m : UnitMachine U) where
  -- The n cycles from t on, as far as none has an event: such a cycle does the same on all levels that stay, so
  -- that none are named.
  unfoldable pub steps : U → ℕ → ℕ → U
  steps s t zero = s
  steps s t (suc n) = m.step (steps s t n) (t + n) [] []

  -- none of these cycles has an event
  abbrev pub IsQuiet : U → ℕ → ℕ → Type 0
  IsQuiet s t n = (k : ℕ) → k < n → m.due (steps s t k) (t + k) ≡ false

  -- the first cycle from t on with an event, none where it lies behind a board's time
  abbrev pub IsFirstDue : U → ℕ → Option ℕ → Type 0
  IsFirstDue s t None = IsQuiet s t (MOST_CYCLES - t)
  IsFirstDue s t (Some u) = (t ≤ u) × (u < MOST_CYCLES) × IsQuiet s t (u - t) × (m.due (steps s t (u - t)) u ≡ true)

  -- d is the first cycle from t on with an event, or the end of a board's time where none has one
  pub record FirstDue (s : U) (t d : ℕ) : Type 0 where
    pub later : t ≤ d
    pub end : d ≤ MOST_CYCLES
    pub quiet : IsQuiet s t (d - t)
    pub event : d < MOST_CYCLES → m.due (steps s t (d - t)) d ≡ true

  -- A cycle without an event ends no power-down and in no reset; WDR and power-down ask nothing else of a pin.
  pub record PowerLaws : Type 0 where
    pub keeps_rouses : (s : U) (t : ℕ) (l k : List Level) → m.due s t ≡ false → m.power.rouses (m.step s t l l) k ≡ m.power.rouses s k
    pub keeps_resets : (s : U) (t u : ℕ) (l : List Level) → m.due s t ≡ false → m.power.resets (m.step s t l l) u ≡ m.power.resets s u
    pub resets_due : (s : U) (t : ℕ) → m.due s t ≡ false → m.power.resets s t ≡ false
    pub wdr_pad : (s : U) (t p : ℕ) → m.pad (m.power.wdr s t) p ≡ m.pad s p
    pub doze_pad : (s : U) (p : ℕ) → m.pad (m.power.doze s) p ≡ m.pad s p

  -- What every unit owes. A cycle without an event asks nothing else of a pin, requests nothing else, sends nothing,
  -- and does the same on all levels that stay.
  pub record Laws : Type 0 where
    pub keeps_pad : (s : U) (t : ℕ) (l : List Level) (p : ℕ) → m.due s t ≡ false → m.pad (m.step s t l l) p ≡ m.pad s p
    pub keeps_requests : (s : U) (t : ℕ) (l : List Level) → m.due s t ≡ false → m.requests (m.step s t l l) l ≡ m.requests s l
    pub keeps_silent : (s : U) (t : ℕ) → m.due s t ≡ false → m.sends s t ≡ None
    pub deaf : (s : U) (t : ℕ) (l k : List Level) → m.due s t ≡ false → m.step s t l l ≡ m.step s t k k
    pub reads_pad : (s : U) (t a p : ℕ) → m.pad (m.read s t a) p ≡ m.pad s p
    pub taken_pad : (s : U) (v p : ℕ) → m.pad (m.taken s v) p ≡ m.pad s p
    pub power_laws : PowerLaws

  -- of one that has no part in power-down
  pub powerless_laws : m.power ≡ powerless → PowerLaws
  powerless_laws is = record {
    keeps_rouses = λ s t l k h. ap (λ (p : Power U). p.rouses (m.step s t l l) k) is ∙ sym (ap (λ (p : Power U). p.rouses s k) is);
    keeps_resets = λ s t u l h. ap (λ (p : Power U). p.resets (m.step s t l l) u) is ∙ sym (ap (λ (p : Power U). p.resets s u) is);
    resets_due = λ s t h. ap (λ (p : Power U). p.resets s t) is;
    wdr_pad = λ s t i. ap (λ (p : Power U). m.pad (p.wdr s t) i) is;
    doze_pad = λ s i. ap (λ (p : Power U). m.pad (p.doze s) i) is;
  }
