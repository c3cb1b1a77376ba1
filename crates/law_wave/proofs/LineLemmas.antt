-- What each line of a wave is read as.
use Rattle.std.proofs.Common.{◌≡◌, ◌≢◌, ◌<◌, ◌≤◌, ◌+◌, ◌*◌, ◌/◌, ◌%◌, ◌^◌, ◌==◌, ℕ, List, [], ◌∷◌, ◌++◌, Bool, true, false, not, ◌&&◌}
use Rattle.std.proofs.Common.{nat_le, if◌then◌else◌, Option, None, Some, Ok, refl, ap, sym, ◌∙◌, subst, arith}
use Rattle.std.specs.Prelude.{codes, decimal, nat_lt, slice_get}
use Rattle.std.specs.Str.{bytes_eq}
use Rattle.std.specs.Option.{option_map, option_map_or}
use Rattle.std.proofs.lemmas.Bool.{eq-eqb, ne_eqb, lt-ltb}
use Rattle.std.proofs.lemmas.List.{append_assoc}
use Rattle.sim_base.specs.declared.signal.Drive.{Drive}
use Rattle.sim_base.specs.declared.signal.Drive.TheVariants as drives
use Rattle.sim_base.specs.declared.signal.Level.{Level}
use Rattle.sim_base.specs.declared.signal.Level.TheVariants as levels
use Rattle.sim_base.specs.Signal.{is_upper}
use Rattle.sim_refusals.specs.Refusals.{WaveLine, WaveTime}
use Rattle.law_board.proofs.OwnRows.{is_le}
use Rattle.text_numerals.specs.Numerals.{value_of}
use Rattle.text_model.specs.Wave.{Source, Net, Strong, Weak, Variable, char_x, char_z, bit_value, level_value, strong_value, weak_value, shown_value, id_of}
use Rattle.text_model.specs.Wave.{time_line, value_line}
use Rattle.wave_lines.specs.declared.line.Line.{Line}
use Rattle.wave_lines.specs.declared.line.Line.TheVariants as line
use Rattle.wave_lines.specs.declared.line.Stage.{Stage}
use Rattle.wave_lines.specs.declared.line.Stage.TheVariants as stages
use Rattle.wave_lines.specs.Reading.{Change, after, after_value, is_value, judged, line_said, number_of, time_said, value_of_number, value_of_variable, value_said, among}
use Rattle.wave_lines.proofs.TextLemmas.{IsUnbroken, ended_at, unended_at}
use Rattle.vcd_text.specs.Reading.{kinds, shows_net, verdict}
use Rattle.vcd_text.proofs.ReadingLemmas.{from_here, line_read}
use Rattle.law_wave.proofs.DigitLemmas.{unbroken_more, digits_unbroken, written, number_back, id_unbroken}

-- ---- values

abbrev IsGood : Source → ℕ → Type 0
IsGood source v = (is_value v ≡ true) × ((v == char_x && not (shows_net source)) ≡ false)

bit_good : (source : Source) (b : Bool) → IsGood source (bit_value b)
bit_good source true = (refl, refl)
bit_good source false = (refl, refl)

level_good : (n : ℕ) (l : Level) → IsGood (Net n) (level_value l)
level_good n levels.Low = (refl, refl)
level_good n levels.High = (refl, refl)
level_good n levels.X = (refl, refl)
level_good n levels.Z = (refl, refl)
level_good n (levels.Wiped w) = bit_good (Net n) (is_upper w)

strong_good : (p : ℕ) (d : Drive) → IsGood (Strong p) (strong_value d)
strong_good p drives.Z = (refl, refl)
strong_good p drives.Low = (refl, refl)
strong_good p drives.High = (refl, refl)
strong_good p drives.PullLow = (refl, refl)
strong_good p drives.PullHigh = (refl, refl)
strong_good p (drives.Wiper w) = (refl, refl)

weak_good : (p : ℕ) (d : Drive) → IsGood (Weak p) (weak_value d)
weak_good p drives.Z = (refl, refl)
weak_good p drives.Low = (refl, refl)
weak_good p drives.High = (refl, refl)
weak_good p drives.PullLow = (refl, refl)
weak_good p drives.PullHigh = (refl, refl)
weak_good p (drives.Wiper w) = bit_good (Weak p) (is_upper w)

-- a variable's value is one that it may have
shown_good : (ls : List Level) (ds : List Drive) (source : Source) → IsGood source (shown_value ls ds source)
shown_good ls ds (Net n) = go (slice_get ls n)
  where
    go : (o : Option Level) → IsGood (Net n) (option_map_or level_value o char_z)
    go None = (refl, refl)
    go (Some l) = level_good n l
shown_good ls ds (Strong p) = go (slice_get ds p)
  where
    go : (o : Option Drive) → IsGood (Strong p) (option_map_or strong_value o char_z)
    go None = (refl, refl)
    go (Some d) = strong_good p d
shown_good ls ds (Weak p) = go (slice_get ds p)
  where
    go : (o : Option Drive) → IsGood (Weak p) (option_map_or weak_value o char_z)
    go None = (refl, refl)
    go (Some d) = weak_good p d

value_other : (v c : ℕ) → is_value c ≡ false → is_value v ≡ true → v ≢ c
value_other v c none is e = both (subst (λ (x : ℕ). is_value x ≡ true) e is)
  where
    both : is_value c ≡ true → ⊥
    both f = cc

-- ---- lines

-- after these lines a value may stand
pub data MayValue : Stage → Type 0 where
  in_first : MayValue stages.Initial
  in_opened : MayValue stages.Opened
  in_changed : MayValue stages.Changed

-- after these a time may
pub data MayTime : Stage → Type 0 where
  after_first : MayTime stages.Ended
  after_changed : MayTime stages.Changed

module _ (vs : List Variable) (n : ℕ) where
  -- a text behind these lines is read so
  pub record Says (stage : Stage) (cycle : ℕ) (said : List Change) (text : List ℕ) (all : List Change) : Type 0 where
    pub read : (k : ℕ) → from_here vs n k stage cycle said text ≡ Ok all

  -- another text that is the same
  pub says_as : {stage : Stage} {cycle : ℕ} {said all : List Change} (t u : List ℕ) → t ≡ u → Says stage cycle said u all → Says stage cycle said t all
  says_as {stage = stage} {cycle = cycle} {said = said} t u e h = record { read = λ k. ap (from_here vs n k stage cycle said) e ∙ h.read k }

  line_says : (stage : Stage) (cycle : ℕ) (said all : List Change) (text rest : List ℕ) (says : Line) → IsUnbroken text → verdict vs n stage cycle text ≡ says →
      ((k : ℕ) → after says k stage cycle said (λ (stage : Stage) (cycle : ℕ) (said : List Change). from_here vs n (k + 1) stage cycle said rest) ≡ Ok all) →
      Says stage cycle said (text ++ 10 ∷ rest) all
  line_says stage cycle said all text rest says whole is more = record {
    read = λ k.
        sym (line_read vs n k stage cycle said (text ++ 10 ∷ rest) text rest says _ refl (ended_at text rest whole) (unended_at text rest) (sym is)) ∙ more k;
  }

  pub goes_says : (stage next : Stage) (cycle : ℕ) (said all : List Change) (text rest : List ℕ) → IsUnbroken text → verdict vs n stage cycle text ≡ line.Goes next →
      Says next cycle said rest all → Says stage cycle said (text ++ 10 ∷ rest) all
  goes_says stage next cycle said all text rest whole is more = line_says stage cycle said all text rest (line.Goes next) whole is (λ k. more.read (k + 1))

  -- ---- a time

  time_said_is : (cycle next : ℕ) → 625 * n < 2 ^ 64 → cycle < next → next ≤ n → time_said n cycle (35 ∷ decimal (625 * next)) ≡ line.Time next
  time_said_is cycle next small later within =
      let w = written (625 * next) (omega (arith, small, within)) in
      let whole : (625 * next) % 625 ≡ 0 = omega arith in
      let part : 625 * next / 625 ≡ next = omega arith in
      let on : ((625 * next) % 625 == 0 && (nat_lt (625 * cycle) (625 * next) && nat_le (625 * next) (625 * n))) ≡ true =
      all_on _ _ _ (eq-eqb ((625 * next) % 625) 0 whole) (lt-ltb (625 * cycle) (625 * next) (omega (arith, later))) (is_le (625 * next) (625 * n) (omega (arith, within))) in
      ap (λ (b : Bool). if b then judged n cycle (value_of 10 (decimal (625 * next))) else line.Faulty WaveLine) w.1
      ∙ ap (judged n cycle) w.2
      ∙ ap (λ (b : Bool). if b then line.Time (625 * next / 625) else line.Faulty WaveTime) on
      ∙ ap (λ (x : ℕ). line.Time x) part
    where
      all_on : (a b c : Bool) → a ≡ true → b ≡ true → c ≡ true → (a && (b && c)) ≡ true
      all_on true true c e f g = g
      all_on true false c e f g = f
      all_on false b c e f g = e

  time_is : (stage : Stage) (cycle next : ℕ) → MayTime stage → 625 * n < 2 ^ 64 → cycle < next → next ≤ n →
      line_said n stage cycle (35 ∷ decimal (625 * next)) ≡ line.Time next
  time_is stages.Start cycle next may small later within = elim may [ ]
  time_is stages.Dump cycle next may small later within = elim may [ ]
  time_is stages.Initial cycle next may small later within = elim may [ ]
  time_is stages.Opened cycle next may small later within = elim may [ ]
  time_is stages.Ended cycle next after_first small later within = time_said_is cycle next small later within
  time_is stages.Changed cycle next after_changed small later within = time_said_is cycle next small later within

  -- the time of a later cycle opens it
  pub time_says : (stage : Stage) (cycle next : ℕ) (said all : List Change) (rest : List ℕ) → MayTime stage → 625 * n < 2 ^ 64 → cycle < next → next ≤ n →
      Says stages.Opened next said rest all → Says stage cycle said (time_line next ++ rest) all
  time_says stage cycle next said all rest may small later within more =
      let w = written (625 * next) (omega (arith, small, within)) in
      says_as (time_line next ++ rest) ((35 ∷ decimal (625 * next)) ++ 10 ∷ rest) (ap (λ (l : List ℕ). 35 ∷ l) (append_assoc (decimal (625 * next)) (codes "\n") rest))
      (line_says stage cycle said all (35 ∷ decimal (625 * next)) rest (line.Time next)
      (unbroken_more 35 (decimal (625 * next)) (λ e. omega (arith, e)) (digits_unbroken (decimal (625 * next)) w.0))
      (ap (among (kinds vs)) (time_is stage cycle next may small later within)) (λ k. more.read (k + 1)))

  -- ---- a value

  value_said_is : (i v : ℕ) → i < 8930 → is_value v ≡ true → value_said (v ∷ id_of i) ≡ line.Value i v
  value_said_is i v few good =
      ap (λ (b : Bool). if b then value_of_number v (number_of (id_of i)) else line.Faulty WaveLine) good
      ∙ ap (value_of_number v) (number_back i few)

  line_is : (stage : Stage) (cycle i v : ℕ) → MayValue stage → i < 8930 → is_value v ≡ true → line_said n stage cycle (v ∷ id_of i) ≡ line.Value i v
  line_is stages.Start cycle i v may few good = elim may [ ]
  line_is stages.Dump cycle i v may few good = elim may [ ]
  line_is stages.Ended cycle i v may few good = elim may [ ]
  line_is stages.Initial cycle i v in_first few good =
      ap (λ (b : Bool). if b then line.Goes stages.Ended else value_said (v ∷ id_of i)) (no_end v (id_of i) (ne_eqb v 36 (value_other v 36 refl good)))
      ∙ value_said_is i v few good
    where
      no_end : (v : ℕ) (code : List ℕ) → (v == 36) ≡ false → bytes_eq (v ∷ code) (codes "$end") ≡ false
      no_end v code e = ap (λ (b : Bool). b && bytes_eq code (codes "end")) e
  line_is stages.Opened cycle i v in_opened few good = value_said_is i v few good
  line_is stages.Changed cycle i v in_changed few good =
      ap (λ (b : Bool). if b then time_said n cycle (v ∷ id_of i) else value_said (v ∷ id_of i)) (ne_eqb v 35 (value_other v 35 refl good))
      ∙ value_said_is i v few good

  value_is : (stage : Stage) (cycle i v : ℕ) (w : Variable) → MayValue stage → i < 8930 → slice_get vs i ≡ Some w → IsGood w.shows v →
      verdict vs n stage cycle (v ∷ id_of i) ≡ line.Value i v
  value_is stage cycle i v w may few here good =
      ap (among (kinds vs)) (line_is stage cycle i v may few good.0)
      ∙ ap (λ (o : Option Variable). value_of_variable v i (option_map (λ (x : Variable). shows_net x.shows) o)) here
      ∙ ap (λ (b : Bool). if b then line.Faulty WaveLine else line.Value i v) good.1

  -- the value of a variable is one more change
  pub value_says : (stage : Stage) (cycle i : ℕ) (said all : List Change) (rest : List ℕ) (ls : List Level) (ds : List Drive) (w : Variable) → MayValue stage → i < 8930 →
      slice_get vs i ≡ Some w →
      Says (after_value stage) cycle (said ++ record { cycle = cycle; variable = i; value = shown_value ls ds w.shows } ∷ []) rest all →
      Says stage cycle said (value_line i (shown_value ls ds w.shows) ++ rest) all
  value_says stage cycle i said all rest ls ds w may few here more =
      let v : ℕ = shown_value ls ds w.shows in
      let good = shown_good ls ds w.shows in
      says_as (value_line i v ++ rest) ((v ∷ id_of i) ++ 10 ∷ rest) (append_assoc (v ∷ id_of i) (codes "\n") rest)
      (line_says stage cycle said all (v ∷ id_of i) rest (line.Value i v) (unbroken_more v (id_of i) (value_other v 10 refl good.0) (id_unbroken i))
      (value_is stage cycle i v w may few here good) (λ k. more.read (k + 1)))
