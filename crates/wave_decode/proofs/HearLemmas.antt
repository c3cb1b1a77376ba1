-- What is heard cycle by cycle, where only changes are looked at.
use Rattle.std.proofs.Common.{◌≡◌, ◌<◌, ◌≤◌, ◌+◌, ◌-◌, ◌*◌, ◌/◌, ℕ, zero, suc, List, [], ◌++◌, Bool, true, false, not, ◌&&◌, nat_le, if◌then◌else◌}
use Rattle.std.proofs.Common.{refl, ap, sym, arith, ◌∙◌}
use Rattle.std.specs.Prelude.{nat_lt}
use Rattle.std.proofs.lemmas.List.{append-nil}
use Rattle.sim_base.specs.declared.signal.Level.{Level}
use Rattle.sim_base.specs.declared.signal.Level.TheVariants as levels
use Rattle.sim_base.specs.Signal.{reads}
use Rattle.wave_decode.specs.declared.bus.Bus.{Bus}
use Rattle.wave_decode.specs.declared.bus.Bus.TheVariants as buses
use Rattle.wave_decode.specs.declared.bus.Heard.{Heard}
use Rattle.wave_decode.specs.Bits.{bit_of, number_from}
use Rattle.wave_decode.specs.Frames.{between, differ, goes_on, heard_at, i2c_at, nothing, reading, reads_at, spi_bit, told, uart_frame, uart_line, uart_start}
use Rattle.wave_decode.specs.Levels.{LevelRow}
use Rattle.wave_decode.specs.Listening.{IsAt}
use Rattle.wave_decode.specs.Rising.{IsRising, level_at, first_cycle}
use Rattle.wave_decode.specs.Wires.{read_later}
use Rattle.wave_decode.proofs.RisingLemmas.{none_before, first_late, first_early}

-- ---- nothing changes

no_fall : (x y : Bool) → x ≡ y → (x && not y) ≡ false
no_fall true true e = refl
no_fall true false e = absurd cc
no_fall false y e = refl

no_change : (x y : Bool) → x ≡ y → differ x y ≡ false
no_change true true e = refl
no_change true false e = absurd cc
no_change false true e = absurd cc
no_change false false e = refl

quiet_i2c : (x y u v : Bool) (t : ℕ) (s : Heard) → x ≡ y → u ≡ v → i2c_at x y u v t s ≡ (s, [])
quiet_i2c true true true true t s e f = refl
quiet_i2c true true false false t s e f = refl
quiet_i2c true true true false t s e f = absurd cc
quiet_i2c true true false true t s e f = absurd cc
quiet_i2c true false u v t s e f = absurd cc
quiet_i2c false true u v t s e f = absurd cc
quiet_i2c false false u v t s e f = refl

quiet_at : (bus : Bus) (n : ℕ) (line : ℕ → Bool) (x y u v : Bool) (t : ℕ) (s : Heard) → x ≡ y → u ≡ v → heard_at bus n line x y u v t s ≡ (s, [])
quiet_at (buses.Uart bit) n line x y u v t s e f =
    ap (λ (c : Bool). if nat_le s.from t && c then uart_start bit n line t s else (s, [])) (no_fall x y e) ∙ none (nat_le s.from t)
  where
    none : (c : Bool) → (if c && false then uart_start bit n line t s else (s, [])) ≡ (s, [])
    none true = refl
    none false = refl
quiet_at (buses.Spi mode) n line x y u v t s e f = ap (λ (c : Bool). if c && reads_at mode y then spi_bit t v s else (s, [])) (no_change x y e)
quiet_at buses.I2c n line x y u v t s e f = quiet_i2c x y u v t s e f

goes_quiet : (x : Heard × List ℕ) (next : Heard → Heard × List ℕ) → next x.0 ≡ (x.0, []) → goes_on x next ≡ x
goes_quiet x next e =
    ap (λ (y : Heard × List ℕ). (let z : Heard × List ℕ = (y.0, x.1 ++ y.1) in z)) e
    ∙ ap (λ (l : List ℕ). (let z : Heard × List ℕ = (x.0, l) in z)) (append-nil x.1)

module _ (bus : Bus) (n : ℕ) (a b : ℕ → Bool) where
  -- cycles in which no line changes tell nothing
  still : (c k : ℕ) → ((u : ℕ) → c ≤ u → u < c + k → (a u ≡ a (suc u)) × (b u ≡ b (suc u))) → told bus n a b (c + k) ≡ told bus n a b c
  unfolding told
  still c zero same = let none : c + 0 ≡ c = omega arith in ap (told bus n a b) none
  still c (suc k) same =
      let more : c + suc k ≡ suc (c + k) = omega arith in
      let here = same (c + k) (omega arith) (omega arith) in
      ap (told bus n a b) more
      ∙ goes_quiet (told bus n a b (c + k)) (between bus n a b (c + k))
      (quiet_at bus n a (a (c + k)) (a (suc (c + k))) (b (c + k)) (b (suc (c + k))) (suc (c + k)) (told bus n a b (c + k)).0 here.0 here.1)
      ∙ still c k (λ u p q. same u p (omega (arith, q)))

-- ---- a line is read ahead from a cycle on alone

number_same : (f g : ℕ → Bool) (bit t k : ℕ) → ((u : ℕ) → t ≤ u → f u ≡ g u) → number_from f bit t k ≡ number_from g bit t k
unfolding number_from
number_same f g bit t zero same = refl
number_same f g bit t (suc k) same =
    ap (λ (x : Bool). bit_of x + 2 * number_from f bit (t + bit) k) (same t (omega arith))
    ∙ ap (λ (x : ℕ). bit_of (g t) + 2 * x) (number_same f g bit (t + bit) k (λ u p. same u (omega (arith, p))))

module _ (bit n : ℕ) (f g : ℕ → Bool) (t : ℕ) (s : Heard) (same : (u : ℕ) → t ≤ u → f u ≡ g u) where
  frame_same : uart_frame bit n f t s ≡ uart_frame bit n g t s
  frame_same =
      ap (λ (x : ℕ). framed x (f (t + 9 * bit + bit / 2))) (number_same f g bit (t + bit + bit / 2) 8 (λ u p. same u (omega (arith, p))))
      ∙ ap (λ (x : Bool). framed (number_from g bit (t + bit + bit / 2) 8) x) (same (t + 9 * bit + bit / 2) (omega arith))
    where
      framed : ℕ → Bool → Heard × List ℕ
      framed byte stop =
          if nat_lt (t + 9 * bit + bit / 2) n then (record s { from = t + 9 * bit + bit / 2 + 1 }, uart_line t byte stop)
          else (record s { from = n }, [])

  start_same : uart_start bit n f t s ≡ uart_start bit n g t s
  start_same =
      ap (λ (x : Bool). started x (uart_frame bit n f t s)) (same (t + bit / 2) (omega arith))
      ∙ ap (λ (x : Heard × List ℕ). started (g (t + bit / 2)) x) frame_same
    where
      started : Bool → Heard × List ℕ → Heard × List ℕ
      started middle frame =
          if nat_lt (t + bit / 2) n then (if middle then (record s { from = t + bit / 2 + 1 }, []) else frame)
          else (record s { from = n }, [])

at_same : (bus : Bus) (n : ℕ) (f g : ℕ → Bool) (x y u v : Bool) (t : ℕ) (s : Heard) → ((u : ℕ) → t ≤ u → f u ≡ g u) →
    heard_at bus n f x y u v t s ≡ heard_at bus n g x y u v t s
at_same (buses.Uart bit) n f g x y u v t s same =
    ap (λ (z : Heard × List ℕ). if nat_le s.from t && (x && not y) then z else (s, [])) (start_same bit n f g t s same)
at_same (buses.Spi mode) n f g x y u v t s same = refl
at_same buses.I2c n f g x y u v t s same = refl

-- ---- from change to change

module _ (bus : Bus) (n : ℕ) (of_a of_b : List LevelRow) (now next : ℕ) (la : Level) (ra : List LevelRow) (lb : Level) (rb : List LevelRow) (heard : Heard)
    (at : IsAt bus n of_a of_b now next la ra lb rb heard) where
  abbrev told_at : ℕ → Heard × List ℕ
  told_at t = told bus n (reading of_a) (reading of_b) t

  first_a : first_cycle (first_cycle n ra) rb ≤ first_cycle n ra
  first_a = first_early rb (first_cycle n ra)

  -- before the next change the lines read as they do now
  a_still : (u : ℕ) → now ≤ u → u < next → reading of_a u ≡ reads la
  a_still u least less =
      let first = at.first in
      ap reads (sym (at.a_later u least) ∙ none_before la ra (suc now) n u at.a_rising (omega (arith, less, first, first_a)))

  b_still : (u : ℕ) → now ≤ u → u < next → reading of_b u ≡ reads lb
  b_still u least less =
      let first = at.first in
      ap reads (sym (at.b_later u least) ∙ none_before lb rb (suc now) (first_cycle n ra) u at.b_rising (omega (arith, less, first)))

  pub quiet_to : (t : ℕ) → now ≤ t → t < next → told_at t ≡ told_at now
  quiet_to t least less =
      let k : now + (t - now) ≡ t = omega (arith, least) in
      ap told_at (sym k) ∙ still bus n (reading of_a) (reading of_b) now (t - now) (λ u p q.
      let here : u < next = omega (arith, q, less, least) in
      let following : suc u < next = omega (arith, q, less, least) in
      (a_still u p here ∙ sym (a_still (suc u) (omega (arith, p)) following), b_still u p here ∙ sym (b_still (suc u) (omega (arith, p)) following)))

  -- the next change comes later
  pub comes_later : next < n → now < next
  comes_later less =
      let first = at.first in
      let early : suc now ≤ n = at.early in
      let a_late : suc now ≤ first_cycle n ra = first_late ra (suc now) n at.a_rising early in
      let late : suc now ≤ first_cycle (first_cycle n ra) rb = first_late rb (suc now) (first_cycle n ra) at.b_rising a_late in
      omega (arith, first, late)

  -- at the next change, where the lines are these then
  module _ (ma : Level) (sa : List LevelRow) (mb : Level) (sb : List LevelRow) (x y : Bool) (h : Heard) (line : List ℕ) (less : next < n)
      (a_level : level_at la ra next ≡ ma) (a_after : (u : ℕ) → next ≤ u → level_at ma sa u ≡ level_at la ra u) (a_rising : IsRising (suc next) sa)
      (b_level : level_at lb rb next ≡ mb) (b_after : (u : ℕ) → next ≤ u → level_at mb sb u ≡ level_at lb rb u) (b_rising : IsRising (suc next) sb)
      (x_is : x ≡ reads la) (y_is : y ≡ reads lb)
      (h_is : h ≡ (heard_at bus n (read_later ma sa) x (reads ma) y (reads mb) next heard).0)
      (line_is : line ≡ (heard_at bus n (read_later ma sa) x (reads ma) y (reads mb) next heard).1) where
    later : now < next
    later = comes_later less

    a_then : (u : ℕ) → next ≤ u → level_at ma sa u ≡ level_at levels.Z of_a u
    a_then u least = let l = later in a_after u least ∙ at.a_later u (omega (arith, least, l))

    b_then : (u : ℕ) → next ≤ u → level_at mb sb u ≡ level_at levels.Z of_b u
    b_then u least = let l = later in b_after u least ∙ at.b_later u (omega (arith, least, l))

    told_next : told_at next ≡ goes_on (told_at now) (between bus n (reading of_a) (reading of_b) (next - 1))
    unfolding told
    told_next =
        let l = later in
        let e : next ≡ suc (next - 1) = omega (arith, l) in
        let here : next - 1 < next = omega (arith, l) in
        let least : now ≤ next - 1 = omega (arith, l) in
        ap told_at e ∙ ap (λ (x : Heard × List ℕ). goes_on x (between bus n (reading of_a) (reading of_b) (next - 1))) (quiet_to (next - 1) least here)

    heard_next : (s : Heard) → between bus n (reading of_a) (reading of_b) (next - 1) s ≡ heard_at bus n (read_later ma sa) (reads la) (reads ma) (reads lb) (reads mb) next s
    heard_next s =
        let l = later in
        let e : suc (next - 1) ≡ next = omega (arith, l) in
        let here : next - 1 < next = omega (arith, l) in
        let least : now ≤ next - 1 = omega (arith, l) in
        let was_a : reading of_a (next - 1) ≡ reads la = a_still (next - 1) least here in
        let was_b : reading of_b (next - 1) ≡ reads lb = b_still (next - 1) least here in
        let is_a : reading of_a next ≡ reads ma = ap reads (sym (at.a_later next (omega (arith, l))) ∙ a_level) in
        let is_b : reading of_b next ≡ reads mb = ap reads (sym (at.b_later next (omega (arith, l))) ∙ b_level) in
        ap (λ (t : ℕ). heard_at bus n (reading of_a) (reading of_a (next - 1)) (reading of_a t) (reading of_b (next - 1)) (reading of_b t) t s) e
        ∙ ap (λ (x : Bool). heard_at bus n (reading of_a) x (reading of_a next) (reading of_b (next - 1)) (reading of_b next) next s) was_a
        ∙ ap (λ (x : Bool). heard_at bus n (reading of_a) (reads la) x (reading of_b (next - 1)) (reading of_b next) next s) is_a
        ∙ ap (λ (x : Bool). heard_at bus n (reading of_a) (reads la) (reads ma) x (reading of_b next) next s) was_b
        ∙ ap (λ (x : Bool). heard_at bus n (reading of_a) (reads la) (reads ma) (reads lb) x next s) is_b
        ∙ at_same bus n (reading of_a) (read_later ma sa) (reads la) (reads ma) (reads lb) (reads mb) next s (λ u p. ap reads (sym (a_then u p)))

    stepped : between bus n (reading of_a) (reading of_b) (next - 1) (told_at now).0 ≡ heard_at bus n (read_later ma sa) x (reads ma) y (reads mb) next heard
    stepped =
        ap (between bus n (reading of_a) (reading of_b) (next - 1)) at.is_heard ∙ heard_next heard
        ∙ ap (λ (z : Bool). heard_at bus n (read_later ma sa) z (reads ma) (reads lb) (reads mb) next heard) (sym x_is)
        ∙ ap (λ (z : Bool). heard_at bus n (read_later ma sa) x (reads ma) z (reads mb) next heard) (sym y_is)

    pub text_next : (told_at next).1 ≡ (told_at now).1 ++ line
    text_next =
        ap (λ (z : Heard × List ℕ). z.1) told_next ∙ ap (λ (z : Heard × List ℕ). (told_at now).1 ++ z.1) stepped
        ∙ ap (λ (l : List ℕ). (told_at now).1 ++ l) (sym line_is)

    pub at_next : (coming : ℕ) → first_cycle (first_cycle n sa) sb ≡ coming →
        IsAt bus n of_a of_b next coming ma sa mb sb h
    at_next coming first = record {
      first = first;
      early = omega (arith, less);
      a_later = a_then;
      a_rising = a_rising;
      b_later = b_then;
      b_rising = b_rising;
      is_heard = ap (λ (z : Heard × List ℕ). z.0) told_next ∙ ap (λ (z : Heard × List ℕ). z.0) stepped ∙ sym h_is;
    }

  -- the end
  pub text_last : n ≤ next → (told_at now).1 ≡ (told_at (n - 1)).1
  text_last past =
      let early : suc now ≤ n = at.early in
      let least : now ≤ n - 1 = omega (arith, early) in
      let less : n - 1 < next = omega (arith, early, past) in
      ap (λ (x : Heard × List ℕ). x.1) (sym (quiet_to (n - 1) least less))

-- before the first change
module _ (bus : Bus) (n : ℕ) (of_a of_b : List LevelRow) (next : ℕ) (la : Level) (ra : List LevelRow) (lb : Level) (rb : List LevelRow) (heard : Heard) where
  pub at_first : 0 < n → first_cycle (first_cycle n ra) rb ≡ next → heard ≡ nothing →
      ((u : ℕ) → 0 ≤ u → level_at la ra u ≡ level_at levels.Z of_a u) → IsRising 1 ra →
      ((u : ℕ) → 0 ≤ u → level_at lb rb u ≡ level_at levels.Z of_b u) → IsRising 1 rb → IsAt bus n of_a of_b 0 next la ra lb rb heard
  unfolding told
  at_first some first is a_later a_rising b_later b_rising = record {
    first = first;
    early = omega (arith, some);
    a_later = a_later;
    a_rising = a_rising;
    b_later = b_later;
    b_rising = b_rising;
    is_heard = sym is;
  }

-- nothing is told at first
pub none_told : (bus : Bus) (n : ℕ) (a b : ℕ → Bool) → (told bus n a b 0).1 ≡ []
unfolding told
none_told bus n a b = refl
