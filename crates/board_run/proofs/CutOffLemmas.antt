-- The last cycle of a run that was cut off.
use Rattle.board_run.proofs.Common.{◌≡◌, ℕ, suc, ◌+◌, ◌-◌, ◌≤◌, ◌∙◌, List, [], ◌++◌, Bool, true, Option, refl, ap, arith, Row, StopsWithin, Handed, Wiring}
use Rattle.board_run.proofs.Common.{Input, Machine, Laws, ReadingView, shown_at, Leg}
use Rattle.board_model.specs.Board.{bytes}
use Rattle.board_model.specs.Rows.{Shown, rows}
use Rattle.board_run.specs.CutOff.{row_in, bytes_in, IsCutOff}
use Rattle.board_run.proofs.HandLemmas.{handed_nothing, handed_then, stops_after}
use Rattle.board_run.proofs.ShowLemmas.{fronts}
use Rattle.board_run.proofs.LagLemmas.{Ts}
use Rattle.board_run.proofs.LegLemmas.{rows_on, bytes_on, states_on, shown_on}

module _ {S : Type 0} (m : Machine S) (w : Wiring) (inputs : List Input) (before : Option Shown) (ss : List S) (c : ℕ) where
  pub no_rows : rows m w inputs before ss c (c - c) ≡ []
  unfolding rows
  no_rows = let e : c - c ≡ 0 = omega arith in ap (rows m w inputs before ss c) e

  pub no_bytes : bytes m w inputs ss c (c - c) ≡ []
  unfolding bytes
  no_bytes = let e : c - c ≡ 0 = omega arith in ap (bytes m w inputs ss c) e

  module _ (v u : ℕ) (from : c ≤ v) (follows : u ≡ v + 1) where
    count : u - c ≡ suc (v - c)
    count = omega (arith, from, follows)

    there : c + (v - c) ≡ v
    there = omega (arith, from)

    pub rows_last : rows m w inputs before ss c (u - c) ≡ rows m w inputs before ss c (v - c) ++ row_in m w inputs before ss c v
    unfolding rows
    rows_last = rw (count, there) refl

    pub bytes_last : bytes m w inputs ss c (u - c) ≡ bytes m w inputs ss c (v - c) ++ bytes_in m w inputs before ss c v
    unfolding bytes
    bytes_last = rw (count, there) refl

  module _ {W : Type 0} (whole : W → Bool) (faults : W → ℕ) (stands stopped : W → List Row → List ℕ → Type 0) (v u : ℕ) (from : c ≤ v) (follows : u ≡ v + 1) (out after : W) where
    -- where nothing is shown before the cycle in which a write failed
    pub cut_here : whole out ≡ true → rows m w inputs before ss c (v - c) ≡ [] → bytes m w inputs ss c (v - c) ≡ [] →
        StopsWithin (stands out) (stopped after) (rows m w inputs before ss c (u - c)) (bytes m w inputs ss c (u - c)) → IsCutOff m w inputs before ss c v whole faults stands stopped out after
    cut_here is no_row no_byte stops =
        let rows_are = rows_last v u from follows ∙ ap (λ (l : List Row). l ++ row_in m w inputs before ss c v) no_row in
        record {
          between = out;
          from = from;
          handed = rw (no_row, no_byte) (handed_nothing whole faults stands out is);
          stops = rw (rows_are, bytes_last v u from follows ∙ ap (λ (l : List ℕ). l ++ bytes_in m w inputs before ss c v) no_byte) at stops;
        }

    -- it has stopped within all that the run would have shown
    pub cut_within : (n : ℕ) → u ≤ n → IsCutOff m w inputs before ss c v whole faults stands stopped out after → StopsWithin (stands out) (stopped after) (rows m w inputs before ss c (n - c)) (bytes m w inputs ss c (n - c))
    cut_within n within cut =
        let e : (u - c) + (n - u) ≡ n - c = omega (arith, from, follows, within) in
        stops_after stands stopped out cut.between after _ _ _ _ _ _ cut.handed.appended cut.stops
        (rw (rows_last v u from follows, bytes_last v u from follows) at (rw e at (fronts m w inputs before ss c (u - c) (n - u))))

-- where it was cut off after a leg, it was cut off
module _ {S P W : Type 0} (m : Machine S) (laws : Laws m) (w : Wiring) (state : P → S) (now wakes : P → ℕ) (inputs : List Input) (whole : W → Bool) (faults : W → ℕ) (stands stopped : W → List Row → List ℕ → Type 0) where
  pub cut_then : (t u v a b : ℕ) (old mid : List P) (before reading : ReadingView) (x y z : W) → Leg m w state now wakes inputs t u old mid before reading a b →
      Handed whole faults stands x y (rows m w inputs (shown_at t before) (Ts m laws w state now wakes t old) t (u - t)) (bytes m w inputs (Ts m laws w state now wakes t old) t (u - t)) →
      IsCutOff m w inputs (shown_at u reading) (Ts m laws w state now wakes u mid) u v whole faults stands stopped y z → IsCutOff m w inputs (shown_at t before) (Ts m laws w state now wakes t old) t v whole faults stands stopped x z
  cut_then t u v a b old mid before reading x y z leg handed cut =
      let later = cut.from in
      let stood = states_on m laws w state now wakes inputs t u v a b old mid before reading leg later in
      record {
        between = cut.between;
        from = omega (arith, leg.order, later);
        handed = handed_then whole faults stands x y cut.between _ _ _ _ _ _ handed cut.handed (rows_on m laws w state now wakes inputs t u v a b old mid before reading leg later) (bytes_on m laws w state now wakes inputs t u v a b old mid before reading leg later);
        stops = rw (shown_on m laws w state now wakes inputs t u v a b old mid before reading leg later, stood) cut.stops;
      }
