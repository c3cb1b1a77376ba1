-- What is read of the wave of a run has, of each variable that shows a net, the net's level in every cycle.
use Rattle.std.proofs.Common.{◌≡◌, ◌<◌, ◌≤◌, ◌+◌, ◌*◌, ◌^◌, ℕ, zero, suc, List, [], ◌∷◌, ◌++◌, length, Bool, true, false, if◌then◌else◌}
use Rattle.std.proofs.Common.{Option, None, Some, Ok, refl, ap, sym, ◌∙◌, arith}
use Rattle.std.specs.Prelude.{slice_get}
use Rattle.std.specs.Option.{option_map, option_map_or}
use Rattle.std.proofs.lemmas.List.{append_assoc}
use Rattle.sim_base.specs.declared.signal.Level.{Level}
use Rattle.sim_base.specs.declared.signal.Level.TheVariants as levels
use Rattle.sim_base.specs.declared.wiring.Wiring.{Wiring}
use Rattle.sim_base.specs.declared.wiring.Input.{Input}
use Rattle.sim_base.specs.Rows.{Row}
use Rattle.sim_base.specs.Signal.{is_upper}
use Rattle.part_law.specs.Machine.{Machine, Laws}
use Rattle.board_model.specs.Board.{states}
use Rattle.board_model.specs.Fits.{Fits}
use Rattle.board_model.specs.Rows.{rows}
use Rattle.law_board.specs.InForce.{row_at}
use Rattle.law_board.proofs.InForceLaw.{in_force}
use Rattle.text_model.specs.Wave.{Source, Net, Variable, bit_value, char_z, head, initial_values, later_text, level_value, begun_text, time_line, values, wave_text}
use Rattle.wave_lines.specs.declared.line.Stage.TheVariants as stages
use Rattle.wave_lines.specs.Reading.{Change, ended_lines, lines_from, unended}
use Rattle.vcd_text.specs.Reading.{changes_behind, kinds}
use Rattle.vcd_text.specs.Reading as written
use Rattle.law_wave.specs.Said.{rows_told}
use Rattle.law_wave.specs.Written.{AreOfRun, value_in}
use Rattle.law_wave.proofs.RunLaw.{of_run}
use Rattle.law_wave.proofs.TextLemmas.{changes_read}
use Rattle.law_wave.proofs.ValueLemmas.{all_given}
use Rattle.wave_decode.specs.Levels.{LevelRow, changes_in, last_cycle, level_of, levels_behind, levels_chosen, levels_text, number_in, rows_said}
use Rattle.law_decode.specs.Named.{AreNamed, names_of}
use Rattle.law_decode.specs.NetLevels.{HaveLevels, as_shown, net_level}
use Rattle.law_decode.proofs.HeadLemmas.{head_known, head_read}
use Rattle.law_decode.proofs.LineLemmas.{lines_too}
use Rattle.law_decode.proofs.RowLemmas.{has}
use Rattle.law_decode.proofs.ValueLemmas.{number_at, value_at}

-- ---- the text

module _ (vs : List Variable) (n : ℕ) (named : AreNamed vs) (early : n ≤ last_cycle) where
  -- a text after a head: what one who knows the variables reads of it, one reads who knows their names
  read_behind_head : (lines : List ℕ) (all : List Change) → written.changes_of vs n (head vs ++ lines) ≡ Ok all → (first : List ℕ) (second : Option (List ℕ)) →
      levels_text first second (head vs ++ lines) ≡ levels_chosen (number_in (names_of vs) first) (option_map (number_in (names_of vs)) second) (Ok (n, all))
  read_behind_head lines all e first second =
      let known = head_known vs named lines in
      let found = head_read vs named lines in
      let lines_read : lines_from (kinds vs) n (written.at_end vs n (unended lines)) known.0 stages.Start 0 [] (ended_lines lines) ≡ Ok all =
      sym (ap (changes_behind vs n) known.1) ∙ e in
      let changes : changes_in (length vs) found.0 lines ≡ Ok (n, all) = lines_too vs n early (unended lines) all (ended_lines lines) known.0 found.0 stages.Start 0 [] lines_read in
      ap (levels_behind first second) found.1
      ∙ ap (λ (count : ℕ). levels_chosen (number_in (names_of vs) first) (option_map (number_in (names_of vs)) second) (changes_in count found.0 lines)) (long vs)
      ∙ ap (levels_chosen (number_in (names_of vs) first) (option_map (number_in (names_of vs)) second)) changes
    where
      long : (vs : List Variable) → length (names_of vs) ≡ length vs
      long [] = refl
      long (v ∷ vs) = ap suc (long vs)

  -- the wave of rows
  pub changes_known : (rows : List Row) → AreOfRun rows n → (first : List ℕ) (second : Option (List ℕ)) →
      levels_text first second (wave_text vs rows n) ≡ levels_chosen (number_in (names_of vs) first) (option_map (number_in (names_of vs)) second) (Ok (n, rows_told vs rows))
  unfolding begun_text
  changes_known [] are first second = absurd are
  changes_known (row ∷ rows) are first second =
      let begun : List ℕ = initial_values row.cycle (values vs row) in
      let later : List ℕ = later_text vs (values vs row) rows in
      let text : wave_text vs (row ∷ rows) n ≡ head vs ++ (begun ++ (later ++ time_line n)) =
      append_assoc (head vs ++ begun) later (time_line n) ∙ append_assoc (head vs) begun (later ++ time_line n) in
      let small : 625 * n < 2 ^ 64 = omega (arith, early) in
      let all = changes_read vs n named.few small (row ∷ rows) are (all_given vs n (row ∷ rows) are) in
      ap (levels_text first second) text
      ∙ read_behind_head (begun ++ (later ++ time_line n)) (rows_told vs (row ∷ rows)) (sym (ap (written.changes_of vs n) text) ∙ all) first second

-- ---- the levels

shown_back : (l : Level) → level_of (level_value l) ≡ as_shown l
shown_back levels.Low = refl
shown_back levels.High = refl
shown_back levels.X = refl
shown_back levels.Z = refl
shown_back (levels.Wiped w) = go (is_upper w)
  where
    go : (b : Bool) → level_of (bit_value b) ≡ (if b then levels.High else levels.Low)
    go true = refl
    go false = refl

net_back : (o : Option Level) → level_of (option_map_or level_value o char_z) ≡ option_map_or as_shown o levels.Z
net_back None = refl
net_back (Some l) = shown_back l

abbrev run_rows : {S : Type 0} → Machine S → Wiring → List Input → List S → ℕ → List Row
run_rows m w inputs ss n = rows m w inputs None ss 0 n

module _ {S : Type 0} (m : Machine S) (w : Wiring) (inputs : List Input) (ss : List S) (laws : Laws m) (fits : (u : ℕ) → Fits m w (states m w inputs ss 0 u))
    (vs : List Variable) (n : ℕ) (named : AreNamed vs) (some : 0 < n) (early : n ≤ last_cycle) where
  abbrev wave : List ℕ
  wave = wave_text vs (run_rows m w inputs ss n) n

  are : (n : ℕ) → 0 < n → AreOfRun (run_rows m w inputs ss n) n
  are zero some = absurd (omega (arith, some))
  are (suc n) some = of_run m w inputs ss n

  abbrev said : List Change
  said = rows_told vs (run_rows m w inputs ss n)

  -- of a variable that shows a net
  module _ (i net : ℕ) (v : Variable) (here : slice_get vs i ≡ Some v) (shows : v.shows ≡ Net net) where
    level_is : (t : ℕ) → t < n → level_of (value_in (row_at (run_rows m w inputs ss n) t) v.shows) ≡ net_level m w inputs ss net t
    level_is t less =
        let force = in_force m w inputs ss 0 laws fits n t less in
        let row : Row = force.0 in
        let z : t ≡ 0 + t = omega arith in
        ap (λ (o : Option Row). level_of (value_in o v.shows)) (ap (row_at (run_rows m w inputs ss n)) z ∙ force.1)
        ∙ ap (λ (s : Source). level_of (value_in (Some row) s)) shows
        ∙ net_back (slice_get row.levels net)
        ∙ ap (λ (l : List Level). option_map_or as_shown (slice_get l net) levels.Z) force.2

    levels_are : HaveLevels m w inputs ss n net (rows_said (Some i) said n)
    levels_are t less =
        has (λ (t : ℕ). level_of (value_of t)) (suc n) t (omega (arith, less))
        ∙ ap level_of (number_at i vs n v here (run_rows m w inputs ss n) (are n some) t)
        ∙ level_is t less
      where
        value_of : ℕ → ℕ
        value_of t = value_at i said t

  -- What is read of a run's wave under the name of a variable that shows a net are the net's levels.
  pub one_read : (first : List ℕ) (i net : ℕ) (v : Variable) → number_in (names_of vs) first ≡ Some i → slice_get vs i ≡ Some v → v.shows ≡ Net net →
      (rows : List LevelRow) × (levels_text first None wave ≡ Ok (record { cycles = n; rows = rows ∷ [] })) × HaveLevels m w inputs ss n net rows
  one_read first i net v number here shows = (
    rows_said (Some i) said n,
    changes_known vs n named early (run_rows m w inputs ss n) (are n some) first None
        ∙ ap (λ (o : Option ℕ). levels_chosen o None (Ok (n, said))) number,
    levels_are i net v here shows,
  )

  -- the same of two names
  pub two_read : (first second : List ℕ) (i j net other : ℕ) (v u : Variable) → number_in (names_of vs) first ≡ Some i → number_in (names_of vs) second ≡ Some j →
      slice_get vs i ≡ Some v → slice_get vs j ≡ Some u → v.shows ≡ Net net → u.shows ≡ Net other →
      (a b : List LevelRow) × (levels_text first (Some second) wave ≡ Ok (record { cycles = n; rows = a ∷ b ∷ [] })) × HaveLevels m w inputs ss n net a × HaveLevels m w inputs ss n other b
  two_read first second i j net other v u number following here there shows also_shows = (
    rows_said (Some i) said n,
    rows_said (Some j) said n,
    changes_known vs n named early (run_rows m w inputs ss n) (are n some) first (Some second)
        ∙ ap (λ (o : Option ℕ). levels_chosen o (Some (number_in (names_of vs) second)) (Ok (n, said))) number
        ∙ ap (λ (o : Option ℕ). levels_chosen (Some i) (Some o) (Ok (n, said))) following,
    levels_are i net v here shows,
    levels_are j other u there also_shows,
  )
