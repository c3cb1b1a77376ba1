-- Isolation: a chip is a function of its own pins, and what it drives is all that the rest of a board sees of it.
use Rattle.std.proofs.Common.{◌≡◌, inl, inr, ◌<◌, ◌≤◌, ℕ, ◌+◌, List, [], ◌∷◌, ◌++◌, map, length, false, Option, None, Some, refl, ap, sym, ◌∙◌, subst, arith}
use Rattle.std.specs.Prelude.{slice_get, unwrap_or}
use Rattle.std.specs.Option.{option_map}
use Rattle.std.proofs.lemmas.Option.{slice_get_within}
use Rattle.sim_base.specs.declared.signal.Level.{Level}
use Rattle.sim_base.specs.Rows.{Row}
use Rattle.sim_base.specs.declared.wiring.Wiring.{Wiring}
use Rattle.sim_base.specs.declared.wiring.Input.{Input}
use Rattle.text_model.specs.Wave.{Variable, wave_text}
use Rattle.board_model.specs.Rows.{rows}
use Rattle.board_model.specs.Walks.{below}
use Rattle.board_model.specs.Board.{bytes, input_at, levels_of, states}
use Rattle.law_board.specs.Alone.{part_run, drive_rows, own_levels, own_drives}
use Rattle.law_board.specs.Alike.{Alike}
use Rattle.law_board.specs.Play.{AreDrives}
use Rattle.law_board.specs.Player.{DriveRows}
use Rattle.law_board.specs.Worlds.{SameRest, SameChips, TheseAre}
use Rattle.law_board.specs.Worlds as worlds
use Rattle.law_board.proofs.AlikeLemmas.{alike_weaker, map_alike}
use Rattle.law_board.proofs.AloneLaw.{rows_run, state_alone}
use Rattle.law_board.proofs.OwnRows as own
use Rattle.law_board.proofs.PlayLaw.{play_states, play_rows, play_bytes as all_bytes}
use Rattle.law_board.proofs.WorldsLaw.{worlds_states, worlds_levels, worlds_rows, worlds_bytes}
use Rattle.board_build.specs.declared.plan.PlanKind.{PlanKind}
use Rattle.board_build.specs.declared.plan.PlanKind.TheVariants as plans
use Rattle.board_build.specs.declared.plan.PlanPart.{PlanPart}
use Rattle.board_build.specs.declared.plan.Plan.{Plan}
use Rattle.board_build.specs.IsPlan.{IsPlan}
use Rattle.chip_host.specs.Inventory.{Given}
use Rattle.chip_host.specs.Chip.{Chip, chip, start_state}
use Rattle.chip_host.specs.ChipLaws.{drive_count, start_given}
use Rattle.chip_module.specs.declared.source.ChipSource.{ChipSource}
use Rattle.chip_module.specs.Sources.{pins_of}
use Rattle.any_part.specs.AnyPart.{AnyState, any, any_laws}
use Rattle.any_part.specs.Start.{given_of, Contents, chip_at_start, start_in, start_of, starts}
use Rattle.any_part.proofs.StartLemmas.{all_ready, start_at, starts_many}
use Rattle.sim_report.specs.declared.row.ReportRow.TheVariants as lines
use Rattle.sim_report.specs.Lines.{line_of}
use Rattle.board_report.specs.Report.{part_text, play_part_text, rest_text}
use Rattle.board_outputs.specs.Variables.{board_variables}
use Rattle.law_oled.proofs.BoardLaw.{are_shown}
use Rattle.project_run.specs.Run.{run_wave, run_bytes, run_report, run_wakes, run_texts}
use Rattle.board_outputs.specs.Run.{Outputs, texts_for}
use Rattle.law_isolation.specs.ChipRun.{IsAlone, state_at}
use Rattle.law_isolation.specs.PlayRun.{own_rows, play_wave, play_bytes, play_rest, chip_lines, play_texts}
use Rattle.law_isolation.specs.Worlds.{DifferInChips, DriveAlike, IsOneWorld, run_states}
use Rattle.law_isolation.specs.Isolated.{Isolated}
use Rattle.law_isolation.proofs.ChipLemmas.{IsChipState, quiet_chips, chips_are, chip_there, chips_begin, part_there, part_kind, stock_same}
use Rattle.law_isolation.proofs.StayLemmas.{chip_runs}
use Rattle.law_isolation.proofs.RestLemmas.{is_chip_at, rest_same}
use Rattle.law_isolation.proofs.WorldLemmas.{lines_same, plan_same, variables_same}

module _ (has : Contents) (plan : Plan) (is : IsPlan (pins_of has.chips) plan) (n : ℕ) where
  -- In a run each chip does, cycle by cycle, what it does alone: by its module, its pins, its attributes, its display's size, its
  -- budget and the levels of its own pins.
  module _ (i : ℕ) (part : PlanPart) (c : ℕ) (source : ChipSource) (at : slice_get plan.parts i ≡ Some part) (kind : part.kind ≡ plans.Chip c) (there : slice_get has.chips c ≡ Some source) where
    abbrev ss : List AnyState
    ss = starts has plan.parts

    abbrev given : Given
    given = given_of source part.attrs

    abbrev s : Chip
    s = start_state source.binary.wasm source.binary.init given has.budget

    here : slice_get ss i ≡ Some (inr (inr s))
    here = start_at has plan.parts i part (all_ready has plan is) at
        ∙ ap (λ (k : PlanKind). start_in has part.attrs part.settings k) kind
        ∙ ap (option_map (chip_at_start has.budget part.attrs)) there

    pins : length (chip.drives s) ≡ length source.pins
    pins = drive_count s ∙ ap (λ (g : Given). length g.names) (start_given source.binary.wasm source.binary.init given has.budget)

    abbrev Levels : ℕ → ℕ → List Level
    Levels p = own_levels any plan.wiring plan.inputs ss 0 i p

    -- its state at each cycle
    chip_stands : (t : ℕ) → state_at has plan n i t ≡ Some (inr (inr (part_run chip (Levels (length (chip.drives s))) (λ j. None) s 0 t)))
    chip_stands t =
        state_alone any any_laws plan.wiring plan.inputs ss 0 i (inr (inr s)) here t
        ∙ ap (λ (x : AnyState). Some x) (chip_runs (Levels (length (chip.drives s))) (λ j. input_at plan.inputs (0 + j) i) s 0 t)

    -- its drives in each cycle
    one : (k : ℕ) → own_drives any plan.wiring plan.inputs ss 0 i k ≡ chip.drives (part_run chip (Levels (length (chip.drives s))) (λ j. None) s 0 k)
    one k = ap (λ (x : Option AnyState). unwrap_or (option_map any.drives x) []) (chip_stands k)

    each : Alike (λ j x y. own_drives any plan.wiring plan.inputs ss 0 i x ≡ chip.drives (part_run chip (Levels (length (chip.drives s))) (λ j. None) s 0 y)) (below n) (below n)
    each = record { long = refl; each = λ j x y ex ey. let same : x ≡ y = cc in ap (own_drives any plan.wiring plan.inputs ss 0 i) same ∙ one y }

    abbrev Alone : ℕ → Type 0
    Alone p =
        (map (own_drives any plan.wiring plan.inputs ss 0 i) (below n) ≡ drive_rows chip s 0 (map (Levels p) (below n)))
        × ((t : ℕ) → t ≤ n → state_at has plan n i t ≡ Some (inr (inr (part_run chip (Levels p) (λ j. None) s 0 t))))

    drives_are : map (own_drives any plan.wiring plan.inputs ss 0 i) (below n) ≡ drive_rows chip s 0 (map (Levels (length (chip.drives s))) (below n))
    drives_are =
        map_alike (own_drives any plan.wiring plan.inputs ss 0 i) (λ k. chip.drives (part_run chip (Levels (length (chip.drives s))) (λ j. None) s 0 k)) (below n) (below n) each
        ∙ sym (rows_run chip (Levels (length (chip.drives s))) s 0 n)

    both : Alone (length source.pins)
    both = subst Alone pins (drives_are, λ t within. chip_stands t)

    pub chip_alone : IsAlone has plan n i part.attrs source
    chip_alone = record { drives = both.0; state = both.1 }

  -- The wave, the bytes and the report but for the chips are those of the same board with each chip replaced by a player of its drives.
  module _ (drive_rows : ℕ → List DriveRows) (drives : AreDrives any plan.wiring plan.inputs (starts has plan.parts) n (worlds.is_chip plan.wiring) drive_rows) where
    pub wave_played : run_wave has plan n ≡ play_wave has plan n drive_rows
    wave_played =
        ap (λ (r : List Row). wave_text (board_variables (pins_of has.chips) plan) r n)
        (play_rows any IsChipState quiet_chips plan.wiring plan.inputs (starts has plan.parts) n (worlds.is_chip plan.wiring) drive_rows (chips_begin has plan is) drives None)

    pub bytes_played : run_bytes has plan n ≡ play_bytes has plan n drive_rows
    bytes_played =
        all_bytes any IsChipState quiet_chips plan.wiring plan.inputs (starts has plan.parts) n (worlds.is_chip plan.wiring) drive_rows (chips_begin has plan is) drives

    pub rest_played : rest_text part_text n plan.parts (states any plan.wiring plan.inputs (starts has plan.parts) 0 n) ≡ play_rest has plan n drive_rows
    rest_played =
        let like = play_states any IsChipState quiet_chips plan.wiring plan.inputs (starts has plan.parts) n (worlds.is_chip plan.wiring) drive_rows (chips_begin has plan is)
        drives n (omega arith) in
        ap (λ (t : List ℕ). line_of (lines.Cycles n) ++ t) (rest_same part_text play_part_text plan.parts _ _
        (alike_weaker (λ k a b. worlds.is_chip plan.wiring k ≡ false → b ≡ inl a)
        (λ k a b. is_chip_at plan.parts k ≡ false → (part : PlanPart) → part_text part a ≡ play_part_text part b) _ _ like
        (λ k a b ea eb h c part. ap (play_part_text part) (sym (h (chips_are has plan is k ∙ c))))))

  -- So they are with the drives that the chips have in the run itself.
  own_are : AreDrives any plan.wiring plan.inputs (starts has plan.parts) n (worlds.is_chip plan.wiring) (own_rows has plan n)
  own_are = own.own_rows any any_laws plan.wiring plan.inputs (starts has plan.parts) (worlds.is_chip plan.wiring) n

  -- All texts are: the lines of the chips stand in the report behind all others.
  pub texts_of_play : (out : Outputs) → run_texts out has plan n ≡ play_texts out has plan n
  texts_of_play out =
      let wave : List ℕ = play_wave has plan n (own_rows has plan n) in
      let bytes : List ℕ = play_bytes has plan n (own_rows has plan n) in
      ap (λ (w : List ℕ). texts_for out w (run_bytes has plan n) (run_report has plan n) (run_wakes has plan n)) (wave_played (own_rows has plan n) own_are)
      ∙ ap (λ (b : List ℕ). texts_for out wave b (run_report has plan n) (run_wakes has plan n)) (bytes_played (own_rows has plan n) own_are)
      ∙ ap (λ (r : List ℕ). texts_for out wave bytes (r ++ chip_lines has plan n) (run_wakes has plan n)) (rest_played (own_rows has plan n) own_are)

-- Two worlds: projects that differ in what their chips are made of. As long as the chips drive the same, all else is the same.
module _ (one other : Contents) (plan twin : Plan) (end : ℕ)
    (is : IsPlan (pins_of one.chips) plan) (differ : DifferInChips one other plan twin) (alike : DriveAlike one other plan twin end) where
  -- the parts of the other, wired so
  abbrev wired : Wiring → List Input → Plan
  wired w inputs = record { parts = twin.parts; wiring = w; inputs = inputs }

  abbrev beside : Plan
  beside = wired plan.wiring plan.inputs

  also : IsPlan (pins_of other.chips) beside
  also = subst (λ (names : List (List (Option (List ℕ)))). IsPlan names beside) differ.pins (plan_same (pins_of one.chips) plan twin.parts differ.parts is)

  -- what holds of that wiring holds of the other's own, which is the same
  as_wired : (P : Wiring → List Input → Type 0) → P plan.wiring plan.inputs → P twin.wiring twin.inputs
  as_wired P p = subst (λ (i : List Input). P twin.wiring i) differ.inputs (subst (λ (w : Wiring). P w plan.inputs) differ.wiring p)

  as_beside : (P : Wiring → List Input → Type 0) → P twin.wiring twin.inputs → P plan.wiring plan.inputs
  as_beside P p = subst (λ (w : Wiring). P w plan.inputs) (sym differ.wiring) (subst (λ (i : List Input). P twin.wiring i) (sym differ.inputs) p)

  -- the other's states in cycle t, in that wiring
  abbrev other_states : Wiring → List Input → ℕ → List AnyState
  other_states w inputs t = states any w inputs (starts other twin.parts) 0 t

  rest_starts : SameRest plan.wiring (starts one plan.parts) (starts other twin.parts)
  rest_starts = record {
    long = many ∙ differ.parts.long ∙ sym others;
    each = λ k a b ea eb not.
        let p = part_there plan.parts k (omega (arith, slice_get_within (starts one plan.parts) k a ea, many)) in
        let q = part_there twin.parts k (omega (arith, slice_get_within (starts other twin.parts) k b eb, others)) in
        let kind = part_kind plan.parts k p.0 p.1 ∙ sym (chips_are one plan is k) ∙ not in
        let starts_same : Some a ≡ Some b =
        sym ea
        ∙ start_at one plan.parts k p.0 (all_ready one plan is) p.1
        ∙ stock_same one other differ.flash p.0.attrs p.0.settings p.0.kind kind
        ∙ ap (start_of other) ((differ.parts.each k p.0 q.0 p.1 q.1).rest kind)
        ∙ sym (start_at other twin.parts k q.0 (all_ready other beside also) q.1)
        ∙ eb in
        cc;
  }
    where
      many : length (starts one plan.parts) ≡ length plan.parts
      many = starts_many one plan.parts (all_ready one plan is)

      others : length (starts other twin.parts) ≡ length twin.parts
      others = starts_many other twin.parts (all_ready other beside also)

  chips_alike : (t : ℕ) → t < end → SameChips any plan.wiring (run_states one plan t) (other_states plan.wiring plan.inputs t)
  chips_alike t h = as_beside (λ w inputs. SameChips any plan.wiring (run_states one plan t) (other_states w inputs t)) (alike t h)

  chips_one : TheseAre IsChipState (worlds.is_chip plan.wiring) (starts one plan.parts)
  chips_one = chips_begin one plan is

  chips_other : TheseAre IsChipState (worlds.is_chip plan.wiring) (starts other twin.parts)
  chips_other = chips_begin other beside also

  rest_alike : (t : ℕ) → t ≤ end → SameRest plan.wiring (run_states one plan t) (other_states plan.wiring plan.inputs t)
  rest_alike =
      worlds_states any IsChipState quiet_chips plan.wiring plan.inputs (starts one plan.parts) (starts other twin.parts) 0 end
      chips_one chips_other rest_starts chips_alike

  levels_alike : (t : ℕ) → t < end → levels_of any plan.wiring (run_states one plan t) ≡ levels_of any plan.wiring (other_states plan.wiring plan.inputs t)
  levels_alike =
      worlds_levels any IsChipState quiet_chips plan.wiring plan.inputs (starts one plan.parts) (starts other twin.parts) 0 end
      chips_one chips_other rest_starts chips_alike

  bytes_alike : (t : ℕ) → t ≤ end → run_bytes one plan t ≡ bytes any plan.wiring plan.inputs (starts other twin.parts) 0 t
  bytes_alike =
      worlds_bytes any IsChipState quiet_chips plan.wiring plan.inputs (starts one plan.parts) (starts other twin.parts) 0 end
      chips_one chips_other rest_starts chips_alike

  rows_alike : rows any plan.wiring plan.inputs None (starts one plan.parts) 0 end ≡ rows any plan.wiring plan.inputs None (starts other twin.parts) 0 end
  rows_alike =
      worlds_rows any IsChipState quiet_chips plan.wiring plan.inputs (starts one plan.parts) (starts other twin.parts) 0 end
      chips_one chips_other rest_starts chips_alike None end (omega arith)

  shown_alike : board_variables (pins_of one.chips) plan ≡ board_variables (pins_of other.chips) beside
  shown_alike =
      ap (λ (names : List (List (Option (List ℕ)))). board_variables names plan) differ.pins
      ∙ variables_same (pins_of other.chips) plan.wiring.net_of plan.wiring.first_pin plan.parts twin.parts differ.parts

  wave_alike : run_wave one plan end ≡ run_wave other beside end
  wave_alike =
      ap (λ (vs : List Variable). wave_text vs (rows any plan.wiring plan.inputs None (starts one plan.parts) 0 end) end) shown_alike
      ∙ ap (λ (r : List Row). wave_text (board_variables (pins_of other.chips) beside) r end) rows_alike

  abbrev report_one : List ℕ
  report_one = rest_text part_text end plan.parts (run_states one plan end)

  report_alike : report_one ≡ rest_text part_text end twin.parts (other_states plan.wiring plan.inputs end)
  report_alike =
      let xs : List AnyState = run_states one plan end in
      let ys : List AnyState = other_states plan.wiring plan.inputs end in
      let Rest : ℕ → AnyState → AnyState → Type 0 = λ k a b. worlds.is_chip plan.wiring k ≡ false → a ≡ b in
      let Says : ℕ → AnyState → AnyState → Type 0 = λ k a b. is_chip_at plan.parts k ≡ false → (part : PlanPart) → part_text part a ≡ part_text part b in
      let each = alike_weaker Rest Says xs ys (rest_alike end (omega arith)) (λ k a b ea eb h c part. ap (part_text part) (h (chips_are one plan is k ∙ c))) in
      let same = rest_same part_text part_text plan.parts xs ys each ∙ lines_same part_text plan.parts twin.parts ys differ.parts in
      ap (λ (t : List ℕ). line_of (lines.Cycles end) ++ t) same

  pub one_world : IsOneWorld one other plan twin end
  one_world = record {
    rest = λ t h. as_wired (λ w inputs. SameRest plan.wiring (run_states one plan t) (other_states w inputs t)) (rest_alike t h);
    levels = λ t h. as_wired (λ w inputs. levels_of any plan.wiring (run_states one plan t) ≡ levels_of any w (other_states w inputs t)) (levels_alike t h);
    bytes = λ t h. as_wired (λ w inputs. run_bytes one plan t ≡ bytes any w inputs (starts other twin.parts) 0 t) (bytes_alike t h);
    wave = as_wired (λ w inputs. run_wave one plan end ≡ run_wave other (wired w inputs) end) wave_alike;
    report = as_wired (λ w inputs. report_one ≡ rest_text part_text end twin.parts (other_states w inputs end)) report_alike;
  }

-- so every run of a plan that `build` answers is isolated
pub isolated : (has : Contents) (plan : Plan) → IsPlan (pins_of has.chips) plan → (n : ℕ) → Isolated has plan n
isolated has plan is n = record {
  alone = λ i part c at kind.
      let source = chip_there has plan is i part c at kind in
      (source.0, source.1, chip_alone has plan is n i part c source.0 at kind source.1);
  played = texts_of_play has plan is n;
  worlds = λ other twin end within differ alike. one_world has other plan twin end is differ alike;
  shown = are_shown has plan is n;
}
