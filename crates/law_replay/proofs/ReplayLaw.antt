-- The wave that a run wrote is replayed to the same wave, the same bytes and the same report but for the chips.
use Rattle.std.proofs.Common.{◌≡◌, ◌⊎◌, inl, inr, ◌<◌, ◌≤◌, ◌+◌, ◌*◌, ◌^◌, ℕ, zero, suc, List, [], length, map, Bool, true, false, Option, None, Some, refl, ap, sym, ◌∙◌}
use Rattle.std.proofs.Common.{arith}
use Rattle.std.specs.Prelude.{slice_get, slice_index, option_map, unwrap_or}
use Rattle.std.specs.List.{range_with_len}
use Rattle.std.proofs.lemmas.Bool.{cases_Bool}
use Rattle.std.proofs.lemmas.List.{length-map}
use Rattle.std.proofs.lemmas.List.FromFn.{get_or-map-range_with_len, length-map-range_with_len}
use Rattle.std.proofs.lemmas.Option.{slice_get_within, slice_get-get_or, slice_get-map}
use Rattle.sim_base.specs.declared.signal.Drive.{Drive}
use Rattle.sim_base.specs.declared.signal.Drive.TheVariants as drives
use Rattle.sim_base.specs.declared.signal.Level.{Level}
use Rattle.board_model.specs.Board.{input_at, states}
use Rattle.board_model.specs.Fits.{Fits}
use Rattle.board_model.proofs.Lists.{get_within, some_same}
use Rattle.board_model.proofs.RoomLemmas.{fits_after}
use Rattle.law_board.specs.Alone.{part_run, own_levels}
use Rattle.law_board.specs.Play.{AreDrives}
use Rattle.law_board.specs.Worlds as worlds
use Rattle.law_board.proofs.AloneLaw.{state_alone}
use Rattle.board_build.specs.declared.plan.Plan.{Plan}
use Rattle.board_build.specs.declared.plan.PlanKind.{PlanKind}
use Rattle.board_build.specs.declared.plan.PlanKind.TheVariants as plans
use Rattle.board_build.specs.declared.plan.PlanPart.{PlanPart}
use Rattle.board_build.specs.IsPlan.{IsPlan, kinds_in}
use Rattle.board_build.specs.Parts.{is_chip}
use Rattle.board_build.specs.Pins.{count_of, pins_of_chip}
use Rattle.chip_host.specs.Chip.{Chip, chip, chip_drive, start_state}
use Rattle.chip_host.specs.ChipLaws.{Fixed, drive_count, start_given, step_fixed}
use Rattle.chip_host.specs.Inventory.{Given}
use Rattle.chip_module.specs.declared.source.ChipSource.{ChipSource}
use Rattle.chip_module.specs.Sources.{pins_of}
use Rattle.any_part.specs.AnyPart.{AnyState, any, any_laws}
use Rattle.any_part.specs.Start.{Contents, chip_at_start, given_of, start_in, starts}
use Rattle.any_part.proofs.StartLemmas.{all_ready, start_at, starts_fit}
use Rattle.law_chip.specs.Named.{is_named, HasFree}
use Rattle.law_chip.proofs.DriveLaw.{start_named, step_named, unnamed_drives, no_wiper}
use Rattle.law_wave.specs.Read.{AreTold}
use Rattle.law_wave.specs.Written.{IsPlain, IsTold}
use Rattle.law_wave.proofs.RunLaw.{drives_read, is_there, run_read}
use Rattle.law_isolation.proofs.ChipLemmas.{chips_are, chip_there, part_there, part_kind}
use Rattle.law_isolation.proofs.StayLemmas.{chip_runs}
use Rattle.law_isolation.proofs.Isolation.{wave_played, bytes_played, rest_played}
use Rattle.law_replay.specs.Replayed.{shown, pins_at, part_of, own_drives, IsReplayed}
use Rattle.law_replay.proofs.VariableLemmas.{named_told}

plain_is : (d : Drive) → ((w : ℕ) → d ≡ drives.Wiper w → ⊥) → IsPlain d
plain_is drives.Z differs = tt
plain_is drives.Low differs = tt
plain_is drives.High differs = tt
plain_is drives.PullLow differs = tt
plain_is drives.PullHigh differs = tt
plain_is (drives.Wiper w) differs = differs w refl

-- a chip that runs alone keeps off a pin without a name
run_named : (names : List (Option (List ℕ))) (i : ℕ) → is_named names i ≡ false → (levels : ℕ → List Level) (inputs : ℕ → Option ℕ) (s : Chip) → HasFree names i s →
    (n : ℕ) → HasFree names i (part_run chip levels inputs s 0 n)
unfolding part_run
run_named names i un levels inputs s is zero = is
run_named names i un levels inputs s is (suc n) = step_named names i un (part_run chip levels inputs s 0 n) (0 + n) (levels n) (run_named names i un levels inputs s is n)

run_given : (levels : ℕ → List Level) (inputs : ℕ → Option ℕ) (s : Chip) (n : ℕ) → (part_run chip levels inputs s 0 n).given ≡ s.given
unfolding part_run
run_given levels inputs s zero = refl
run_given levels inputs s (suc n) =
    let r = part_run chip levels inputs s 0 n in ap (λ (f : Fixed). f.given) (step_fixed r (0 + n) (levels n)) ∙ run_given levels inputs s n

-- the drive of a pin
drive_is : (s : Chip) (j : ℕ) (d : Drive) → slice_get (chip.drives s) j ≡ Some d → d ≡ chip_drive s j
drive_is s j d at =
    let m : ℕ = length s.given.names in
    let within : j < length (map (chip_drive s) (range_with_len 0 m)) = slice_get_within (chip.drives s) j d at in
    let less : j < m = omega (arith, within, length-map-range_with_len (chip_drive s) 0 m) in
    some_same (sym at ∙ slice_get-get_or (chip.drives s) j d within
    ∙ ap (λ (x : Drive). Some x) (get_or-map-range_with_len (chip_drive s) 0 m j j d less (omega arith)))

chip_kind : (kind : PlanKind) → is_chip (Some kind) ≡ true → (c : ℕ) × (kind ≡ plans.Chip c)
chip_kind (plans.Stock kind) is = absurd cc
chip_kind (plans.Chip c) is = (c, refl)

module _ (has : Contents) (plan : Plan) (is : IsPlan (pins_of has.chips) plan) (n : ℕ) where
  abbrev ss : List AnyState
  ss = starts has plan.parts

  fits : (u : ℕ) → Fits any plan.wiring (states any plan.wiring plan.inputs ss 0 u)
  fits u = fits_after any any_laws plan.wiring plan.inputs ss 0 u (starts_fit has plan is)

  -- part k is this chip of the project, in such a state in cycle t
  record IsChip (k t : ℕ) (s : AnyState) : Type 0 where
    part : PlanPart
    here : slice_get plan.parts k ≡ Some part
    number : ℕ
    kind : part.kind ≡ plans.Chip number
    source : ChipSource
    there : slice_get has.chips number ≡ Some source
    own : Chip
    same : s ≡ inr (inr own)
    names : own.given.names ≡ source.pins
    unnamed : (j : ℕ) → is_named source.pins j ≡ false → HasFree source.pins j own

  chip_is : (k t : ℕ) (s : AnyState) → worlds.is_chip plan.wiring k ≡ true → slice_get (states any plan.wiring plan.inputs ss 0 t) k ≡ Some s → IsChip k t s
  chip_is k t s chips at =
      let inside : k < length plan.wiring.chip = is_there plan.wiring.chip k chips in
      let less : k < length plan.parts = omega (arith, inside, many) in
      let part = part_there plan.parts k less in
      let kind = chip_kind part.0.kind (part_kind plan.parts k part.0 part.1 ∙ sym (chips_are has plan is k) ∙ chips) in
      let source = chip_there has plan is k part.0 kind.0 part.1 kind.1 in
      record {
        part = part.0;
        here = part.1;
        number = kind.0;
        kind = kind.1;
        source = source.0;
        there = source.1;
        own = own part.0 source.0;
        same = state_is part.0 kind.0 source.0 part.1 kind.1 source.1;
        names = names_are part.0 source.0;
        unnamed = λ j un. unnamed_is part.0 source.0 j un;
      }
    where
      many : length plan.wiring.chip ≡ length plan.parts
      many = ap (λ (l : List Bool). length l) is.chips ∙ length-map (kinds_in plan.parts) is_chip ∙ length-map plan.parts (λ (part : PlanPart). Some part.kind)

      given : PlanPart → ChipSource → Given
      given part source = given_of source part.attrs

      begun : PlanPart → ChipSource → Chip
      begun part source = start_state source.binary.wasm source.binary.init (given part source) has.budget

      levels : PlanPart → ChipSource → ℕ → List Level
      levels part source = own_levels any plan.wiring plan.inputs ss 0 k (length (chip.drives (begun part source)))

      own : PlanPart → ChipSource → Chip
      own part source = part_run chip (levels part source) (λ j. None) (begun part source) 0 t

      names_are : (part : PlanPart) (source : ChipSource) → (own part source).given.names ≡ source.pins
      names_are part source =
          ap (λ (g : Given). g.names) (run_given (levels part source) (λ j. None) (begun part source) t
          ∙ start_given source.binary.wasm source.binary.init (given part source) has.budget)

      unnamed_is : (part : PlanPart) (source : ChipSource) (j : ℕ) → is_named source.pins j ≡ false → HasFree source.pins j (own part source)
      unnamed_is part source j un =
          run_named source.pins j un (levels part source) (λ j. None) (begun part source)
          (start_named source.binary.wasm source.binary.init (given part source) has.budget j un) t

      begins : (part : PlanPart) (c : ℕ) (source : ChipSource) → slice_get plan.parts k ≡ Some part → part.kind ≡ plans.Chip c → slice_get has.chips c ≡ Some source →
          slice_get ss k ≡ Some (inr (inr (begun part source)))
      begins part c source here kind there =
          start_at has plan.parts k part (all_ready has plan is) here
          ∙ ap (λ (x : PlanKind). start_in has part.attrs part.settings x) kind
          ∙ ap (option_map (chip_at_start has.budget part.attrs)) there

      state_is : (part : PlanPart) (c : ℕ) (source : ChipSource) → slice_get plan.parts k ≡ Some part → part.kind ≡ plans.Chip c → slice_get has.chips c ≡ Some source →
          s ≡ inr (inr (own part source))
      state_is part c source here kind there =
          some_same (sym at ∙ state_alone any any_laws plan.wiring plan.inputs ss 0 k (inr (inr (begun part source))) (begins part c source here kind there) t)
          ∙ chip_runs (levels part source) (λ j. input_at plan.inputs (0 + j) k) (begun part source) 0 t

  -- each chip has its pins, and each of them drives nothing, or is told whole
  told : AreTold any plan.wiring plan.inputs ss n (shown has plan) (pins_at has plan)
  told = record { many = many; each = each }
    where
      pins_are : (c : ℕ) (source : ChipSource) → slice_get has.chips c ≡ Some source → pins_of_chip (pins_of has.chips) c ≡ source.pins
      pins_are c source there =
          ap (λ (o : Option (List (Option (List ℕ)))). unwrap_or o []) (slice_get-map (λ (x : ChipSource). x.pins) has.chips c
          ∙ ap (option_map (λ (x : ChipSource). x.pins)) there)

      many : (k t : ℕ) (s : AnyState) → worlds.is_chip plan.wiring k ≡ true → slice_get (states any plan.wiring plan.inputs ss 0 t) k ≡ Some s → length (any.drives s) ≡ pins_at has plan k
      many k t s chips at =
          let it = chip_is k t s chips at in
          ap (λ (x : AnyState). length (any.drives x)) it.same ∙ drive_count it.own ∙ ap (λ (l : List (Option (List ℕ))). length l) it.names
          ∙ sym (ap (λ (o : Option PlanPart). count_of (pins_of has.chips) (option_map (λ (part : PlanPart). part.kind) o)) it.here
          ∙ ap (λ (x : PlanKind). count_of (pins_of has.chips) (Some x)) it.kind
          ∙ ap (λ (l : List (Option (List ℕ))). length l) (pins_are it.number it.source it.there))

      each : (k t j : ℕ) (s : AnyState) (d : Drive) → worlds.is_chip plan.wiring k ≡ true → t < n → slice_get (states any plan.wiring plan.inputs ss 0 t) k ≡ Some s →
          slice_get (any.drives s) j ≡ Some d → (d ≡ drives.Z) ⊎ (IsTold (shown has plan) (slice_index plan.wiring.first_pin k + j) × IsPlain d)
      each k t j s d chips less at here = go (cases_Bool (is_named it.source.pins j))
        where
          it : IsChip k t s
          it = chip_is k t s chips at

          is_drive : d ≡ chip_drive it.own j
          is_drive = drive_is it.own j d (ap (λ (x : AnyState). slice_get (any.drives x) j) (sym it.same) ∙ here)

          first_there : slice_get plan.wiring.first_pin k ≡ Some (slice_index plan.wiring.first_pin k)
          first_there =
              let inside : k < length plan.wiring.chip = is_there plan.wiring.chip k chips in
              let parts : length plan.wiring.first_pin ≡ length ss = (starts_fit has plan is).parts in
              let chips : length plan.wiring.chip ≡ length ss = (starts_fit has plan is).chips in
              get_within plan.wiring.first_pin k 0 (omega (arith, inside, parts, chips))

          go : (is_named it.source.pins j ≡ true) ⊎ (is_named it.source.pins j ≡ false) →
              (d ≡ drives.Z) ⊎ (IsTold (shown has plan) (slice_index plan.wiring.first_pin k + j) × IsPlain d)
          go (inl named) = inr (
            named_told (pins_of has.chips) plan.wiring.net_of plan.wiring.first_pin plan.parts k (slice_index plan.wiring.first_pin k) it.number j it.part first_there it.here it.kind
                (ap (λ (l : List (Option (List ℕ))). is_named l j) (pins_are it.number it.source it.there) ∙ named),
            plain_is d (λ w e. no_wiper it.own j w (sym is_drive ∙ e)),
          )
          go (inr unnamed) = inl (is_drive ∙ unnamed_drives it.source.pins it.own j (it.unnamed j unnamed))

  read_are : AreDrives any plan.wiring plan.inputs ss n (worlds.is_chip plan.wiring) (part_of has plan (own_drives has plan n))
  read_are = drives_read any plan.wiring plan.inputs ss any_laws fits n (shown has plan) (pins_at has plan) told

  -- A wave that a run wrote is read, and the run with players of what was read in place of the chips writes it again.
  pub replayed : length (shown has plan) ≤ 8930 → 625 * n < 2 ^ 64 → 0 < n → IsReplayed has plan n (own_drives has plan n)
  replayed few small some = record {
    read = run_read any plan.wiring plan.inputs ss any_laws fits n (shown has plan) (pins_at has plan) told few small some;
    wave = wave_played has plan is n (part_of has plan (own_drives has plan n)) read_are;
    bytes = bytes_played has plan is n (part_of has plan (own_drives has plan n)) read_are;
    rest = rest_played has plan is n (part_of has plan (own_drives has plan n)) read_are;
  }
