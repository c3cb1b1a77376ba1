-- Players of what is read of a run's wave drive what its chips drove.
use Rattle.std.proofs.Common.{◌≡◌, inl, inr, ◌<◌, ◌≤◌, ◌+◌, ◌-◌, ◌*◌, ◌^◌, ℕ, zero, suc, List, [], ◌∷◌, ◌++◌, length, map, take, drop, Bool, true, false}
use Rattle.std.proofs.Common.{if◌then◌else◌, Option, None, Some, Ok, refl, ap, sym, ◌∙◌, subst, arith, get_or}
use Rattle.std.specs.Prelude.{slice_get, slice_index, unwrap_or}
use Rattle.std.specs.List.{range_with_len, flat_map}
use Rattle.std.specs.Option.{option_map}
use Rattle.std.proofs.lemmas.List.{append-nil, drop-map, same_lists}
use Rattle.std.proofs.lemmas.List.FromFn.{get_or-map-range_with_len, length-map-range_with_len, take-map-range_with_len}
use Rattle.std.proofs.lemmas.Simd.{map-map}
use Rattle.std.proofs.lemmas.Option.{slice_get_cases, slice_get_within}
use Rattle.sim_base.specs.declared.signal.Drive.{Drive}
use Rattle.sim_base.specs.declared.wiring.Wiring.{Wiring}
use Rattle.sim_base.specs.declared.wiring.Input.{Input}
use Rattle.sim_base.specs.Rows.{Row}
use Rattle.text_model.specs.Wave.{Variable, wave_text}
use Rattle.part_law.specs.Machine.{Machine, Laws}
use Rattle.board_model.specs.Board.{states}
use Rattle.board_model.specs.Fits.{Fits}
use Rattle.board_model.specs.Rows.{is_new, row_of, shown_before, shown_of, rows}
use Rattle.board_model.proofs.Lists.{flat_map_room, get_within}
use Rattle.law_board.specs.InForce.{row_at, part_drives}
use Rattle.law_board.specs.Play.{AreDrives}
use Rattle.law_board.specs.Player.{DriveRows, drive_at}
use Rattle.law_board.specs.Worlds.{is_chip}
use Rattle.law_board.proofs.InForceLaw.{in_force}
use Rattle.vcd_text.specs.Tracks.{rows_to, wave_rows}
use Rattle.law_wave.specs.Read.{written_rows, rows_of_part, AreTold}
use Rattle.law_wave.specs.Written.{AreLater, AreOfRun, written_drive}
use Rattle.law_wave.proofs.WaveLaw.{wave_read, plays, told_drive, no_drive}

-- ---- the rows of a run are in order

later_more : (n : ℕ) (rs : List Row) (c : ℕ) → AreLater c rs n → AreLater c rs (suc n)
later_more n [] c are = omega (arith, are)
later_more n (r ∷ rs) c are = (are.0, later_more n rs r.cycle are.1)

later_push : (n : ℕ) (row : Row) → row.cycle ≡ n → (rs : List Row) (c : ℕ) → AreLater c rs n → AreLater c (rs ++ row ∷ []) (suc n)
later_push n row at [] c are = (omega (arith, at, are), omega (arith, at))
later_push n row at (r ∷ rs) c are = (are.0, later_push n row at rs r.cycle are.1)

run_more : (n : ℕ) (rs : List Row) → AreOfRun rs n → AreOfRun rs (suc n)
run_more n [] are = absurd are
run_more n (r ∷ rs) are = (are.0, later_more n rs 0 are.1)

run_push : (n : ℕ) (row : Row) → row.cycle ≡ n → (rs : List Row) → AreOfRun rs n → AreOfRun (rs ++ row ∷ []) (suc n)
run_push n row at [] are = absurd are
run_push n row at (r ∷ rs) are = (are.0, later_push n row at rs 0 are.1)

-- ---- parts of lists

taken : {A : Type 0} (c j : ℕ) (xs : List A) → j < c → slice_get (take c xs) j ≡ slice_get xs j
taken zero j xs less = absurd (omega (arith, less))
taken (suc c) j [] less = refl
taken (suc c) zero (x ∷ xs) less = refl
taken (suc c) (suc j) (x ∷ xs) less = taken c j xs (omega (arith, less))

dropped : {A : Type 0} (f j : ℕ) (xs : List A) → slice_get (drop f xs) j ≡ slice_get xs (f + j)
dropped zero j xs = let e : j ≡ 0 + j = omega arith in ap (slice_get xs) e
dropped (suc f) j [] = refl
dropped (suc f) j (x ∷ xs) = let e : suc (f + j) ≡ suc f + j = omega arith in dropped f j xs ∙ ap (slice_get (x ∷ xs)) e

part_at : {A : Type 0} (f c j : ℕ) (xs : List A) → j < c → slice_get (take c (drop f xs)) j ≡ slice_get xs (f + j)
part_at f c j xs less = taken c j (drop f xs) less ∙ dropped f j xs

drop_range : (f a n : ℕ) → drop f (range_with_len a n) ≡ range_with_len (a + f) (n - f)
drop_range zero a n =
    let e : a ≡ a + 0 = omega arith in
    let g : n ≡ n - 0 = omega arith in
    ap (λ (x : ℕ). range_with_len x n) e ∙ ap (range_with_len (a + 0)) g
drop_range (suc f) a zero = let g : 0 ≡ 0 - suc f = omega arith in ap (range_with_len (a + suc f)) g
drop_range (suc f) a (suc n) =
    let e : a + 1 + f ≡ a + suc f = omega arith in
    let g : n - f ≡ suc n - suc f = omega arith in
    drop_range f (a + 1) n ∙ ap (λ (x : ℕ). range_with_len x (n - f)) e ∙ ap (range_with_len (a + suc f)) g

-- a chip has a place in the list
pub is_there : (chips : List Bool) (k : ℕ) → unwrap_or (slice_get chips k) false ≡ true → k < length chips
is_there [] k is = absurd cc
is_there (c ∷ chips) zero is = omega arith
is_there (c ∷ chips) (suc k) is = omega (arith, is_there chips k is)

module _ {S : Type 0} (m : Machine S) (w : Wiring) (inputs : List Input) (ss : List S) where
  abbrev run_rows : ℕ → List Row
  run_rows n = rows m w inputs None ss 0 n

  -- the rows of the first cycles of a run
  pub of_run : (n : ℕ) → AreOfRun (run_rows (suc n)) (suc n)
  unfolding rows shown_before
  of_run zero = (refl, omega arith)
  of_run (suc n) = go (is_new (shown_before m w inputs None ss 0 (suc n)) (shown_of m w (states m w inputs ss 0 (suc n)))) (of_run n)
    where
      row : Row
      row = row_of m w (states m w inputs ss 0 (suc n)) (0 + suc n)

      go : (b : Bool) → AreOfRun (run_rows (suc n)) (suc n) → AreOfRun (run_rows (suc n) ++ (if b then row ∷ [] else [])) (suc (suc n))
      go true are = let e : 0 + suc n ≡ suc n = omega arith in run_push (suc n) row e (run_rows (suc n)) are
      go false are = subst (λ (l : List Row). AreOfRun l (suc (suc n))) (sym (append-nil (run_rows (suc n)))) (run_more (suc n) (run_rows (suc n)) are)

  module _ (laws : Laws m) (fits : (u : ℕ) → Fits m w (states m w inputs ss 0 u)) (n : ℕ) (vs : List Variable) (counts : ℕ → ℕ)
      (told : AreTold m w inputs ss n vs counts) where
    abbrev first : ℕ → ℕ
    first k = slice_index w.first_pin k

    abbrev said : ℕ → ℕ → Drive
    said pin t = written_drive vs (run_rows n) pin t

    -- the wave says what each pin of a chip drives
    pin_said : (k t j : ℕ) (s : S) (d : Drive) → is_chip w k ≡ true → t < n → slice_get (states m w inputs ss 0 t) k ≡ Some s →
        slice_get (m.drives s) j ≡ Some d → said (first k + j) t ≡ d
    pin_said k t j s d is less here at =
        let force = in_force m w inputs ss 0 laws fits n t less in
        let row : Row = force.0 in
        let z : t ≡ 0 + t = omega arith in
        let in_it : row_at (run_rows n) t ≡ Some row = ap (row_at (run_rows n)) z ∙ force.1 in
        let own : part_drives w k (length (m.drives s)) row ≡ m.drives s = force.3 k s is here in
        let there : slice_get row.drives (first k + j) ≡ Some d = sym (part_at (first k) (length (m.drives s)) j row.drives (slice_get_within (m.drives s) j d at))
        ∙ ap (λ (l : List Drive). slice_get l j) own ∙ at in
        elim (told.each k t j s d is less here at) [
          | inl none ↦ no_drive vs (run_rows n) (first k + j) t row d in_it there none ∙ sym none
          | inr shown ↦ told_drive vs (run_rows n) (first k + j) t row d in_it there shown.0 shown.1
        ]

    abbrev pin_rows : ℕ → DriveRows
    pin_rows pin = rows_to (said pin) (suc n)

    -- the pins of a chip are pins of the board
    within : (k t : ℕ) (s : S) → k < length (states m w inputs ss 0 t) → slice_get (states m w inputs ss 0 t) k ≡ Some s → first k + length (m.drives s) ≤ length w.net_of
    within k t s less here =
        let room = flat_map_room m.drives (states m w inputs ss 0 t) k s here in
        let pins : length w.net_of ≡ length (flat_map m.drives (states m w inputs ss 0 t)) = (fits t).pins in
        let place : first k ≡ length (flat_map m.drives (take k (states m w inputs ss 0 t))) = (fits t).places k less in
        omega (arith, room, pins, place)

    rows_are : (k c : ℕ) → counts k ≡ c → first k + c ≤ length w.net_of →
        rows_of_part w counts (written_rows vs (run_rows n) (length w.net_of) n) k ≡ map pin_rows (range_with_len (first k) c)
    rows_are k c count inside =
        let e : 0 + first k ≡ first k = omega arith in
        ap (λ (x : ℕ). take x (drop (first k) (map pin_rows (range_with_len 0 (length w.net_of))))) count
        ∙ ap (take c) (drop-map pin_rows (first k) (range_with_len 0 (length w.net_of))
        ∙ ap (map pin_rows) (drop_range (first k) 0 (length w.net_of) ∙ ap (λ (x : ℕ). range_with_len x (length w.net_of - first k)) e))
        ∙ take-map-range_with_len pin_rows (first k) (length w.net_of - first k) c (omega (arith, inside))

    one_part : (k t : ℕ) (s : S) → is_chip w k ≡ true → t < n → k < length (states m w inputs ss 0 t) → slice_get (states m w inputs ss 0 t) k ≡ Some s →
        map (λ (r : DriveRows). drive_at r t) (rows_of_part w counts (written_rows vs (run_rows n) (length w.net_of) n) k) ≡ m.drives s
    one_part k t s is less inside here =
        let c : ℕ = length (m.drives s) in
        let now : ℕ → Drive = λ pin. drive_at (pin_rows pin) t in
        ap (map (λ (r : DriveRows). drive_at r t)) (rows_are k c (sym (told.many k t s is here)) (within k t s inside here))
        ∙ map-map (λ (r : DriveRows). drive_at r t) pin_rows (range_with_len (first k) c)
        ∙ same_lists (map now (range_with_len (first k) c)) (m.drives s) (length-map-range_with_len now (first k) c) (λ j d p.
        let q : j < c = omega (arith, p, length-map-range_with_len now (first k) c) in
        get_or-map-range_with_len now (first k) c j (first k + j) d q refl
        ∙ plays (said (first k + j)) (suc n) t (omega (arith, less))
        ∙ pin_said k t j s (get_or (m.drives s) j d) is less here (get_within (m.drives s) j d q))

    -- Players of the rows that were read drive in each cycle what the chips drove.
    pub drives_read : AreDrives m w inputs ss n (is_chip w) (rows_of_part w counts (written_rows vs (run_rows n) (length w.net_of) n))
    drives_read k t is less =
        let inside : k < length (states m w inputs ss 0 t) = omega (arith, is_there w.chip k is, (fits t).chips) in
        elim (slice_get_cases (states m w inputs ss 0 t) k).1 [
          | inl found ↦ one_part k t found.0 is less inside found.2 ∙ sym (ap (λ (o : Option S). unwrap_or (option_map m.drives o) []) found.2)
          | inr past ↦ absurd (omega (arith, past.0, inside))
        ]

    -- and they are what is read of the run's wave
    pub run_read : length vs ≤ 8930 → 625 * n < 2 ^ 64 → 0 < n →
        wave_rows vs (length w.net_of) n (wave_text vs (run_rows n) n) ≡ Ok (written_rows vs (run_rows n) (length w.net_of) n)
    run_read few small some = wave_read vs n few small (run_rows n) (of_some n some) (length w.net_of)
      where
        of_some : (n : ℕ) → 0 < n → AreOfRun (run_rows n) n
        of_some zero some = absurd (omega (arith, some))
        of_some (suc n) some = of_run n
