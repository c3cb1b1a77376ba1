-- In a stretch each part glides and the board shows nothing.
use Rattle.std.proofs.Common.{◌≡◌, ℕ, zero, suc, ◌+◌, ◌<◌, ◌≤◌, List, [], ◌∷◌, ◌++◌, ◌∙◌, length, map, Bool, true, false, Option, None, Some, refl, ap, sym, arith, subst, get_or}
use Rattle.std.specs.Prelude.{slice_get, ◌||◌, ◌&&◌, not, if◌then◌else◌}
use Rattle.std.specs.Option.{is_some}
use Rattle.std.proofs.lemmas.Option.{slice_get_within}
use Rattle.sim_base.specs.declared.signal.Level.{Level}
use Rattle.sim_base.specs.declared.signal.Drive.{Drive}
use Rattle.sim_base.specs.declared.wiring.Wiring.{Wiring}
use Rattle.sim_base.specs.declared.wiring.Input.{Input}
use Rattle.sim_base.specs.Rows.{Row}
use Rattle.part_law.specs.Machine.{Machine, Laws, glide, IsQuiet}
use Rattle.part_law.proofs.MachineLemmas.{glide_valid, glide_drives, glide_contacts, glide_holds}
use Rattle.board_model.specs.Board.{level_at, own_nets, levels_of, input_at, part_step, steps_from, options, bytes_of, states, bytes}
use Rattle.board_model.specs.Rows.{same_list, same_level, same_drive, Shown, shown_of, is_new, row_if, row_of, shown_before, rows}
use Rattle.board_model.proofs.Lists.{some_same, get_map_some, get_within}
use Rattle.law_board.specs.Alike.{Alike, SameShow}
use Rattle.law_board.specs.Active.{sum_below, active_in, active_at, active_pairs}
use Rattle.law_board.specs.Stretch.{IsStretch}
use Rattle.law_board.proofs.BesideLaw.{same_levels, same_shown}
use Rattle.board_model.proofs.Steps.{length-board_step, get_from, get_step}
use Rattle.board_model.proofs.SameLemmas.{level_same, drive_same, list_same}

-- a list of levels is the same as itself
pub levels_are : (xs : List Level) → same_list same_level xs xs ≡ true
levels_are xs = list_same same_level level_same xs

pub shown_is : (s : Shown) → is_new (Some s) s ≡ false
shown_is s =
    ap (λ (b : Bool). not (b && same_list same_drive s.chip_drives s.chip_drives)) (list_same same_level level_same s.levels)
    ∙ ap not (list_same same_drive drive_same s.chip_drives)

pub options_none : {A : Type 0} (xs : List (Option A)) → ((k : ℕ) (x : Option A) → slice_get xs k ≡ Some x → x ≡ None) → options xs ≡ []
options_none [] none = refl
options_none (None ∷ xs) none = options_none xs (λ k x e. none (suc k) x e)
options_none (Some x ∷ xs) none = absurd (let e : Some x ≡ None = none 0 (Some x) refl in cc)

pub sum_zero : (n : ℕ) (f : ℕ → ℕ) → ((k : ℕ) → k < n → f k ≡ 0) → sum_below n f ≡ 0
sum_zero zero f none = refl
sum_zero (suc n) f none = omega (arith, sum_zero n f (λ k (h : k < n). none k (omega arith)), none n (omega arith))

module _ {S : Type 0} (m : Machine S) (laws : Laws m) (w : Wiring) (inputs : List Input) (ss : List S) (c n : ℕ) (stretch : IsStretch m w inputs ss c n) where
  AreGliding : ℕ → Type 0
  AreGliding t = Alike (λ k s u. u ≡ glide m s c t) ss (states m w inputs ss c t)

  shows : (t k : ℕ) (s : S) → t ≤ n → slice_get ss k ≡ Some s → SameShow m m s (glide m s c t)
  shows t k s l e =
      let quiet : IsQuiet m s c t = λ j (h : j < t). stretch.quiet k s e j (omega arith) in
      record {
        drives = sym (glide_drives m laws s c t (stretch.valid k s e) quiet);
        contacts = sym (glide_contacts m laws s c t (stretch.valid k s e) quiet);
      }

  gliding_show : (t : ℕ) → t ≤ n → Alike (λ k s u. u ≡ glide m s c t) ss (states m w inputs ss c t) → Alike (λ k a b. SameShow m m a b) ss (states m w inputs ss c t)
  gliding_show t l like = record {
    long = like.long;
    each = λ k s u es eu. subst (λ (x : S). SameShow m m s x) (sym (like.each k s u es eu)) (shows t k s l es);
  }

  -- the levels of a part's pins are those that it holds
  own_held : (t k : ℕ) (s : S) → t ≤ n → slice_get ss k ≡ Some s → levels_of m w ss ≡ levels_of m w (states m w inputs ss c t) →
      map (level_at (levels_of m w (states m w inputs ss c t))) (own_nets w k (length (m.drives (glide m s c t)))) ≡ m.held (glide m s c t)
  own_held t k s l e same =
      ap (λ (ds : List Drive). map (level_at (levels_of m w (states m w inputs ss c t))) (own_nets w k (length ds))) (sym (shows t k s l e).drives)
      ∙ ap (λ (ls : List Level). map (level_at ls) (own_nets w k (length (m.drives s)))) (sym same)
      ∙ sym (stretch.held k s e) ∙ sym (glide_holds m laws s c t)

  glide_step : (t k : ℕ) (s : S) → t < n → slice_get ss k ≡ Some s → levels_of m w ss ≡ levels_of m w (states m w inputs ss c t) →
      part_step m w inputs (levels_of m w (states m w inputs ss c t)) (c + t) k (glide m s c t) ≡ m.step (glide m s c t) (c + t) (m.held (glide m s c t)) None
  glide_step t k s l e same =
      ap (λ (o : Option ℕ). m.step (glide m s c t) (c + t) (map (level_at (levels_of m w (states m w inputs ss c t))) (own_nets w k (length (m.drives (glide m s c t))))) o) (stretch.silent t k l)
      ∙ ap (λ (ls : List Level). m.step (glide m s c t) (c + t) ls None) (own_held t k s (omega arith) e same)

  -- each part glides
  pub stretch_states : (t : ℕ) → t ≤ n → Alike (λ k s u. u ≡ glide m s c t) ss (states m w inputs ss c t)
  unfolding states
  stretch_states zero l = record { long = refl; each = λ k s u es eu. some_same (sym eu ∙ es) }
  stretch_states (suc t) l =
      let before : Alike (λ k s u. u ≡ glide m s c t) ss (states m w inputs ss c t) = stretch_states t (omega arith) in
      let same = same_levels m m w ss (states m w inputs ss c t) (gliding_show t (omega arith) before) in
      record {
        long = before.long ∙ sym (length-board_step m w inputs (states m w inputs ss c t) (c + t));
        each = λ k s u es eu.
            let f = get_from m w inputs (states m w inputs ss c t) (c + t) k u eu in
            let was : f.0 ≡ glide m s c t = before.each k s f.0 es f.1 in
            sym f.2 ∙ ap (λ (x : S). (part_step m w inputs (levels_of m w (states m w inputs ss c t)) (c + t) k x).0) was
            ∙ ap (λ (r : S × Option ℕ). r.0) (glide_step t k s (omega arith) es same);
      }

  -- the levels stay
  pub stretch_shown : (t : ℕ) → t ≤ n → shown_of m w ss ≡ shown_of m w (states m w inputs ss c t)
  stretch_shown t l = same_shown m m w ss (states m w inputs ss c t) (gliding_show t l (stretch_states t l))

  pub stretch_levels : (t : ℕ) → t ≤ n → levels_of m w ss ≡ levels_of m w (states m w inputs ss c t)
  stretch_levels t l = same_levels m m w ss (states m w inputs ss c t) (gliding_show t l (stretch_states t l))

  -- no byte comes
  no_bytes : (t : ℕ) → t < n → bytes_of m w inputs (states m w inputs ss c t) (c + t) ≡ []
  no_bytes t l = options_none (map (λ r. r.1) (steps_from m w inputs (levels_of m w (states m w inputs ss c t)) (c + t) 0 (states m w inputs ss c t))) (λ k x e.
      let r = get_map_some (λ (r : S × Option ℕ). r.1) (steps_from m w inputs (levels_of m w (states m w inputs ss c t)) (c + t) 0 (states m w inputs ss c t)) k x e in
      let f = get_step m w inputs (levels_of m w (states m w inputs ss c t)) (c + t) k (states m w inputs ss c t) r.0 r.1 in
      let like = stretch_states t (omega arith) in
      let within : k < length ss = omega (arith, slice_get_within (states m w inputs ss c t) k f.0 f.1, like.long) in
      let s = get_or ss k f.0 in
      let es : slice_get ss k ≡ Some s = get_within ss k f.0 within in
      let was : f.0 ≡ glide m s c t = like.each k s f.0 es f.1 in
      sym r.2 ∙ ap (λ (r : S × Option ℕ). r.1) (sym f.2)
      ∙ ap (λ (x : S). (part_step m w inputs (levels_of m w (states m w inputs ss c t)) (c + t) k x).1) was
      ∙ ap (λ (r : S × Option ℕ). r.1) (glide_step t k s l es (stretch_levels t (omega arith)))
      ∙ laws.glides_silent (glide m s c t) (c + t) (glide_valid m laws s c t (stretch.valid k s es)) (stretch.quiet k s es t l))

  pub stretch_bytes : (t : ℕ) → t ≤ n → bytes m w inputs ss c t ≡ []
  unfolding bytes
  stretch_bytes zero l = refl
  stretch_bytes (suc t) l =
      ap (λ (b : List ℕ). b ++ bytes_of m w inputs (states m w inputs ss c t) (c + t)) (stretch_bytes t (omega arith)) ∙ no_bytes t (omega arith)

  before_stays : (t : ℕ) → t ≤ n → shown_before m w inputs (Some (shown_of m w ss)) ss c t ≡ Some (shown_of m w ss)
  unfolding shown_before
  before_stays zero l = refl
  before_stays (suc t) l = ap (λ (x : Shown). Some x) (sym (stretch_shown t (omega arith)))

  -- no row comes, after a cycle that showed the same
  pub stretch_rows : (t : ℕ) → t ≤ n → rows m w inputs (Some (shown_of m w ss)) ss c t ≡ []
  unfolding rows
  stretch_rows zero l = refl
  stretch_rows (suc t) l =
      let row = row_of m w (states m w inputs ss c t) (c + t) in
      ap (λ (r : List Row). r ++ row_if m w (shown_before m w inputs (Some (shown_of m w ss)) ss c t) (states m w inputs ss c t) (c + t)) (stretch_rows t (omega arith))
      ∙ ap (λ (o : Option Shown). if is_new o (shown_of m w (states m w inputs ss c t)) then row ∷ [] else []) (before_stays t (omega arith))
      ∙ ap (λ (x : Shown). if is_new (Some (shown_of m w ss)) x then row ∷ [] else []) (sym (stretch_shown t (omega arith)))
      ∙ ap (λ (b : Bool). if b then row ∷ [] else []) (shown_is (shown_of m w ss))

  -- no part is active
  none_active : (t k : ℕ) → t < n → (o : Option S) → slice_get (states m w inputs ss c t) k ≡ o → active_in m w inputs (levels_of m w (states m w inputs ss c t)) (c + t) k o ≡ 0
  none_active t k l None e = refl
  none_active t k l (Some u) e =
      let like = stretch_states t (omega arith) in
      let within : k < length ss = omega (arith, slice_get_within (states m w inputs ss c t) k u e, like.long) in
      let s = get_or ss k u in
      let es : slice_get ss k ≡ Some s = get_within ss k u within in
      let was : u ≡ glide m s c t = like.each k s u es e in
      let due : m.due (glide m s c t) (c + t) ≡ false = stretch.quiet k s es t l in
      let own = own_held t k s (omega arith) es (stretch_levels t (omega arith)) in
      ap (λ (x : S). active_in m w inputs (levels_of m w (states m w inputs ss c t)) (c + t) k (Some x)) was
      ∙ ap (λ (b : Bool). if b || (is_some (input_at inputs (c + t) k) || not (same_list same_level (map (level_at (levels_of m w (states m w inputs ss c t))) (own_nets w k (length (m.drives (glide m s c t))))) (m.held (glide m s c t)))) then 1 else 0) due
      ∙ ap (λ (o : Option ℕ). if is_some o || not (same_list same_level (map (level_at (levels_of m w (states m w inputs ss c t))) (own_nets w k (length (m.drives (glide m s c t))))) (m.held (glide m s c t))) then 1 else 0) (stretch.silent t k l)
      ∙ ap (λ (ls : List Level). if not (same_list same_level ls (m.held (glide m s c t))) then 1 else 0) own
      ∙ ap (λ (b : Bool). if not b then 1 else 0) (list_same same_level level_same (m.held (glide m s c t)))

  pub stretch_pairs : (t : ℕ) → t ≤ n → active_pairs m w inputs ss c t ≡ 0
  stretch_pairs t l = sum_zero t (λ k. sum_below (length ss) (λ i. active_at m w inputs ss c i k)) (λ k (h : k < t).
      sum_zero (length ss) (λ i. active_at m w inputs ss c i k) (λ i (g : i < length ss). none_active k i (omega arith) (slice_get (states m w inputs ss c k) i) refl))
