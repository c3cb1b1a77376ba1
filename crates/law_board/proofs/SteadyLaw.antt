-- In steady cycles each part glides and no row comes; where one part alone is due, the bytes and active cycles are its own.
use Rattle.std.proofs.Common.{◌≡◌, ◌≢◌, ℕ, zero, suc, ◌+◌, ◌<◌, ◌≤◌, List, [], ◌∷◌, ◌++◌, ◌∙◌, length, map, Bool, true, false, Option, None, Some, refl, ap, sym, arith, subst, get_or, inl, inr, ◌⊎◌}
use Rattle.std.specs.Prelude.{slice_get, ◌||◌, not, if◌then◌else◌}
use Rattle.std.specs.Option.{is_some, option_to_list}
use Rattle.std.proofs.lemmas.Option.{slice_get_within}
use Rattle.std.proofs.Math.Bool.{or-false}
use Rattle.sim_base.specs.declared.signal.Level.{Level}
use Rattle.sim_base.specs.declared.signal.Drive.{Drive}
use Rattle.sim_base.specs.declared.wiring.Wiring.{Wiring}
use Rattle.sim_base.specs.declared.wiring.Input.{Input}
use Rattle.sim_base.specs.Rows.{Row}
use Rattle.part_law.specs.Machine.{Machine, Laws, glide, idle_byte, dues, sent, IsQuiet}
use Rattle.part_law.proofs.MachineLemmas.{glide_valid, glide_holds}
use Rattle.board_model.specs.Board.{level_at, own_nets, levels_of, part_step, steps_from, options, bytes_of, states, bytes}
use Rattle.board_model.specs.Rows.{same_list, same_level, Shown, shown_of, is_new, row_if, row_of, shown_before, rows}
use Rattle.board_model.proofs.Lists.{some_same, get_map_some, some_map, get_within}
use Rattle.law_board.specs.Alike.{Alike, SameShow}
use Rattle.law_board.specs.Active.{sum_below, active_in, active_at, active_cycles, active_pairs}
use Rattle.law_board.specs.Steady.{IsSteady}
use Rattle.law_board.proofs.BesideLaw.{same_levels, same_shown}
use Rattle.law_board.proofs.StretchLaw.{levels_are, shown_is, options_none, sum_zero}
use Rattle.board_model.proofs.Steps.{length-board_step, get_from, get_step, get-steps_from}

-- all but one are silent
pub options_one : (xs : List (Option ℕ)) (who : ℕ) (x : Option ℕ) → slice_get xs who ≡ Some x → ((k : ℕ) (y : Option ℕ) → k ≢ who → slice_get xs k ≡ Some y → y ≡ None) → options xs ≡ option_to_list x
options_one [] who x e none = absurd cc
options_one (None ∷ xs) zero x e none =
    options_none xs (λ k y f. let o : suc k ≢ 0 = omega arith in none (suc k) y o f) ∙ ap option_to_list (some_same e)
options_one (Some z ∷ xs) zero x e none =
    ap (λ (l : List ℕ). z ∷ l) (options_none xs (λ k y f. let o : suc k ≢ 0 = omega arith in none (suc k) y o f)) ∙ ap option_to_list (some_same e)
options_one (z ∷ xs) (suc who) x e none =
    let first : z ≡ None = let o : 0 ≢ suc who = omega arith in none 0 z o refl in
    ap (λ (y : Option ℕ). options (y ∷ xs)) first ∙ options_one xs who x e (λ k y o f. let p : suc k ≢ suc who = omega (arith, o) in none (suc k) y p f)

lt_suc : (k n : ℕ) → k < suc n → (k < n) ⊎ (k ≡ n)
lt_suc k n h = grind arith

pub sum_one : (n who : ℕ) (f : ℕ → ℕ) → who < n → ((k : ℕ) → k < n → k ≢ who → f k ≡ 0) → sum_below n f ≡ f who
sum_one zero who f h none = absurd (omega arith)
sum_one (suc n) who f h none = elim (lt_suc who n h) [
  | inl less ↦ let o : n ≢ who = omega arith in omega (arith, sum_one n who f less (λ k (l : k < n) p. none k (omega arith) p), none n (omega arith) o)
  | inr same ↦ let e : f who ≡ f n = ap f same in omega (arith, e, sum_zero n f (λ k (l : k < n). let o : k ≢ who = omega arith in none k (omega arith) o))
]

module _ {S : Type 0} (m : Machine S) (laws : Laws m) where
  -- one that is never due emits nothing, and is due in no cycle
  pub quiet_dues : (s : S) (c t : ℕ) → IsQuiet m s c t → dues m s c t ≡ 0
  quiet_dues s c zero quiet = refl
  quiet_dues s c (suc t) quiet =
      let due : m.due (glide m s c t) (c + t) ≡ false = quiet t (omega arith) in
      ap (λ (b : Bool). dues m s c t + (if b then 1 else 0)) due ∙ omega (arith, quiet_dues s c t (λ k (h : k < t). quiet k (omega arith)))

module _ {S : Type 0} (m : Machine S) (laws : Laws m) (w : Wiring) (inputs : List Input) (ss : List S) (c n : ℕ) (steady : IsSteady m w inputs ss c n) where
  shows : (t k : ℕ) (s : S) → t < n → slice_get ss k ≡ Some s → SameShow m m s (glide m s c t)
  shows t k s l e = record { drives = sym ((steady.same k s e).same_drives t l); contacts = sym ((steady.same k s e).same_contacts t l) }

  gliding_show : (t : ℕ) → t < n → Alike (λ k s u. u ≡ glide m s c t) ss (states m w inputs ss c t) → Alike (λ k a b. SameShow m m a b) ss (states m w inputs ss c t)
  gliding_show t l like = record {
    long = like.long;
    each = λ k s u es eu. subst (λ (x : S). SameShow m m s x) (sym (like.each k s u es eu)) (shows t k s l es);
  }

  own_held : (t k : ℕ) (s : S) → t < n → slice_get ss k ≡ Some s → levels_of m w ss ≡ levels_of m w (states m w inputs ss c t) →
      map (level_at (levels_of m w (states m w inputs ss c t))) (own_nets w k (length (m.drives (glide m s c t)))) ≡ m.held (glide m s c t)
  own_held t k s l e same =
      ap (λ (ds : List Drive). map (level_at (levels_of m w (states m w inputs ss c t))) (own_nets w k (length ds))) (sym (shows t k s l e).drives)
      ∙ ap (λ (ls : List Level). map (level_at ls) (own_nets w k (length (m.drives s)))) (sym same)
      ∙ sym (steady.held k s e) ∙ sym (glide_holds m laws s c t)

  glide_step : (t k : ℕ) (s : S) → t < n → slice_get ss k ≡ Some s → levels_of m w ss ≡ levels_of m w (states m w inputs ss c t) →
      part_step m w inputs (levels_of m w (states m w inputs ss c t)) (c + t) k (glide m s c t) ≡ m.step (glide m s c t) (c + t) (m.held (glide m s c t)) None
  glide_step t k s l e same =
      ap (λ (o : Option ℕ). m.step (glide m s c t) (c + t) (map (level_at (levels_of m w (states m w inputs ss c t))) (own_nets w k (length (m.drives (glide m s c t))))) o) (steady.silent t k l)
      ∙ ap (λ (ls : List Level). m.step (glide m s c t) (c + t) ls None) (own_held t k s l e same)

  -- each part glides
  pub steady_states : (t : ℕ) → t ≤ n → Alike (λ k s u. u ≡ glide m s c t) ss (states m w inputs ss c t)
  unfolding states
  steady_states zero l = record { long = refl; each = λ k s u es eu. some_same (sym eu ∙ es) }
  steady_states (suc t) l =
      let before : Alike (λ k s u. u ≡ glide m s c t) ss (states m w inputs ss c t) = steady_states t (omega arith) in
      let same = same_levels m m w ss (states m w inputs ss c t) (gliding_show t (omega arith) before) in
      record {
        long = before.long ∙ sym (length-board_step m w inputs (states m w inputs ss c t) (c + t));
        each = λ k s u es eu.
            let f = get_from m w inputs (states m w inputs ss c t) (c + t) k u eu in
            let was : f.0 ≡ glide m s c t = before.each k s f.0 es f.1 in
            sym f.2 ∙ ap (λ (x : S). (part_step m w inputs (levels_of m w (states m w inputs ss c t)) (c + t) k x).0) was
            ∙ ap (λ (r : S × Option ℕ). r.0) (glide_step t k s (omega arith) es same);
      }

  -- what is shown stays, except perhaps at the end
  pub steady_shown : (t : ℕ) → t < n → shown_of m w ss ≡ shown_of m w (states m w inputs ss c t)
  steady_shown t l = same_shown m m w ss (states m w inputs ss c t) (gliding_show t l (steady_states t (omega arith)))

  pub steady_levels : (t : ℕ) → t < n → levels_of m w ss ≡ levels_of m w (states m w inputs ss c t)
  steady_levels t l = same_levels m m w ss (states m w inputs ss c t) (gliding_show t l (steady_states t (omega arith)))

  pub steady_before : (t : ℕ) → t ≤ n → shown_before m w inputs (Some (shown_of m w ss)) ss c t ≡ Some (shown_of m w ss)
  unfolding shown_before
  steady_before zero l = refl
  steady_before (suc t) l = ap (λ (x : Shown). Some x) (sym (steady_shown t (omega arith)))

  -- no row comes, after a cycle that showed the same
  pub steady_rows : (t : ℕ) → t ≤ n → rows m w inputs (Some (shown_of m w ss)) ss c t ≡ []
  unfolding rows
  steady_rows zero l = refl
  steady_rows (suc t) l =
      let row = row_of m w (states m w inputs ss c t) (c + t) in
      ap (λ (r : List Row). r ++ row_if m w (shown_before m w inputs (Some (shown_of m w ss)) ss c t) (states m w inputs ss c t) (c + t)) (steady_rows t (omega arith))
      ∙ ap (λ (o : Option Shown). if is_new o (shown_of m w (states m w inputs ss c t)) then row ∷ [] else []) (steady_before t (omega arith))
      ∙ ap (λ (x : Shown). if is_new (Some (shown_of m w ss)) x then row ∷ [] else []) (sym (steady_shown t (omega arith)))
      ∙ ap (λ (b : Bool). if b then row ∷ [] else []) (shown_is (shown_of m w ss))

  -- a part is active where it is due
  active_there : (t k : ℕ) (s u : S) → t < n → slice_get ss k ≡ Some s → u ≡ glide m s c t →
      active_in m w inputs (levels_of m w (states m w inputs ss c t)) (c + t) k (Some u) ≡ (if m.due (glide m s c t) (c + t) then 1 else 0)
  active_there t k s u l es was =
      let own = own_held t k s l es (steady_levels t l) in
      let due = m.due (glide m s c t) (c + t) in
      ap (λ (x : S). active_in m w inputs (levels_of m w (states m w inputs ss c t)) (c + t) k (Some x)) was
      ∙ ap (λ (o : Option ℕ). if due || (is_some o || not (same_list same_level (map (level_at (levels_of m w (states m w inputs ss c t))) (own_nets w k (length (m.drives (glide m s c t))))) (m.held (glide m s c t)))) then 1 else 0) (steady.silent t k l)
      ∙ ap (λ (ls : List Level). if due || not (same_list same_level ls (m.held (glide m s c t))) then 1 else 0) own
      ∙ ap (λ (b : Bool). if due || not b then 1 else 0) (levels_are (m.held (glide m s c t)))
      ∙ ap (λ (b : Bool). if b then 1 else 0) (or-false due)

  pub steady_active : (t k : ℕ) (s : S) → t < n → slice_get ss k ≡ Some s → active_at m w inputs ss c k t ≡ (if m.due (glide m s c t) (c + t) then 1 else 0)
  steady_active t k s l es =
      let like = steady_states t (omega arith) in
      let within : k < length (states m w inputs ss c t) = omega (arith, slice_get_within ss k s es, like.long) in
      let u = get_or (states m w inputs ss c t) k s in
      let eu : slice_get (states m w inputs ss c t) k ≡ Some u = get_within (states m w inputs ss c t) k s within in
      ap (active_in m w inputs (levels_of m w (states m w inputs ss c t)) (c + t) k) eu ∙ active_there t k s u l es (like.each k s u es eu)

  -- its active cycles are those in which it is due
  pub steady_cycles : (t k : ℕ) (s : S) → t ≤ n → slice_get ss k ≡ Some s → active_cycles m w inputs ss c t k ≡ dues m s c t
  steady_cycles zero k s l es = refl
  steady_cycles (suc t) k s l es = omega (arith, steady_cycles t k s (omega arith) es, steady_active t k s (omega arith) es)

  module _ (who : ℕ) (s0 : S) (here : slice_get ss who ≡ Some s0)
      (valid : (k : ℕ) (s : S) → slice_get ss k ≡ Some s → m.valid s c ≡ true)
      (quiet : (k : ℕ) (s : S) → k ≢ who → slice_get ss k ≡ Some s → IsQuiet m s c n) where
    -- the byte of a part that glides
    byte_is : (t k : ℕ) (s : S) (x : Option ℕ) → t < n → slice_get ss k ≡ Some s → slice_get (map (λ r. r.1) (steps_from m w inputs (levels_of m w (states m w inputs ss c t)) (c + t) 0 (states m w inputs ss c t))) k ≡ Some x → x ≡ idle_byte m (glide m s c t) (c + t)
    byte_is t k s x l es e =
        let r = get_map_some (λ (r : S × Option ℕ). r.1) (steps_from m w inputs (levels_of m w (states m w inputs ss c t)) (c + t) 0 (states m w inputs ss c t)) k x e in
        let f = get_step m w inputs (levels_of m w (states m w inputs ss c t)) (c + t) k (states m w inputs ss c t) r.0 r.1 in
        let was : f.0 ≡ glide m s c t = (steady_states t (omega arith)).each k s f.0 es f.1 in
        sym r.2 ∙ ap (λ (r : S × Option ℕ). r.1) (sym f.2)
        ∙ ap (λ (x : S). (part_step m w inputs (levels_of m w (states m w inputs ss c t)) (c + t) k x).1) was
        ∙ ap (λ (r : S × Option ℕ). r.1) (glide_step t k s l es (steady_levels t l))

    one_byte : (t : ℕ) → t < n → bytes_of m w inputs (states m w inputs ss c t) (c + t) ≡ option_to_list (idle_byte m (glide m s0 c t) (c + t))
    one_byte t l =
        let ls = levels_of m w (states m w inputs ss c t) in
        let xs = map (λ (r : S × Option ℕ). r.1) (steps_from m w inputs ls (c + t) 0 (states m w inputs ss c t)) in
        let like = steady_states t (omega arith) in
        let within : who < length (states m w inputs ss c t) = omega (arith, slice_get_within ss who s0 here, like.long) in
        let u = get_or (states m w inputs ss c t) who s0 in
        let eu : slice_get (states m w inputs ss c t) who ≡ Some u = get_within (states m w inputs ss c t) who s0 within in
        let x = (part_step m w inputs ls (c + t) who u).1 in
        let ex : slice_get xs who ≡ Some x = some_map (λ (r : S × Option ℕ). r.1) (steps_from m w inputs ls (c + t) 0 (states m w inputs ss c t)) who _ (get-steps_from m w inputs ls (c + t) who (states m w inputs ss c t) u eu) in
        options_one xs who x ex (λ k y other e.
        let r = get_map_some (λ (r : S × Option ℕ). r.1) (steps_from m w inputs ls (c + t) 0 (states m w inputs ss c t)) k y e in
        let f = get_step m w inputs ls (c + t) k (states m w inputs ss c t) r.0 r.1 in
        let inside : k < length ss = omega (arith, slice_get_within (states m w inputs ss c t) k f.0 f.1, like.long) in
        let s = get_or ss k f.0 in
        let es : slice_get ss k ≡ Some s = get_within ss k f.0 inside in
        byte_is t k s y l es e ∙ laws.glides_silent (glide m s c t) (c + t) (glide_valid m laws s c t (valid k s es)) (quiet k s other es t l))
        ∙ ap option_to_list (byte_is t who s0 x l here ex)

    -- the bytes are those of the one part
    pub steady_bytes : (t : ℕ) → t ≤ n → bytes m w inputs ss c t ≡ sent m s0 c t
    unfolding bytes
    steady_bytes zero l = refl
    steady_bytes (suc t) l =
        ap (λ (b : List ℕ). b ++ bytes_of m w inputs (states m w inputs ss c t) (c + t)) (steady_bytes t (omega arith))
        ∙ ap (λ (b : List ℕ). sent m s0 c t ++ b) (one_byte t (omega arith))

    -- and so are the active cycles
    pub steady_pairs : (t : ℕ) → t ≤ n → active_pairs m w inputs ss c t ≡ dues m s0 c t
    steady_pairs zero l = refl
    steady_pairs (suc t) l =
        let one : sum_below (length ss) (λ i. active_at m w inputs ss c i t) ≡ active_at m w inputs ss c who t =
        sum_one (length ss) who (λ i. active_at m w inputs ss c i t) (slice_get_within ss who s0 here) (λ k (h : k < length ss) other.
        let s = get_or ss k s0 in
        let es : slice_get ss k ≡ Some s = get_within ss k s0 h in
        let due : m.due (glide m s c t) (c + t) ≡ false = quiet k s other es t (omega arith) in
        steady_active t k s (omega arith) es ∙ ap (λ (b : Bool). if b then 1 else 0) due) in
        omega (arith, steady_pairs t (omega arith), one, steady_active t who s0 (omega arith) here)
