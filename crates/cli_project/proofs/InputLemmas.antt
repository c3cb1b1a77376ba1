-- The values of a script come in the order of their cycles.
use Rattle.cli_project.proofs.Common.{◌≡◌, ◌∙◌, ◌≤◌, ◌<◌, ◌||◌, ℕ, zero, suc, List, [], ◌∷◌, map, Bool, true, false, Option, Some, None, Result, Ok, Err, IfOk}
use Rattle.cli_project.proofs.Common.{slice_get, nat_lt, nat_le, if◌then◌else◌, refl, ap, sym, subst, arith, option_map, Refusal, ScriptRow, IsRising}
use Rattle.cli_project.proofs.Common.{cycles_of}
use Rattle.std.proofs.lemmas.Bool.{ltb-false, or_parts}
use Rattle.std.proofs.lemmas.Option.{slice_get-map}
use Rattle.sim_base.specs.declared.wiring.Input.{Input}
use Rattle.sim_refusals.specs.Refusals.{ScriptOrder, ScriptLimit}
use Rattle.sim_base.specs.declared.limits.TheConstants.{LONGEST_RUN}
use Rattle.text_model.specs.Lines.{lines}
use Rattle.input_script.specs.declared.action.Action.{Action}
use Rattle.input_script.specs.Script.{Verdict, Passed, Acts, Faulty, words, is_passed, action_of, judged, verdict, after, row_of, with_rows, rows_from, script_of}
use Rattle.board_model.specs.Fits.{AreInputs}
use Rattle.sim_io.specs.Documents.{IsRead}

-- an action's time is not below the one before
not_below : (last count : ℕ) (action x : Action) (p q : Bool) → (nat_lt x.cycle last || nat_lt LONGEST_RUN x.cycle) ≡ p →
    (if p then Faulty ScriptOrder else if q then Faulty ScriptLimit else Acts x) ≡ Acts action → last ≤ action.cycle
not_below last count action x true q h e = absurd (cc)
not_below last count action x false true h e = absurd (cc)
not_below last count action x false false h e =
    let same : x ≡ action = cc in
    subst (λ (y : Action). last ≤ y.cycle) same (ltb-false x.cycle last (or_parts (nat_lt x.cycle last) (nat_lt LONGEST_RUN x.cycle) h).0)

acts_after : (last count : ℕ) (action : Action) (passed : Bool) (o : Option Action) → (if passed then Passed else judged last count o) ≡ Acts action → last ≤ action.cycle
acts_after last count action true o e = absurd (cc)
acts_after last count action false None e = absurd (cc)
acts_after last count action false (Some x) e = not_below last count action x (nat_lt x.cycle last || nat_lt LONGEST_RUN x.cycle) (nat_le 4096 count) refl e

with_one : (row : ScriptRow) (r : Result (List ScriptRow) Refusal) (rows : List ScriptRow) → with_rows (row ∷ []) r ≡ Ok rows → (more : List ScriptRow) × (r ≡ Ok more) × (row ∷ more ≡ rows)
with_one row (Ok more) rows e = (more, refl, cc)
with_one row (Err r) rows e = absurd (cc)

module _ (k last count : ℕ) (line : List ℕ) (rest : List (List ℕ)) (rows : List ScriptRow) (next : (last count : ℕ) (more : List ScriptRow) → rows_from (suc k) last count rest ≡ Ok more → IsRising last (cycles_of more)) where
  by_verdict : (v : Verdict) → verdict last count line ≡ v → after v k last count (λ last count. rows_from (suc k) last count rest) ≡ Ok rows → IsRising last (cycles_of rows)
  by_verdict Passed is e = next last count rows e
  by_verdict (Faulty number) is e = absurd (cc)
  by_verdict (Acts action) is e =
      let more = with_one (row_of k action) (rows_from (suc k) action.cycle (suc count) rest) rows e in
      subst (λ (r : List ScriptRow). IsRising last (cycles_of r)) more.2 (acts_after last count action (is_passed line) (action_of (words line)) is, next action.cycle (suc count) more.0 more.1)

rising_from : (k last count : ℕ) (ls : List (List ℕ)) (rows : List ScriptRow) → rows_from k last count ls ≡ Ok rows → IsRising last (cycles_of rows)
unfolding rows_from
rising_from k last count [] rows e = let same : [] ≡ rows = cc in subst (λ (r : List ScriptRow). IsRising last (cycles_of r)) same tt
rising_from k last count (line ∷ rest) rows e = by_verdict k last count line rest rows (λ last count more f. rising_from (suc k) last count rest more f) (verdict last count line) refl e

pub rising : (text : List ℕ) (rows : List ScriptRow) → script_of text ≡ Ok rows → IsRising 0 (cycles_of rows)
rising text rows e = rising_from 1 0 0 (lines text) rows e

pub rising_read : {E : Type 0} (r : Result (List ScriptRow) E) → IfOk r (IsRead script_of) → IfOk r (λ (rows : List ScriptRow). IsRising 0 (cycles_of rows))
rising_read (Ok rows) read = rising read.0 rows read.1
rising_read (Err e) read = tt

none_at : (k n : ℕ) → slice_get {X = ℕ} [] k ≡ Some n → ⊥
none_at zero n e = cc
none_at (suc k) n e = cc

at_least : (least : ℕ) (ns : List ℕ) (k n : ℕ) → IsRising least ns → slice_get ns k ≡ Some n → least ≤ n
at_least least [] k n r e = absurd (none_at k n e)
at_least least (m ∷ ms) zero n r e = let same : m ≡ n = cc in subst (λ (x : ℕ). least ≤ x) same r.0
at_least least (m ∷ ms) (suc k) n r e = omega (arith, r.0, at_least m ms k n r.1 e)

in_order : (least : ℕ) (ns : List ℕ) (j k a b : ℕ) → IsRising least ns → j ≤ k → slice_get ns j ≡ Some a → slice_get ns k ≡ Some b → a ≤ b
in_order least [] j k a b r l e f = absurd (none_at j a e)
in_order least (m ∷ ms) zero zero a b r l e f = let same : a ≡ b = cc in omega (arith, same)
in_order least (m ∷ ms) zero (suc k) a b r l e f = let same : m ≡ a = cc in omega (arith, same, at_least m ms k b r.1 f)
in_order least (m ∷ ms) (suc j) zero a b r l e f = absurd (omega (arith, l))
in_order least (m ∷ ms) (suc j) (suc k) a b r l e f = in_order m ms j k a b r.1 (omega (arith, l)) e f

-- the values of a script's lines, in their cycles
pub are_inputs : (count : ℕ) (inputs : List Input) (rows : List ScriptRow) → IsRising 0 (cycles_of rows) → map (λ (i : Input). i.cycle) inputs ≡ cycles_of rows →
    ((k : ℕ) (input : Input) → slice_get inputs k ≡ Some input → input.part < count) → AreInputs count inputs
are_inputs count inputs rows rise same parts = record { in_order = ordered; for_parts = parts }
  where
    at : (k : ℕ) (i : Input) → slice_get inputs k ≡ Some i → slice_get (cycles_of rows) k ≡ Some i.cycle
    at k i e = ap (λ (l : List ℕ). slice_get l k) (sym same) ∙ slice_get-map (λ (i : Input). i.cycle) inputs k ∙ ap (option_map (λ (i : Input). i.cycle)) e

    ordered : (j k : ℕ) (a b : Input) → j ≤ k → slice_get inputs j ≡ Some a → slice_get inputs k ≡ Some b → a.cycle ≤ b.cycle
    ordered j k a b l e f = in_order 0 (cycles_of rows) j k a.cycle b.cycle rise l (at j a e) (at k b f)
