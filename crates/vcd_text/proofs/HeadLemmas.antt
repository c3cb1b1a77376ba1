-- The head of a wave from row to row.
use Rattle.std.proofs.Common.{◌≡◌, ℕ, ◌<◌, ◌++◌, List, length, take, drop, Bool, true, ap, sym, ◌∙◌, subst, if◌then◌else◌}
use Rattle.std.proofs.Math.Seq.{take-append_seam}
use Rattle.std.proofs.lemmas.List.{get_or-replicate}
use Rattle.std.specs.Prelude.{replicate, slice_index}
use Rattle.sim_base.specs.Rows.{Row}
use Rattle.sim_base.specs.declared.signal.Level.{Level}
use Rattle.sim_base.specs.declared.signal.Drive.{Drive}
use Rattle.text_model.specs.Wave.{Variable, values, head, initial_values, value_changes}
use Rattle.vcd_text.specs.declared.follow.Scope.{Scope}
use Rattle.vcd_text.specs.declared.variable.Variable as declared
use Rattle.vcd_text.specs.Variables.{variables_of}
use Rattle.vcd_text.specs.Chains.{sources, AreChains, RestBut}
use Rattle.vcd_text.specs.Heads.{HeadState, after_row}

-- a list that was lent whole is what was put into it
pub lent : {A : Type 0} (n : ℕ) (xs ws : List A) → n ≡ length xs → length ws ≡ length xs → take n (ws ++ drop (length ws) xs) ≡ ws
lent n xs ws e h = ap (λ (k : ℕ). take k (ws ++ drop (length ws) xs)) (e ∙ sym h) ∙ take-append_seam ws (drop (length ws) xs)

pub all_same : (xs : List ℕ) (count n value : ℕ) → xs ≡ replicate count value → n < count → slice_index xs n ≡ value
all_same xs count n value e less = ap (λ (l : List ℕ). slice_index l n) e ∙ get_or-replicate count n value 0 less

pub chains_moved : {vs ws : List declared.Variable} {xs ys ns ms : List ℕ} → vs ≡ ws → xs ≡ ys → ns ≡ ms → AreChains (sources (variables_of vs)) xs ns → AreChains (sources (variables_of ws)) ys ms
chains_moved {vs = vs} {ws = ws} {xs = xs} {ys = ys} {ns = ns} {ms = ms} ev ex en it =
    subst (λ (l : List declared.Variable). AreChains (sources (variables_of l)) ys ms) ev
    (subst (λ (l : List ℕ). AreChains (sources (variables_of vs)) l ms) ex (subst (λ (l : List ℕ). AreChains (sources (variables_of vs)) xs l) en it))

pub rest_moved : (on : Scope) (levels : List Level) (drives : List Drive) {vs ws : List Variable} {xs ys : List ℕ} → vs ≡ ws → xs ≡ ys → RestBut on vs xs levels drives → RestBut on ws ys levels drives
rest_moved on levels drives {vs = vs} {ws = ws} {xs = xs} {ys = ys} ev ex it =
    subst (λ (l : List Variable). RestBut on l ys levels drives) ev (subst (λ (l : List ℕ). RestBut on vs l levels drives) ex it)

abbrev state : List Variable → List ℕ → List ℕ → Bool → HeadState
state vs values text started = record { variables = vs; values = values; text = text; started = started }

-- after a row
pub row_made : (vs : List Variable) (old new kept text : List ℕ) (on : Bool) (s : HeadState) (row : Row) → state vs old kept on ≡ s → new ≡ values vs row →
    text ≡ kept ++ (if on then value_changes row.cycle old (values vs row) else head vs ++ initial_values row.cycle (values vs row)) → state vs new text true ≡ after_row s row
row_made vs old new kept text on s row e en et =
    subst (λ (x : HeadState). state vs new text true ≡ after_row x row) e (ap (λ (l : List ℕ). state vs l text true) en ∙ ap (λ (l : List ℕ). state vs (values vs row) l true) et)
