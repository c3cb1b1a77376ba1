-- A run from cycle 0, by where the board stands.
use Rattle.std.proofs.Common.{◌≡◌, ◌-◌, ℕ, List, Bool, Option, None, map, subst, arith}
use Rattle.sim_base.specs.declared.bench.WriteEnd.{WriteEnd}
use Rattle.sim_base.specs.declared.wiring.Wiring.{Wiring}
use Rattle.sim_base.specs.declared.wiring.Input.{Input}
use Rattle.sim_base.specs.Outside.{Outside}
use Rattle.text_model.specs.Wave.{Variable, wave_text}
use Rattle.part_law.specs.Machine.{Machine}
use Rattle.board_model.specs.Board.{bytes}
use Rattle.board_model.specs.Rows.{Shown, rows}
use Rattle.board_run.specs.BoardView.{BoardView}
use Rattle.vcd_text.specs.Ports.{texts, Writes}

-- what is said of a run from the cycle where the board stands is said from cycle 0
pub from_zero : (P : Option Shown → ℕ → ℕ → Type 0) (cycle n : ℕ) (before : Option Shown) → cycle ≡ 0 → before ≡ None → P before cycle (n - cycle) → P None 0 n
from_zero P cycle n before start none p =
    let all : n - cycle ≡ n = omega (arith, start) in
    subst (λ (k : ℕ). P None 0 k) all (subst (λ (t : ℕ). P None t (n - cycle)) start (subst (λ (x : Option Shown). P x cycle (n - cycle)) none p))

-- the texts that a run wrote are those from cycle 0
pub from_start : {S P : Type 0} (m : Machine S) (state : P → S) (r : WriteEnd) (wave serial : Bool) (variables : List Variable) (v : BoardView P) (n : ℕ) (a b : Outside) → v.cycle ≡ 0 → v.before ≡ None →
    Writes r (texts wave serial (wave_text variables (rows m v.wiring v.inputs v.before (map state v.parts) v.cycle (n - v.cycle)) n) (bytes m v.wiring v.inputs (map state v.parts) v.cycle (n - v.cycle))) a b →
    Writes r (texts wave serial (wave_text variables (rows m v.wiring v.inputs None (map state v.parts) 0 n) n) (bytes m v.wiring v.inputs (map state v.parts) 0 n)) a b
from_start m state r wave serial variables v n a b start none w =
    from_zero (λ before t k. Writes r (texts wave serial (wave_text variables (rows m v.wiring v.inputs before (map state v.parts) t k) n) (bytes m v.wiring v.inputs (map state v.parts) t k)) a b)
    v.cycle n v.before start none w

-- what is said of a run is said of one with the same variables, wiring, inputs and states at its start
pub same_run : {S : Type 0} (P : List Variable → Wiring → List Input → List S → Type 0) (vs us : List Variable) (w x : Wiring) (inputs values : List Input) (ss ts : List S) →
    vs ≡ us → w ≡ x → inputs ≡ values → ss ≡ ts → P vs w inputs ss → P us x values ts
same_run {S = S} P vs us w x inputs values ss ts shown wired given begun one =
    let two : P us w inputs ss = subst (λ (l : List Variable). P l w inputs ss) shown one in
    let three : P us x inputs ss = subst (λ (y : Wiring). P us y inputs ss) wired two in
    let four : P us x values ss = subst (λ (l : List Input). P us x l ss) given three in
    subst (λ (l : List S). P us x values l) begun four
