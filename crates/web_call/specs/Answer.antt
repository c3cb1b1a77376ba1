-- What a call answers.
use Rattle.std.specs.Prelude.{ℕ, nat_le, ◌<◌, Bool, true, false, List, length, take, Option, None, Some, ◌≡◌, ◌⊎◌}
use Rattle.sim_base.specs.Mem.{MemState, roomy, outside_of}
use Rattle.sim_cli.specs.Promises.{Does}
use Rattle.web_call.specs.Blocks.{blocks}
use Rattle.web_call.specs.Entries.{Given}

-- the bench with room on its ports
abbrev pub roomed : MemState → ℕ → ℕ → ℕ → MemState
roomed s serial wave report = record s {
  serial = roomy s.serial serial;
  wave = roomy s.wave wave;
  report = roomy s.report report;
  complaint = roomy s.complaint 4096;
}

-- The status, where what the ports hold fits, and there it is; else 102.
abbrev pub IsShownIf : Bool → ℕ → ℕ → MemState → List ℕ → Type 0
IsShownIf true answer status after out = (answer ≡ status) × (take (length (blocks after)) out ≡ blocks after)
IsShownIf false answer status after out = answer ≡ 102

abbrev pub IsShown : ℕ → ℕ → MemState → List ℕ → Type 0
IsShown answer status after out = IsShownIf (nat_le (length (blocks after)) (length out)) answer status after out

-- These words on this bench are done, and the end is shown.
abbrev pub Shows : ℕ → List (List ℕ) → MemState → MemState → List ℕ → Type 0
Shows answer words before after out = (status : ℕ) × Does status words (outside_of before) (outside_of after) × IsShown answer status after out

-- What is given is done with that much room on the ports.
abbrev pub IsDone : ℕ → Given → ℕ → ℕ → ℕ → List ℕ → Type 0
IsDone answer g serial wave report out = (after : MemState) × Shows answer g.words (roomed g.bench serial wave report) after out

-- 100 where the list is none; else what is given is done, or memory ran out before, which 101 says.
abbrev pub IsAnswer : ℕ → Option Given → ℕ → ℕ → ℕ → List ℕ → Type 0
IsAnswer answer None serial wave report out = answer ≡ 100
IsAnswer answer (Some g) serial wave report out = (answer ≡ 101) ⊎ IsDone answer g serial wave report out

-- An answer is one of these numbers: a status, or 100, 101 or 102.
abbrev pub IsNamed : ℕ → Type 0
IsNamed answer = (answer < 8) ⊎ ((answer ≡ 100) ⊎ ((answer ≡ 101) ⊎ (answer ≡ 102)))
