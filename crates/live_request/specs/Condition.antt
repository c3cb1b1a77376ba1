-- What a run may wait for.
use Rattle.std.specs.Prelude.{ℕ, zero, suc, ◌-◌, List, [], ◌∷◌, ◌++◌, Result, Ok, Err, if◌then◌else◌, codes, nat_lt}
use Rattle.std.specs.Str.{bytes_eq}
use Rattle.sim_base.specs.declared.limits.TheConstants.{MOST_CYCLES}
use Rattle.sim_refusals.specs.Refusals.{RequestWords, RequestNumber}
use Rattle.live_request.specs.Words.{Reading, ◌>>=◌, next, is_empty, ended, next_number}

-- `Level name value`: a variable of the wave has this value. `Edge name`: it has another one than in the cycle before.
-- `Sent n`: the Uno has sent at least n bytes. `Begins`: its core begins an instruction and enters no interrupt. `Marked`: it
-- begins one at a marked address. `Stored a n`: of the n bytes of SRAM from data address a on, one is another than when the run
-- was asked for. `Halted`: the core is halted. `Trapped`: a chip was ended by a trap.
pub data Condition : Type 0 where
  Level : List ℕ → ℕ → Condition
  Edge : List ℕ → Condition
  Sent : ℕ → Condition
  Begins : Condition
  Marked : Condition
  Stored : ℕ → ℕ → Condition
  Halted : Condition
  Trapped : Condition

-- `0`, `1`, `z` or `x`
abbrev pub level_word : List ℕ → Result ℕ ℕ
level_word word =
    if bytes_eq word (codes "0") then Ok 48
    else if bytes_eq word (codes "1") then Ok 49
    else if bytes_eq word (codes "x") then Ok 120
    else if bytes_eq word (codes "z") then Ok 122
    else Err RequestWords

abbrev pub level_is : List (List ℕ) → Reading Condition
level_is rest = next rest >>= λ x. next x.1 >>= λ y. level_word y.0 >>= λ v. Ok (Level x.0 v, y.1)

abbrev pub edge : List (List ℕ) → Reading Condition
edge rest = next rest >>= λ x. Ok (Edge x.0, x.1)

abbrev pub sent : List (List ℕ) → Reading Condition
sent rest = next_number MOST_CYCLES rest >>= λ x. Ok (Sent x.0, x.1)

-- SRAM begins at data address 0x0100 and has 2,048 bytes
abbrev pub stored : List (List ℕ) → Reading Condition
stored rest =
    next_number 2303 rest >>= λ x.
    if nat_lt x.0 256 then Err RequestNumber else (next_number (2304 - x.0) x.1 >>= λ y. Ok (Stored x.0 y.0, y.1))

abbrev pub condition_by : List ℕ → List (List ℕ) → Reading Condition
condition_by word rest =
    if bytes_eq word (codes "level") then level_is rest
    else if bytes_eq word (codes "edge") then edge rest
    else if bytes_eq word (codes "sent") then sent rest
    else if bytes_eq word (codes "stored") then stored rest
    else if bytes_eq word (codes "begins") then Ok (Begins, rest)
    else if bytes_eq word (codes "marked") then Ok (Marked, rest)
    else if bytes_eq word (codes "halted") then Ok (Halted, rest)
    else if bytes_eq word (codes "trapped") then Ok (Trapped, rest)
    else Err RequestWords

abbrev pub condition : List (List ℕ) → Reading Condition
condition rest = next rest >>= λ x. condition_by x.0 x.1

-- the conditions after these, at most so many more
unfoldable pub conditions_after : List Condition → ℕ → List (List ℕ) → Result (List Condition) ℕ
conditions_after read zero rest = ended read rest
conditions_after read (suc k) rest =
    if is_empty rest then Ok read else condition rest >>= λ x. conditions_after (read ++ x.0 ∷ []) k x.1

-- at most 16 conditions
abbrev pub conditions : List (List ℕ) → Result (List Condition) ℕ
conditions rest = conditions_after [] 16 rest
