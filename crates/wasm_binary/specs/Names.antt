-- Names (WebAssembly core specification, "Names"; The Unicode Standard, "Well-Formed UTF-8 Byte Sequences").
use Rattle.std.specs.Prelude.{ℕ, ◌-◌, List, [], ◌∷◌, length, Bool, ◌&&◌, ◌==◌, nat_lt, nat_le, if◌then◌else◌, Result, Ok, Err, Option, Some, None, unwrap_or}
use Rattle.sim_refusals.specs.Refusals.{WasmUtf8}
use Rattle.wasm_binary.specs.Form.{Form, byte, ◌>>=◌}
use Rattle.wasm_binary.specs.Leb.{u32}
use Rattle.wasm_binary.specs.Lists.{repeated, is_zero}

abbrev pub within : ℕ → ℕ → ℕ → Bool
within least greatest b = nat_le least b && nat_le b greatest

-- the least and greatest value of a byte
abbrev pub Span : Type 0
Span = ℕ × ℕ

abbrev pub any_tail : Span
any_tail = (0x80, 0xBF)

-- The bytes that follow a character's first byte; none where no character begins with it.
abbrev pub tails_of : ℕ → Option (List Span)
tails_of b =
    if nat_lt b 0x80 then Some []
    else if within 0xC2 0xDF b then Some (any_tail ∷ [])
    else if b == 0xE0 then Some ((0xA0, 0xBF) ∷ any_tail ∷ [])
    else if b == 0xED then Some ((0x80, 0x9F) ∷ any_tail ∷ [])
    else if within 0xE1 0xEF b then Some (any_tail ∷ any_tail ∷ [])
    else if b == 0xF0 then Some ((0x90, 0xBF) ∷ any_tail ∷ any_tail ∷ [])
    else if within 0xF1 0xF3 b then Some (any_tail ∷ any_tail ∷ any_tail ∷ [])
    else if b == 0xF4 then Some ((0x80, 0x8F) ∷ any_tail ∷ any_tail ∷ [])
    else None

-- In a name: how many bytes are left, and which of them the character begun still wants.
pub record InName : Type 0 where
  pub left : ℕ
  pub tails : List Span

abbrev pub judge_lead : ℕ → ℕ → Option (List Span) → Result ℕ ℕ
judge_lead left b None = Err WasmUtf8
judge_lead left b (Some tails) = if nat_lt (length tails) left then Ok b else Err WasmUtf8

abbrev pub judge_tail : ℕ → ℕ → List Span → Result ℕ ℕ
judge_tail left b [] = judge_lead left b (tails_of b)
judge_tail left b (span ∷ tails) = if within span.0 span.1 b then Ok b else Err WasmUtf8

-- A first byte has room for its character, and another one is as the first asks; else 67.
abbrev pub judge_in_name : InName → ℕ → Result ℕ ℕ
judge_in_name s b = judge_tail s.left b s.tails

abbrev pub tails_after : List Span → ℕ → List Span
tails_after [] b = unwrap_or (tails_of b) []
tails_after (span ∷ tails) b = tails

abbrev pub in_name : InName → ℕ → InName
in_name s b = record { left = s.left - 1; tails = tails_after s.tails b }

abbrev pub name_of_length : ℕ → Form (List ℕ)
name_of_length n = repeated (λ (s : InName). byte (judge_in_name s)) in_name (λ s. is_zero s.left) (record { left = n; tails = [] })

-- a count of bytes, and bytes that are UTF-8
abbrev pub name : Form (List ℕ)
name = u32 >>= name_of_length
