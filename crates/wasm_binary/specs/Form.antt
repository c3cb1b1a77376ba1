-- Forms of text (WebAssembly core specification, "Binary Format", "Grammar"): which bytes spell which value, and where and by
-- which rule bytes break that no text of the form begins.
use Rattle.std.specs.Prelude.{◌≡◌, ℕ, ◌+◌, List, [], ◌∷◌, ◌++◌, length, ◌⊎◌, Bool, true, false, if◌then◌else◌, ◌==◌, Result, Ok, Err}
use Rattle.sim_refusals.specs.Refusals.{WasmCut, WasmType}

pub record Form (X : Type 0) : Type 1 where
  -- the whole text and its value
  pub text : List ℕ → X → Type 0
  -- bytes, the place of their break counted from their first, and the number of the rule
  pub breaks : List ℕ → ℕ → ℕ → Type 0

-- nothing, which stands for this value
abbrev pub give : {X : Type 0} → X → Form X
give x = record { text = λ bytes y. (bytes ≡ []) × (y ≡ x); breaks = λ bytes i number. ⊥ }

-- any byte; it breaks where the bytes end, cut (61)
abbrev pub any_byte : Form ℕ
any_byte = record { text = λ bytes b. bytes ≡ b ∷ []; breaks = λ bytes i number. (bytes ≡ []) × (i ≡ 0) × (number ≡ WasmCut) }

abbrev pub ByteBreaks : {X : Type 0} → ℕ → (ℕ → Result X ℕ) → List ℕ → ℕ → ℕ → Type 0
ByteBreaks cut judge [] i number = (i ≡ 0) × (number ≡ cut)
ByteBreaks cut judge (b ∷ bytes) i number = (i ≡ 0) × (judge b ≡ Err number)

-- One byte, judged by itself; where the bytes end it breaks by rule cut.
abbrev pub byte_or : {X : Type 0} → ℕ → (ℕ → Result X ℕ) → Form X
byte_or cut judge = record {
  text = λ bytes x. (b : ℕ) × (bytes ≡ b ∷ []) × (judge b ≡ Ok x);
  breaks = ByteBreaks cut judge;
}

-- A judged byte; where the bytes end it is cut (61).
abbrev pub byte : {X : Type 0} → (ℕ → Result X ℕ) → Form X
byte judge = byte_or WasmCut judge

-- A part, and behind it what its value asks for. It breaks in the part or behind it.
infixl 10 ◌>>=◌
abbrev pub ◌>>=◌ : {X Y : Type 0} → Form X → (X → Form Y) → Form Y
◌>>=◌ {X} p f = record {
  text = λ bytes y. (a b : List ℕ) × (x : X) × (bytes ≡ a ++ b) × p.text a x × (f x).text b y;
  breaks = λ bytes i number.
      p.breaks bytes i number ⊎ ((a b : List ℕ) × (x : X) × (j : ℕ) × (bytes ≡ a ++ b) × p.text a x × (i ≡ length a + j) × (f x).breaks b j number);
}

abbrev pub choose : {X : Type 0} → Bool → Form X → Form X → Form X
choose true p q = p
choose false p q = q

-- a byte that must be this one; else it breaks by the rule
abbrev pub judge_tag : ℕ → ℕ → ℕ → Result (Unit {0}) ℕ
judge_tag wanted rule b = if b == wanted then Ok tt else Err rule

-- a byte that is 00 or 01; else 64
abbrev pub judge_flag : ℕ → Result Bool ℕ
judge_flag b = if b == 0 then Ok false else if b == 1 then Ok true else Err WasmType

abbrev pub flag : Form Bool
flag = byte judge_flag
