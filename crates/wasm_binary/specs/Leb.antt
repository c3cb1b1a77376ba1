-- LEB128 numbers (WebAssembly core specification, "Integers").
use Rattle.std.specs.Prelude.{◌≡◌, ℕ, zero, suc, ◌+◌, ◌-◌, ◌*◌, ◌/◌, ◌^◌, ◌<◌, ◌≤◌, List, [], ◌∷◌, ◌⊎◌}
use Rattle.sim_refusals.specs.Refusals.{WasmCut, WasmLeb, WasmCount, WasmLimit}
use Rattle.wasm_binary.specs.Form.{Form}

-- uN: a byte below 128 stands for itself; one from 128 on has the low seven bits, and the rest has N - 7.
abbrev pub IsUnsigned : ℕ → List ℕ → ℕ → Type 0
IsUnsigned bits [] n = ⊥
IsUnsigned bits (b ∷ []) n = (b < 128) × (b < 2 ^ bits) × (n ≡ b)
IsUnsigned bits (b ∷ c ∷ bs) n = (128 ≤ b) × (7 < bits) × (high : ℕ) × (n + 128 ≡ b + 128 * high) × IsUnsigned (bits - 7) (c ∷ bs) high

-- The least and greatest that the high bits may be, behind a byte with these low bits, for a number from least to greatest.
abbrev pub high_least : ℕ → ℕ → ℕ
high_least least low = (least - low + 127) / 128

abbrev pub high_greatest : ℕ → ℕ → ℕ
high_greatest greatest low = (greatest - low) / 128

-- whether no number from least to greatest has these low bits, and whether some has
abbrev pub no_high : ℕ → ℕ → ℕ → Type 0
no_high least greatest low = (greatest < low) ⊎ (high_greatest greatest low < high_least least low)

abbrev pub some_high : ℕ → ℕ → ℕ → Type 0
some_high least greatest low = (low ≤ greatest) × (high_least least low ≤ high_greatest greatest low)

-- The rule that a byte breaks: it has unused bits (62), or no allowed number is left with it (the limit's rule).
abbrev pub ByteIsFaulty : ℕ → ℕ → ℕ → ℕ → ℕ → ℕ → Type 0
ByteIsFaulty bits least greatest rule b number =
    (b < 128) × (2 ^ bits ≤ b) × (number ≡ WasmLeb) ⊎ (128 ≤ b) × (bits ≤ 7) × (number ≡ WasmLeb)
    ⊎ (b < 128) × (b < 2 ^ bits) × ((b < least) ⊎ (greatest < b)) × (number ≡ rule)
    ⊎ (128 ≤ b) × (7 < bits) × no_high least greatest (b - 128) × (number ≡ rule)

-- It breaks where the bytes end (61), or at the first faulty byte.
abbrev pub BreaksUnsigned : ℕ → ℕ → ℕ → ℕ → List ℕ → ℕ → ℕ → Type 0
BreaksUnsigned bits least greatest rule [] i number = (i ≡ 0) × (number ≡ WasmCut)
BreaksUnsigned bits least greatest rule (b ∷ bs) zero number = ByteIsFaulty bits least greatest rule b number
BreaksUnsigned bits least greatest rule (b ∷ bs) (suc i) number =
    (128 ≤ b) × (7 < bits) × some_high least greatest (b - 128)
    × BreaksUnsigned (bits - 7) (high_least least (b - 128)) (high_greatest greatest (b - 128)) rule bs i number

-- a number of so many bits from least to greatest; where no such number is left it breaks by this rule
abbrev pub unsigned : ℕ → ℕ → ℕ → ℕ → Form ℕ
unsigned bits least greatest rule = record {
  text = λ bytes n. IsUnsigned bits bytes n × (least ≤ n) × (n ≤ greatest);
  breaks = BreaksUnsigned bits least greatest rule;
}

-- u32; at most so many; exactly so many
abbrev pub u32 : Form ℕ
u32 = unsigned 32 0 4294967295 WasmLeb

abbrev pub at_most : ℕ → Form ℕ
at_most greatest = unsigned 32 0 greatest WasmLimit

abbrev pub exactly : ℕ → Form ℕ
exactly n = unsigned 32 n n WasmCount

-- sN, as a number of N bits in two's complement: the last byte's bit 6 is the sign.
abbrev pub IsSigned : ℕ → List ℕ → ℕ → Type 0
IsSigned bits [] n = ⊥
IsSigned bits (b ∷ []) n =
    (b < 64) × (b < 2 ^ (bits - 1)) × (n ≡ b) ⊎ (64 ≤ b) × (b < 128) × (128 ≤ b + 2 ^ (bits - 1)) × (n + 128 ≡ b + 2 ^ bits)
IsSigned bits (b ∷ c ∷ bs) n = (128 ≤ b) × (7 < bits) × (high : ℕ) × (n + 128 ≡ b + 128 * high) × IsSigned (bits - 7) (c ∷ bs) high

-- a last byte whose unused bits are no copies of the sign
abbrev pub IsUnlikeSign : ℕ → ℕ → Type 0
IsUnlikeSign bits b = (b < 64) × (2 ^ (bits - 1) ≤ b) ⊎ (64 ≤ b) × (b < 128) × (b + 2 ^ (bits - 1) < 128)

abbrev pub BreaksSigned : ℕ → List ℕ → ℕ → ℕ → Type 0
BreaksSigned bits [] i number = (i ≡ 0) × (number ≡ WasmCut)
BreaksSigned bits (b ∷ bs) zero number = (number ≡ WasmLeb) × ((128 ≤ b) × (bits ≤ 7) ⊎ IsUnlikeSign bits b)
BreaksSigned bits (b ∷ bs) (suc i) number = (128 ≤ b) × (7 < bits) × BreaksSigned (bits - 7) bs i number

abbrev pub signed : ℕ → Form ℕ
signed bits = record { text = IsSigned bits; breaks = BreaksSigned bits }
