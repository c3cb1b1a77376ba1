-- Reading limits.
use Rattle.std.proofs.Common.{◌≡◌, ℕ, Option, Some, None, Bool, true, false, subst}
use Rattle.sim_base.specs.declared.fault.Fault.{Fault}
use Rattle.sim_refusals.specs.Refusals.{WasmCut, WasmLeb}
use Rattle.wasm_binary.specs.declared.reader.Reader.{Reader}
use Rattle.wasm_binary.specs.Form.{Form, give, flag, judge_flag, ◌>>=◌}
use Rattle.wasm_binary.specs.Proper.{Proper}
use Rattle.wasm_binary.proofs.Exact.{give_proper, byte_proper, then_proper, unsigned_proper}
use Rattle.wasm_binary.specs.Leb.{u32}
use Rattle.wasm_binary.specs.Reads.{Reads, Fails}
use Rattle.wasm_binary.proofs.Steps.{stops, then_reads, then_fails, given}
use Rattle.wasm_code.specs.declared.types.Limits.{Limits}
use Rattle.wasm_code.specs.TypeText.{limits, greatest_if}

abbrev with_both : ℕ → Option ℕ → Form Limits
with_both least greatest = give (record { least = least; greatest = greatest })

abbrev with_least : Bool → ℕ → Form Limits
with_least bounded least = greatest_if bounded >>= with_both least

abbrev with_flag : Bool → Form Limits
with_flag bounded = u32 >>= with_least bounded

pub limits_fail : (old mid : Reader) (b : Bool) (e : Fault) → Reads flag old mid b → Fails u32 mid e → Fails limits old e
limits_fail old mid b e h f = then_fails flag with_flag old mid b e h (stops u32 (with_least b) mid e f)

pub unlimited : (old mid new : Reader) (b : Bool) (n : ℕ) → Reads flag old mid b → b ≡ false → Reads u32 mid new n → Reads limits old new (record { least = n; greatest = None })
unlimited old mid new b n h e k =
    let h' = subst (λ z. Reads flag old mid z) e h in
    then_reads flag with_flag old mid new false (record { least = n; greatest = None }) h' (then_reads u32 (with_least false) mid new new n (record { least = n; greatest = None }) k (then_reads (give None) (with_both n) new new new None (record { least = n; greatest = None }) (given None new) (given _ new)))

pub limited_fails : (old mid near : Reader) (b : Bool) (n : ℕ) (e : Fault) → Reads flag old mid b → b ≡ true → Reads u32 mid near n → Fails u32 near e → Fails limits old e
limited_fails old mid near b n e h q k f =
    let h' = subst (λ z. Reads flag old mid z) q h in
    then_fails flag with_flag old mid true e h' (then_fails u32 (with_least true) mid near n e k (stops (greatest_if true) (with_both n) near e (stops u32 (λ (m : ℕ). give (Some m)) near e f)))

pub limited : (old mid near new : Reader) (b : Bool) (n m : ℕ) → Reads flag old mid b → b ≡ true → Reads u32 mid near n → Reads u32 near new m → Reads limits old new (record { least = n; greatest = Some m })
limited old mid near new b n m h q k j =
    let h' = subst (λ z. Reads flag old mid z) q h in
    then_reads flag with_flag old mid new true (record { least = n; greatest = Some m }) h' (then_reads u32 (with_least true) mid near new n (record { least = n; greatest = Some m }) k (then_reads (greatest_if true) (with_both n) near new new (Some m) (record { least = n; greatest = Some m }) (then_reads u32 (λ (x : ℕ). give (Some x)) near new new m (Some m) j (given (Some m) new)) (given _ new)))

u32_proper : Proper u32
u32_proper = unsigned_proper 32 0 4294967295 WasmLeb

greatest_proper : (b : Bool) → Proper (greatest_if b)
greatest_proper false = give_proper None
greatest_proper true = then_proper u32 (λ (n : ℕ). give (Some n)) u32_proper (λ n. give_proper (Some n))

pub limits_proper : Proper limits
limits_proper = then_proper flag with_flag (byte_proper WasmCut judge_flag) (λ b. then_proper u32 (with_least b) u32_proper (λ n. then_proper (greatest_if b) (with_both n) (greatest_proper b) (λ g. give_proper (record { least = n; greatest = g }))))
