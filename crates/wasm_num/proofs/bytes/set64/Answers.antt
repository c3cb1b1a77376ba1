use Rattle.std.proofs.Common.{◌≡◌, ◌+◌, ◌≤◌, length, arith}
use Rattle.std.specs.Int.{w64, to_le_bytes}
use Rattle.wasm_num.proofs.Puts.{sets-put}
use Rattle.wasm_num.proofs.bytes.set64.Goals as goal

pub returns : goal.returns
returns c =
    let z : c.args.at + 0 ≡ c.args.at = omega arith in
    let h : c.args.at + 0 + 8 ≤ length c.args.bytes.now = omega arith in
    rw c.to_le_bytes.ensures (rw z at (sets-put c.args.at 0 (to_le_bytes w64 c.args.value) c.args.bytes.now h))
