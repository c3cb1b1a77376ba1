use Rattle.std.proofs.Common.{length}
use Rattle.wasm_decode.proofs.decoding.+these_bytes.Given as goal

abbrev pub decreases-these_bytes : goal.decreases-these_bytes
decreases-these_bytes l = length l.bytes.now
