use Rattle.std.proofs.Common.{arith}
use Rattle.wasm_decode.proofs.ModuleLemmas.{these_rest}
use Rattle.wasm_decode.proofs.decoding.+these_bytes.Goals as goal

pub returns-in_ok-magic_byte-in-len1-up : goal.returns-in_ok-magic_byte-in-len1-up
returns-in_ok-magic_byte-in-len1-up t c = these_rest c.args.bytes.now c.args.reader.now c.magic_byte.new.reader c.these_bytes.new.reader c.these_bytes.result (omega arith) c.in_ok-magic_byte-in-len1-up.ensures c.these_bytes.ensures
