use Rattle.std.proofs.Common.{◌-◌, arith}
use Rattle.std.proofs.lemmas.Result.{err_from_is_err_and}
use Rattle.wasm_binary.proofs.NameLemmas.{name_cut, name_faulty, name_goes}
use Rattle.wasm_binary.proofs.name.name_bytes.Goals as goal

pub returns-in_err-byte : goal.returns-in_err-byte
returns-in_err-byte c =
    let p = err_from_is_err_and c.from_residual.result c.from_residual.ensures.1 in
    rw (p.1, p.2) (name_cut c.args.reader.now c.loop-i.reader c.args.count c.loop-i.bytes.items _ _ c.loop-i.invariant (omega arith) c.in_err-byte.ensures)

pub returns-in-None : goal.returns-in-None
returns-in-None c = name_faulty c.args.reader.now c.loop-i.reader c.byte.new.self c.args.count c.loop-i.bytes.items _ c.in_ok-byte.byte _ c.loop-i.invariant (omega arith) c.in_ok-byte.ensures c.in-None.ensures c.refused.ensures

pub loop-i-preserved : goal.loop-i-preserved
loop-i-preserved c = name_goes c.args.reader.now c.loop-i.reader c.byte.new.self c.args.count c.loop-i.bytes.items c.push.new.self.items (c.args.count - c.loop-i.i) _ _ _ c.in_ok-byte.byte c.loop-i.invariant (omega arith) c.in_ok-byte.ensures c.in-Some.ensures.0 c.in-Some.ensures.1 (omega arith) c.in_ok-push.ensures.items
