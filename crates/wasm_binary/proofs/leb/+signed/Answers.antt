use Rattle.std.proofs.Common.{arith}
use Rattle.std.proofs.lemmas.Result.{err_from_is_err_and}
use Rattle.wasm_binary.proofs.Steps.{took_byte}
use Rattle.wasm_binary.proofs.Numbers.{high_fits, signed_reads, signed_fails, unsigned_below}
use Rattle.wasm_binary.proofs.leb.+signed.Goals as goal

pub returns-in_err-high-clause-decodes : goal.returns-in_err-high-clause-decodes
returns-in_err-high-clause-decodes t c =
    let p = err_from_is_err_and c.from_residual-in_err-high.result c.from_residual-in_err-high.ensures.1 in
    rw (p.1, p.2) (signed_fails c.args.bits c.in_ok-byte.field-0 c.args.reader.now c.byte.new.self c.in_err-high.field-0.0 (omega arith) (omega arith) (took_byte _ _ _ c.in_ok-byte.ensures) c.in_err-high.ensures.decodes)

pub returns-clause-decodes : goal.returns-clause-decodes
returns-clause-decodes t c =
    signed_reads c.args.bits c.in_ok-byte.field-0 c.in_ok-high.high _ c.args.reader.now c.byte.new.self c.signed.new.reader (omega arith) (omega arith) (omega arith) (took_byte _ _ _ c.in_ok-byte.ensures) c.in_ok-high.ensures.decodes

pub returns-clause-fits : goal.returns-clause-fits
returns-clause-fits t c = unsigned_below c.args.bits c.in_ok-byte.field-0 c.in_ok-high.high _ (omega arith) (omega arith) c.in_ok-high.ensures.fits (omega arith)

pub overflow_mul-result : goal.overflow_mul-result
overflow_mul-result t c = omega (arith, high_fits c.args.bits c.in_ok-high.high (omega arith) c.requires.fits c.in_ok-high.ensures.fits)

pub overflow_add-result : goal.overflow_add-result
overflow_add-result t c = omega (arith, high_fits c.args.bits c.in_ok-high.high (omega arith) c.requires.fits c.in_ok-high.ensures.fits)
