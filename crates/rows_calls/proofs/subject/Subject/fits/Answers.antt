use Rattle.std.proofs.Common.{List, sym, subst}
use Rattle.wasm_code.specs.declared.types.ValType.{ValType}
use Rattle.wasm_semantics.specs.Values.{HasTypes}
use Rattle.rows_calls.proofs.TypeLemmas.{known_type}
use Rattle.rows_calls.proofs.subject.Subject.fits.Goals as goal

pub returns-in-Some : goal.returns-in-Some
returns-in-Some c = λ e.
    let s = c.args.self.now in
    (c.in-Some.kind.now, known_type s.instance.wasm s.types c.args.function c.in-Some.kind.now s.known (sym c.in-Some.ensures), subst (λ (ts : List ValType). HasTypes c.args.args.now ts) c.as_slice.ensures (c.fits.ensures e))
