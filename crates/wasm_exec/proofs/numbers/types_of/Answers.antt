use Rattle.wasm_exec.proofs.ListLemmas.{looked_more}
use Rattle.wasm_exec.proofs.NumberLemmas.{few_more}
use Rattle.wasm_exec.proofs.numbers.types_of.Goals as goal

pub loop-number-preserved : goal.loop-number-preserved
loop-number-preserved c = record {
  so_far = looked_more c.args.types.now c.loop-number.found c.push.new.self c.args.numbers.now c.loop-number.number-index c.in_ok-one_type.field-0 c.loop-number-test.true c.loop-number.invariant.so_far c.in_ok-one_type.ensures.found c.in_ok-push.ensures.ok;
  few = few_more c.loop-number.found c.push.new.self c.in_ok-one_type.field-0 c.loop-number.invariant.few c.in_ok-one_type.ensures.few c.in_ok-push.ensures.ok;
}
