use Rattle.std.proofs.Common.{◌≡◌, ◌+◌, take, length-take, arith}
use Rattle.wasm_decode.specs.ItemText.{imported}
use Rattle.wasm_decode.proofs.LoopLemmas.{imported_next, imported_few}
use Rattle.wasm_decode.proofs.imports.imported.Goals as goal

pub overflow_add-count : goal.overflow_add-count
overflow_add-count c =
    let xs = c.args.imports.now in
    omega (arith, imported_few (take c.loop-import.import-index xs), length-take c.loop-import.import-index xs, c.loop-import.invariant, c.function_count.ensures.one)

pub loop-import-preserved : goal.loop-import-preserved
loop-import-preserved c =
    let xs = c.args.imports.now in
    let n = imported_next xs c.loop-import.import-index c.import-item.result c.loop-import-test.true c.import-item.is in
    let e : c.loop-import.count + c.function_count.result ≡ imported (take (c.loop-import.import-index + 1) xs) = omega (arith, n, c.loop-import.invariant, c.function_count.ensures.is) in
    e
