use Rattle.chip_module.proofs.BinaryLemmas.{foreign_reading, known_reading}
use Rattle.chip_module.proofs.binary.with_imports.Goals as goal

pub returns-in-Ok : goal.returns-in-Ok
returns-in-Ok c = λ bytes is. known_reading bytes c.args.valid.wasm is c.args.valid.init c.in-Ok.map c.requires c.in-Ok.ensures

pub returns-in-Err : goal.returns-in-Err
returns-in-Err c = λ bytes is. foreign_reading bytes c.args.valid.wasm is c.args.valid.init c.requires c.in-Err.fault c.in-Err.ensures
