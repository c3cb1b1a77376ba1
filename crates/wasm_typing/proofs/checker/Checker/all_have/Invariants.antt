use Rattle.std.proofs.Common.{◌≡◌, drop}
use Rattle.std.specs.Prelude.{option_to_list}
use Rattle.wasm_typing.specs.Checking.{all_have, labels_of}
use Rattle.wasm_typing.specs.Views.{arounds}
use Rattle.wasm_typing.proofs.checker.Checker.all_have.Given as goal

abbrev pub invariant-loop-l : goal.invariant-loop-l
invariant-loop-l l = all_have (labels_of (arounds l.fn.self.around.items)) (drop l.l-index l.labels) (option_to_list l.wanted) ≡ all_have (labels_of (arounds l.fn.self.around.items)) l.labels (option_to_list l.wanted)
