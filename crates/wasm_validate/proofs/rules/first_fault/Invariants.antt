use Rattle.std.proofs.Common.{◌≡◌, drop}
use Rattle.wasm_validate.specs.Rules.{first_fault}
use Rattle.wasm_validate.proofs.rules.first_fault.Given as goal

abbrev pub invariant-loop-i : goal.invariant-loop-i
invariant-loop-i g l = first_fault l.number l.section (g.R.Rule.keeps l.rule) l.i (drop l.i l.entries) ≡ first_fault l.number l.section (g.R.Rule.keeps l.rule) 0 l.entries
