use Rattle.std.proofs.Common.{◌≡◌, ◌++◌, take}
use Rattle.live_text.proofs.line.Line.push.Given as goal

abbrev pub invariant-loop-b : goal.invariant-loop-b
invariant-loop-b l = l.self-inside.bytes.items ≡ l.initial.self-inside.bytes.items ++ take l.b-index l.text
