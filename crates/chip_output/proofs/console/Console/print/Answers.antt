use Rattle.std.proofs.Common.{◌≡◌, ◌-◌, ℕ, List, length, arith}
use Rattle.std.specs.Prelude.{min}
use Rattle.chip_output.proofs.PieceLemmas.{room_for}
use Rattle.chip_output.proofs.console.Console.print.Goals as goal

pub returns : goal.returns
returns c =
    let kept : List ℕ = c.self.inside.bytes.items in
    let text : List ℕ = c.args.text.now in
    let count : c.min-count.result ≡ min (length text) (65536 - length kept) = omega (arith, c.min-count.ensures, c.len.ensures) in
    let all = room_for kept text c.min-count.result c.self.invariant.few count in
    let view = c.self.view_is in
    let items = c.in-Ok.ensures.items in
    cc
