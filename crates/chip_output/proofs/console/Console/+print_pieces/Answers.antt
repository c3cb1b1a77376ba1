use Rattle.std.proofs.Common.{◌∙◌, ◌+◌, ◌-◌, ℕ, List, ap}
use Rattle.wasm_num.specs.Mem.{Mem}
use Rattle.chip_output.specs.Output.{printed, bytes_at}
use Rattle.chip_output.specs.Files.{word, pieces, text}
use Rattle.chip_output.proofs.PieceLemmas.{no_piece, more_pieces}
use Rattle.chip_output.proofs.console.Console.+print_pieces.Goals as goal

pub returns-then-count-eq0 : goal.returns-then-count-eq0
returns-then-count-eq0 t c =
    let none = no_piece c.args.memory.now c.args.list c.args.count c.self.inside.bytes.items c.if-count-eq0.true c.self.invariant.few in
    let view = c.self.view_is in
    cc

pub returns : goal.returns
returns t c =
    let m : Mem = c.args.memory.now in
    let rest : List ℕ = text m (pieces m (c.args.list + 8) (c.args.count - 1)) in
    let address = ap (λ (n : ℕ). bytes_at m n c.piece-address.result.1) c.piece-address.ensures.address in
    let length = ap (λ (n : ℕ). bytes_at m (word m c.args.list) n) c.piece-address.ensures.length in
    let one = c.print.ensures ∙ ap (λ (bytes : List ℕ). printed c.args.self.now bytes) (c.bytes_of.ensures.bytes ∙ address ∙ length) in
    c.print_pieces.ensures ∙ ap (λ (console : List ℕ). printed console rest) one ∙ more_pieces m c.args.list c.args.count c.args.self.now c.if-count-eq0.false
