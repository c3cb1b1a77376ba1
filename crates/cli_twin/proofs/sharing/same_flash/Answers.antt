use Rattle.std.proofs.Common.{◌∙◌, sym}
use Rattle.cli_twin.proofs.SharedLemmas.{below_more, below_none, below_other}
use Rattle.cli_twin.proofs.sharing.same_flash.Goals as goal

pub loop-i-init : goal.loop-i-init
loop-i-init c = below_none c.args.a.now c.args.b.now

pub returns-then-byte : goal.returns-then-byte
returns-then-byte c =
    sym (below_other 32768 c.loop-i.i c.args.a.now c.args.b.now c.loop-i-test.true (λ e. c.if-byte.true (c.byte.ensures ∙ e ∙ sym c.byte-in-loop-i.ensures)))

pub loop-i-preserved : goal.loop-i-preserved
loop-i-preserved c = below_more c.loop-i.i c.args.a.now c.args.b.now c.loop-i.invariant (sym c.byte.ensures ∙ c.if-byte.false ∙ c.byte-in-loop-i.ensures)
