use Rattle.std.proofs.Common.{◌≡◌, ◌≤◌, ℕ, length, arith, ◌∙◌, sym}
use Rattle.std.specs.Prelude.{slice_get}
use Rattle.rows_texts.proofs.NoteLemmas.{note_more, none_past}
use Rattle.rows_texts.proofs.wave.changed_nets.Goals as goal

pub loop-net-init : goal.loop-net-init
loop-net-init c = λ n less none. absurd (omega (arith, less))

pub loop-net-preserved : goal.loop-net-preserved
loop-net-preserved c = note_more c.loop-net.nets.items c.note.new.nets.items c.loop-net.net c.is_other.result (λ n. slice_get c.args.after.now n ≡ slice_get c.args.before.now n)
    c.in_ok-note.ensures c.is_other.ensures c.loop-net.invariant

pub returns : goal.returns
returns c = none_past c.args.before.now c.args.after.now c.loop-net.net c.loop-net.nets.items (omega arith) (omega arith) c.loop-net.invariant
