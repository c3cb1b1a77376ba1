use Rattle.std.proofs.Common.{ap, ◌∙◌, List}
use Rattle.sim_base.specs.declared.signal.Level.{Level}
use Rattle.part_law.specs.declared.span.Span.{Span}
use Rattle.law_board.specs.Player.{new_player}
use Rattle.trace_run.proofs.CountLemmas.{none_past}
use Rattle.trace_run.proofs.StateLemmas.{held_at_start}
use Rattle.trace_run.proofs.player.Player.new.Goals as goal

pub count_all-next-requires-clause-past : goal.count_all-next-requires-clause-past
count_all-next-requires-clause-past c = none_past c.as_slice.result.now 0 64

pub returns : goal.returns
returns c =
    ap (λ (l : List Level). record { player = record { rows = c.args.rows; cycle = 0; held = l }; wakes = 0; moved = c.none.result }) (held_at_start c.args.rows c.requires.few)
    ∙ ap (λ (m : Span). record { player = new_player c.args.rows; wakes = 0; moved = m }) c.none.ensures
