use Rattle.std.proofs.Common.{◌≡◌, take, map, length}
use Rattle.text_model.specs.Wave.{shown_value}
use Rattle.live_talk.specs.Waiting.{wait_of, seen}
use Rattle.live_talk.proofs.waiting.values_seen.Given as goal

abbrev pub invariant-loop-wait : goal.invariant-loop-wait
invariant-loop-wait l = l.values.items ≡ map (λ w. seen (shown_value l.levels l.drives) (wait_of w)) (take l.wait-index l.waits)
