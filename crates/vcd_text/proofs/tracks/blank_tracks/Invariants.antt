use Rattle.std.proofs.Common.{◌≡◌, replicate}
use Rattle.vcd_text.specs.TrackStates.{blank}
use Rattle.vcd_text.proofs.tracks.blank_tracks.Given as goal

abbrev pub invariant-loop : goal.invariant-loop
invariant-loop l = l.tracks.items ≡ replicate l.counter blank
