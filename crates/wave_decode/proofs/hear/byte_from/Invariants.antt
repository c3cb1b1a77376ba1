use Rattle.std.proofs.Common.{◌≡◌, ◌≤◌, ◌+◌, ◌-◌, ◌*◌, ℕ}
use Rattle.wave_decode.specs.Bits.{taken}
use Rattle.wave_decode.specs.Rising.{IsRising, level_at}
use Rattle.wave_decode.specs.Wires.{read_later}
use Rattle.wave_decode.proofs.hear.byte_from.Given as goal

abbrev pub invariant-loop : goal.invariant-loop
invariant-loop l = record {
  later : (u : ℕ) → l.at ≤ u → level_at l.wire.level l.wire.rows.now u ≡ level_at l.fn.wire.level l.fn.wire.rows.now u;
  rising : IsRising 0 l.wire.rows.now;
  taken_so_far : taken (read_later l.fn.wire.level l.fn.wire.rows.now) l.bit l.at (8 - l.counter) l.value ≡ taken (read_later l.fn.wire.level l.fn.wire.rows.now) l.bit l.t 8 0;
  early : l.at ≤ l.t + 1000000 * l.counter;
}
