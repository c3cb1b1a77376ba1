use Rattle.std.proofs.Common.{◌≡◌, ◌≤◌, min, take, true}
use Rattle.std.specs.List.{list_all}
use Rattle.std.specs.Char.{is_ascii_digit}
use Rattle.text_numerals.specs.Numerals.{value_of}
use Rattle.wave_lines.specs.Timely.{latest}
use Rattle.wave_lines.proofs.line.number.Given as goal

abbrev pub invariant-loop-d : goal.invariant-loop-d
invariant-loop-d l = record {
  value : l.n ≡ min latest (value_of 10 (take l.d-index l.digits));
  early : l.n ≤ latest;
  digits : list_all is_ascii_digit (take l.d-index l.digits) ≡ true;
}
