use Rattle.std.proofs.Common.{◌≡◌, ◌<◌, ◌^◌, take}
use Rattle.cli_words_model.specs.Request.{value_of}
use Rattle.cli_words.proofs.number.value.Given as goal

abbrev pub invariant-loop-c : goal.invariant-loop-c
invariant-loop-c l = record {
  value : l.n ≡ value_of (take l.c-index l.digits);
  small : l.n < 10 ^ l.c-index;
}
