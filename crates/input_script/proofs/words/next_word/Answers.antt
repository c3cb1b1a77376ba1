use Rattle.std.proofs.Common.{◌+◌}
use Rattle.std.proofs.lemmas.List.{take_rest}
use Rattle.input_script.proofs.WordLemmas.{word_at, word_alone}
use Rattle.input_script.proofs.words.next_word.Goals as goal

pub returns-in-Some : goal.returns-in-Some
returns-in-Some c = word_at c.args.line.now c.in-Some.end _ c.in-Some.ensures.within c.in-Some.ensures.found c.in-Some.ensures.before (rw (take_rest c.args.line.now (c.in-Some.end + 1)) at c.skip_spaces.ensures)

pub returns-in-None : goal.returns-in-None
returns-in-None c = word_alone c.args.line.now c.in-None.ensures.none
