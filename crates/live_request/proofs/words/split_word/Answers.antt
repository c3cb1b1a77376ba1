use Rattle.std.proofs.Common.{◌+◌}
use Rattle.std.proofs.lemmas.List.{take_rest}
use Rattle.live_request.proofs.WordLemmas.{word_at, word_alone}
use Rattle.live_request.proofs.words.split_word.Goals as goal

pub returns-in-Some : goal.returns-in-Some
returns-in-Some c = rw (take_rest c.args.text.now (c.in-Some.end + 1)) (word_at c.args.text.now c.in-Some.end c.in-Some.ensures.within c.in-Some.ensures.found c.in-Some.ensures.before)

pub returns-in-None : goal.returns-in-None
returns-in-None c = word_alone c.args.text.now c.in-None.ensures.none
