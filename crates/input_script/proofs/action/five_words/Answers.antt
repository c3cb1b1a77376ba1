use Rattle.input_script.proofs.WordLemmas.{five_words}
use Rattle.input_script.proofs.action.five_words.Goals as goal

pub returns-clause-action : goal.returns-clause-action
returns-clause-action c = λ a b d e. five_words a b d e c.args._rest.now
