use Rattle.std.proofs.Common.{◌∙◌, ap}
use Rattle.clap.specs.Words.{first_of, found_of, Row}
use Rattle.std.proofs.Common.{List}
use Rattle.clap.proofs.WalkLemmas.{first_value-rows}
use Rattle.cli_words.proofs.ReadLemmas.{first_text}
use Rattle.cli_words.proofs.commands.text.Goals as goal

pub returns : goal.returns
returns c = λ given are. c.get_str.ensures ∙ first_value-rows (found_of c.args.matches.now) c.args.name.now ∙ ap (λ (rows : List Row). first_of c.args.name.now rows) are ∙ first_text c.args.name.now given
