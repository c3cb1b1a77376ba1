use Rattle.std.proofs.Common.{◌∙◌, ap, map, string_bytes}
use Rattle.std.specs.Option.{option_map}
use Rattle.cli_words_model.specs.Words.{Syntax, texts_of}
use Rattle.cli_words.specs.Asked.{asked_of}
use Rattle.cli_words.specs.Commands.{row}
use Rattle.cli_words.specs.Table.{request_of_texts, syntax_of}
use Rattle.cli_words.proofs.ReadLemmas.{asked_by_texts}
use Rattle.cli_words.proofs.request.read_command.Goals as goal

pub returns-in-Some-clause-request : goal.returns-in-Some-clause-request
returns-in-Some-clause-request c =
    let given = map string_bytes c.args.given.now in
    let read = (rw c.in-Some.is at c.in_ok-matches.ensures) ∙ ap (λ (s : Syntax). option_map (map row) (texts_of s given)) c.syntax_of.ensures.are in
    asked_by_texts (texts_of (syntax_of c.args.command) given) c.in-Some.matches (request_of_texts c.args.command) (option_map asked_of c.request_in.result) read c.request_in.ensures.asked
