-- The commands: the names of their words, and what the texts under these ask for.
use Rattle.std.specs.Prelude.{List, map, Option, None, Some}
use Rattle.std.specs.Borrow.{Bor}
use Rattle.std.specs.Option.{option_and_then}
use Rattle.cli_words_model.specs.Words.{Given, Syntax, Text, texts_of}
use Rattle.cli_words_model.specs.Request.{Request, bare_syntax, bare_of, check_syntax, check_of, module_syntax, module_of}
use Rattle.cli_words_model.specs.Request.{run_syntax, run_of, serve_syntax, serve_of, replay_syntax, replay_of, twin_syntax, twin_of}
use Rattle.cli_words_model.specs.Request.{make_syntax, make_of, decode_syntax, decode_of}
use Rattle.cli_words.specs.declared.request.Command.{Command}
use Rattle.cli_words.specs.declared.request.Command.TheVariants as commands

-- names without where they lie in memory
abbrev pub syntax_by : Bor (List (Bor Text)) × Bor (List (Bor Text)) → Syntax
syntax_by names = record { words = map (λ w. w.now) names.0.now; options = map (λ o. o.now) names.1.now }

abbrev pub syntax_of : Command → Syntax
syntax_of commands.Bare = bare_syntax
syntax_of commands.Check = check_syntax
syntax_of commands.Module = module_syntax
syntax_of commands.Run = run_syntax
syntax_of commands.Serve = serve_syntax
syntax_of commands.Replay = replay_syntax
syntax_of commands.Twin = twin_syntax
syntax_of commands.Make = make_syntax
syntax_of commands.Decode = decode_syntax

abbrev pub request_of_texts : Command → Given → Option Request
request_of_texts commands.Bare = bare_of
request_of_texts commands.Check = check_of
request_of_texts commands.Module = module_of
request_of_texts commands.Run = run_of
request_of_texts commands.Serve = serve_of
request_of_texts commands.Replay = replay_of
request_of_texts commands.Twin = twin_of
request_of_texts commands.Make = make_of
request_of_texts commands.Decode = decode_of

-- the request of a command with these words after it
abbrev pub asked_with : Option Command → List Text → Option Request
asked_with None words = None
asked_with (Some command) words = option_and_then (request_of_texts command) (texts_of (syntax_of command) words)
