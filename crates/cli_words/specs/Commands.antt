-- The commands, as clap has them: each positional word and each option takes one text.
use Rattle.std.specs.Prelude.{◌≡◌, List, [], ◌∷◌, ◌++◌, map, Some, None, true}
use Rattle.clap.specs.Words.{App, Row, Rule, new_app, new_rule, rows_of, found_of, reading_of}
use Rattle.clap.specs.Simple.{on_top}
use Rattle.clap.specs.declared.builder.action.ArgAction.TheVariants.{Set}
use Rattle.clap.specs.declared.builder.value_parser.ValueParser.TheVariants as parsers
use Rattle.clap.specs.declared.parser.matches.ArgMatches.{ArgMatches}
use Rattle.clap.specs.declared.parser.matches.ValueSource.TheVariants.{CommandLine}
use Rattle.cli_words_model.specs.Words.{Text, Given}

abbrev pub word_rule : Text → Rule
word_rule name = record (new_rule name) { action = Some Set }

abbrev pub option_rule : Text → Rule
option_rule name = record (new_rule name) { long = Some name; action = Some Set }

abbrev pub no_rules : App
no_rules = on_top (λ s. record s { no_binary_name = true; disable_help_flag = true }) (new_app [])

abbrev pub with_rules : List Rule → App → App
with_rules rules app = on_top (λ s. record s { rules = s.rules ++ rules }) app

-- a command with these positional words, and these options
abbrev pub app_for : List Text → List Text → App
app_for words options = with_rules (map option_rule options) (with_rules (map word_rule words) no_rules)

-- what clap keeps of a text under its name
abbrev pub row : Text × Text → Row
row g = record { id = g.0; values = g.1 ∷ []; count = None; source = Some CommandLine; reading = reading_of parsers.String }

-- the matches are of these texts
abbrev pub AreOf : Given → ArgMatches → Type 0
AreOf given matches = rows_of (found_of matches) ≡ map row given
