use Rattle.std.proofs.Common.{◌≡◌, map, take}
use Rattle.clap.specs.Words.{app_of}
use Rattle.cli_words.specs.Commands.{app_for, with_rules, word_rule, no_rules}
use Rattle.cli_words.proofs.commands.command.Given as goal

abbrev pub invariant-loop-name : goal.invariant-loop-name
invariant-loop-name l = app_of l.command ≡ with_rules (map word_rule (map (λ w. w.now) (take l.name-index l.words))) no_rules

abbrev pub invariant-loop-option : goal.invariant-loop-option
invariant-loop-option l = app_of l.command ≡ app_for (map (λ w. w.now) l.words) (map (λ o. o.now) (take l.option-index l.options))
