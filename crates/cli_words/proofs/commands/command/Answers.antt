use Rattle.std.proofs.Common.{◌≡◌, rules, [], Bor, get_or, map}
use Rattle.clap.specs.Words.{rule_of}
use Rattle.cli_words_model.specs.Words.{Text}
use Rattle.cli_words.specs.Commands.{word_rule, option_rule, no_rules, with_rules}
use Rattle.cli_words.proofs.ReadLemmas.{one_more}
use Rattle.cli_words.proofs.commands.command.Goals as goal

pub loop-name-preserved : goal.loop-name-preserved
loop-name-preserved c =
    let none : Bor Text = record { ref_ptr = (0, 0); now = [] } in
    let is : rule_of c.action.result ≡ word_rule (get_or c.args.words.now c.loop-name.name-index none).now = search rules in
    one_more word_rule c.args.words.now c.loop-name.name-index none _ _ no_rules (rule_of c.action.result) c.loop-name-test.true c.loop-name.invariant (c.in_ok-command.ensures.shape (search rules)) is

pub loop-option-preserved : goal.loop-option-preserved
loop-option-preserved c =
    let none : Bor Text = record { ref_ptr = (0, 0); now = [] } in
    let is : rule_of c.action-in-loop-option.result ≡ option_rule (get_or c.args.options.now c.loop-option.option-index none).now = search rules in
    one_more option_rule c.args.options.now c.loop-option.option-index none _ _ (with_rules (map word_rule (map (λ w. w.now) c.args.words.now)) no_rules) (rule_of c.action-in-loop-option.result) c.loop-option-test.true c.loop-option.invariant
    (c.in_ok-command-2.ensures.shape (search rules)) is
