use Rattle.std.proofs.Common.{◌≡◌, ◌≢◌, ◌∙◌, ap, sym, map, string_bytes, ℕ, ◌<◌, List, [], Some, subst}
use Rattle.std.proofs.lemmas.List.{length-map}
use Rattle.clap.specs.Kinds.{HasKind, Kinds}
use Rattle.clap.specs.Values.{kind_of}
use Rattle.clap.specs.Words.{App, app_of, fault_of, matches_of, is_simple, is_simple_and_free}
use Rattle.clap.specs.declared.error.kind.ErrorKind.TheVariants as kind
use Rattle.cli_words_model.specs.Words.{Text}
use Rattle.cli_words.specs.Commands.{app_for}
use Rattle.cli_words.proofs.RuleLemmas.{simple, simple_and_free}
use Rattle.cli_words.proofs.WalkLemmas.{pick}
use Rattle.cli_words.proofs.AgreeLemmas.{agrees}
use Rattle.cli_words.proofs.ReadLemmas.{all_utf8, refused}
use Rattle.cli_words.proofs.commands.read_texts.Goals as goal

pub returns-in-Ok : goal.returns-in-Ok
returns-in-Ok c =
    let words : List Text = map (λ w. w.now) c.args.words.now in
    let options : List Text = map (λ o. o.now) c.args.options.now in
    let given : List Text = map string_bytes c.args.given.now in
    let app_is : app_of c.in_ok-command.command ≡ app_for words options = c.in_ok-command.ensures in
    let rows = (c.in-Ok.ensures.matches (ap is_simple app_is ∙ simple words options)).0 ∙ ap (λ (a : App). matches_of a given) app_is in
    let calm : fault_of (app_for words options) given ≡ [] = sym (ap (λ (a : App). fault_of a given) app_is) ∙ c.in-Ok.ensures.kinds (ap is_simple_and_free app_is ∙ simple_and_free words options) in
    ap Some rows ∙ sym (ap (λ (ks : Kinds). pick ks (matches_of (app_for words options) given)) calm) ∙ agrees words options given (subst (λ (n : ℕ). n < 100) (sym (length-map c.args.words.now (λ w. w.now))) c.requires) (all_utf8 c.args.given.now)

pub returns : goal.returns
returns c =
    let words : List Text = map (λ w. w.now) c.args.words.now in
    let options : List Text = map (λ o. o.now) c.args.options.now in
    let given : List Text = map string_bytes c.args.given.now in
    let app_is : app_of c.in_ok-command.command ≡ app_for words options = c.in_ok-command.ensures in
    let fails = c.in-Err.ensures.kinds (ap is_simple_and_free app_is ∙ simple_and_free words options) in
    let among : HasKind (fault_of (app_for words options) given) c.in-Err.error = subst (λ (a : App). HasKind (fault_of a given) c.in-Err.error) app_is fails in
    let other : kind_of c.in-Err.error ≢ kind.OutOfMemory = λ e. c.in_default.not-OutOfMemory (c.kind.ensures ∙ e) in
    sym (refused (fault_of (app_for words options) given) (kind_of c.in-Err.error) (matches_of (app_for words options) given) other among)
    ∙ agrees words options given (subst (λ (n : ℕ). n < 100) (sym (length-map c.args.words.now (λ w. w.now))) c.requires) (all_utf8 c.args.given.now)
