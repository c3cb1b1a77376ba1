use Rattle.std.proofs.Common.{◌≡◌, ◌∙◌, Bool, true, false, if◌then◌else◌, bytes_eq, codes, refl}
use Rattle.std.proofs.lemmas.Slice.Eq.{bytes_eq-Decides}
use Rattle.cli_words_model.specs.Words.{Text}
use Rattle.cli_words.proofs.request.command_of.Goals as goal

another : {X : Type 0} (a b : Text) (x y : X) → (a ≡ b → ⊥) → (if bytes_eq a b then x else y) ≡ y
another {X = X} a b x y differs = go (bytes_eq a b) refl
  where
    go : (same : Bool) → bytes_eq a b ≡ same → (if same then x else y) ≡ y
    go true e = absurd (differs ((bytes_eq-Decides a b).0 e))
    go false e = refl

pub returns-in_default : goal.returns-in_default
returns-in_default c = λ given.
    let word : Text = c.args.word.now in
    let is = c.in_default in
    another word (codes "bare") _ _ is.not-bare ∙ another word (codes "check") _ _ is.not-check ∙ another word (codes "module") _ _ is.not-module
    ∙ another word (codes "run") _ _ is.not-run ∙ another word (codes "serve") _ _ is.not-serve ∙ another word (codes "replay") _ _ is.not-replay ∙ another word (codes "twin") _ _ is.not-twin
    ∙ another word (codes "make") _ _ is.not-make ∙ another word (codes "decode") _ _ is.not-decode
