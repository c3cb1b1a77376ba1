-- From the contract of clap to the texts that words give.
use Rattle.std.proofs.Common.{◌≡◌, ◌≢◌, ◌⊎◌, ◌∙◌, ◌<◌, ◌+◌, ℕ, List, [], ◌∷◌, ◌++◌, length, take, get_or, Bor, map, Bool, true, false, bytes_eq, Option, Some, None, option_map, refl, ap, sym, String, string_bytes, inl, inr}
use Rattle.std.specs.List.{list_all}
use Rattle.std.specs.Option.{option_and_then}
use Rattle.std.specs.Str.{is_utf8}
use Rattle.std.proofs.lemmas.Bool.{and_from}
use Rattle.std.proofs.lemmas.Str.{is_utf8-from_IsUtf8, IsUtf8-string_bytes}
use Rattle.clap.specs.Kinds.{Kinds, IsAmong}
use Rattle.std.proofs.lemmas.List.{append_assoc, map-append, map_more}
use Rattle.clap.specs.Words.{App, Row, Rule, first_of, with_rule, rows_of, found_of}
use Rattle.clap.specs.declared.parser.matches.ArgMatches.{ArgMatches}
use Rattle.clap.specs.Simple.{on_top}
use Rattle.clap.specs.declared.error.kind.ErrorKind.{ErrorKind}
use Rattle.clap.specs.declared.error.kind.ErrorKind.TheVariants as kind
use Rattle.cli_words_model.specs.Words.{Text, Given, text_of}
use Rattle.cli_words.specs.Commands.{row, with_rules, AreOf}
use Rattle.cli_words.proofs.WalkLemmas.{pick}

pub all_utf8 : {Z : Type 0} (words : List (String Z)) → list_all is_utf8 (map string_bytes words) ≡ true
all_utf8 [] = refl
all_utf8 (w ∷ words) = and_from _ _ (is_utf8-from_IsUtf8 (string_bytes w) (IsUtf8-string_bytes w)) (all_utf8 words)

-- an error other than out of memory comes where the words are refused
pub refused : (ks : Kinds) (k : ErrorKind) (rows : List Row) → k ≢ kind.OutOfMemory → (k ≡ kind.OutOfMemory) ⊎ IsAmong k ks → pick ks rows ≡ None
refused [] k rows other (inl memory) = absurd (other memory)
refused [] k rows other (inr among) = absurd among
refused (x ∷ ks) k rows other is = refl

pub none_given : (o : Option Given) → None ≡ option_map (map row) o → o ≡ None
none_given None e = refl
none_given (Some g) e = absurd (cc)

-- the first text of a name
pub first_text : (name : Text) (given : Given) → first_of name (map row given) ≡ text_of name given
first_text name [] = refl
first_text name (g ∷ given) = go (bytes_eq g.0 name) refl (first_text name given)
  where
    go : (b : Bool) → bytes_eq g.0 name ≡ b → first_of name (map row given) ≡ text_of name given → first_of name (map row (g ∷ given)) ≡ text_of name (g ∷ given)
    go true e others = rw e refl
    go false e others = rw e others

-- a command with one argument more
pub one_more : (f : Text → Rule) (names : List (Bor Text)) (i : ℕ) (d : Bor Text) (a b start : App) (r : Rule) → i < length names →
    a ≡ with_rules (map f (map (λ n. n.now) (take i names))) start → b ≡ with_rule a r → r ≡ f (get_or names i d).now →
    b ≡ with_rules (map f (map (λ n. n.now) (take (i + 1) names))) start
one_more f names i d a b start r less before adds is =
    let now : Bor Text → Text = λ n. n.now in
    let more : map f (map now (take i names)) ++ f (get_or names i d).now ∷ [] ≡ map f (map now (take (i + 1) names)) =
    sym (map-append f (map now (take i names)) ((get_or names i d).now ∷ [])) ∙ ap (map f) (sym (map_more now names i d less)) in
    adds ∙ ap (λ (x : App). with_rule x r) before ∙ ap (with_rule (with_rules (map f (map now (take i names))) start)) is
    ∙ ap (λ (rules : List Rule). on_top (λ s. record s { rules = rules }) start) (append_assoc start.top.rules (map f (map now (take i names))) (f (get_or names i d).now ∷ []) ∙ ap (λ (rules : List Rule). start.top.rules ++ rules) more)

-- what is asked by the texts of the matches
pub asked_by_texts : {A : Type 0} (texts : Option Given) (matches : ArgMatches) (asks : Given → Option A) (asked : Option A) → Some (rows_of (found_of matches)) ≡ option_map (map row) texts →
    ((given : Given) → AreOf given matches → asked ≡ asks given) → asked ≡ option_and_then asks texts
asked_by_texts None matches asks asked e is = absurd (cc)
asked_by_texts (Some given) matches asks asked e is = let same : rows_of (found_of matches) ≡ map row given = cc in is given same
