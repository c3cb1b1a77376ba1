-- The arguments of a command, built, and where clap finds them.
use Rattle.std.proofs.Common.{◌≡◌, ◌∙◌, ◌<◌, ℕ, ◌+◌, min, List, [], ◌∷◌, ◌++◌, map, length, Bool, true, false, cond, ◌==◌, ◌&&◌, not, Option, Some, None, refl, ap, sym, subst, find, fold, bytes_eq, arith}
use Rattle.std.specs.List.{list_any, list_all}
use Rattle.std.specs.Option.{option_map_or}
use Rattle.std.proofs.lemmas.Bool.{ne_eqb, eq-eqb, and_from, not_from_false}
use Rattle.std.proofs.lemmas.Slice.Eq.{bytes_eq-Decides}
use Rattle.clap.specs.Lexer.{usize_max}
use Rattle.clap.specs.Words.{App, Row, Rule, new_rule, is_simple, is_simple_and_free}
use Rattle.clap.specs.Simple.{Shape, new_shape, built, filled_from, is_buildable, is_ready, is_ready_leaf}
use Rattle.clap.specs.Walk.{arg_by_id, arg_by_long, arg_by_short, arg_by_index, with_default, has_row, is_early_multiple}
use Rattle.clap.specs.Faults.{defaults_fault, is_free_app}
use Rattle.clap.specs.Takes.{is_given}
use Rattle.clap.specs.declared.builder.action.ArgAction.TheVariants.{Set}
use Rattle.clap.specs.declared.builder.value_parser.ValueParser.TheVariants as parsers
use Rattle.cli_words_model.specs.Words.{Text, has_name}
use Rattle.cli_words.specs.Commands.{app_for, word_rule, option_rule}

-- an argument by its long name, its position and its id
abbrev pub Entry : Type 0
Entry = Option Text × Option ℕ × Text

abbrev pub made : Entry → Rule
made e = record (new_rule e.2) {
  long = e.0;
  index = e.1;
  action = Some Set;
  range = Some (record { start_inclusive = 1; end_inclusive = 1 });
  parser = Some parsers.String;
}

abbrev pub optional : Text → Entry
optional name = (Some name, None, name)

abbrev pub table : ℕ → List Text → List Text → List Entry
table i [] options = map optional options
table i (name ∷ names) options = (None, Some i, name) ∷ table (min (i + 1) usize_max) names options

abbrev pub shape : List Rule → Shape
shape rules = record (new_shape []) { rules = rules; no_binary_name = true; disable_help_flag = true; disable_help_subcommand = true; is_built = true }

options_filled : (i : ℕ) (options : List Text) → filled_from i (map option_rule options) ≡ map made (map optional options)
options_filled i [] = refl
options_filled i (o ∷ options) = ap (λ rules. made (optional o) ∷ rules) (options_filled i options)

filled : (i : ℕ) (words options : List Text) → filled_from i (map word_rule words ++ map option_rule options) ≡ map made (table i words options)
filled i [] options = options_filled i options
filled i (name ∷ names) options = ap (λ rules. made (None, Some i, name) ∷ rules) (filled (min (i + 1) usize_max) names options)

pub built_is : (words options : List Text) → built (app_for words options) ≡ record { top = shape (map made (table 1 words options)); subs = [] }
built_is words options = ap (λ rules. record { top = shape rules; subs = [] }) (filled 1 words options)

-- by a long name
options_by_long : (options : List Text) (name : Text) → arg_by_long (map made (map optional options)) name ≡ cond (has_name name options) (Some (made (optional name))) None
options_by_long [] name = refl
options_by_long (o ∷ options) name = go (options_by_long options name) (bytes_eq o name) refl
  where
    go : arg_by_long (map made (map optional options)) name ≡ cond (has_name name options) (Some (made (optional name))) None → (b : Bool) → bytes_eq o name ≡ b → arg_by_long (map made (map optional (o ∷ options))) name ≡ cond (has_name name (o ∷ options)) (Some (made (optional name))) None
    go others true e = rw e (ap (λ (n : Text). Some (made (optional n))) ((bytes_eq-Decides o name).0 e))
    go others false e = rw e others

pub by_long : (i : ℕ) (words options : List Text) (name : Text) → arg_by_long (map made (table i words options)) name ≡ cond (has_name name options) (Some (made (optional name))) None
by_long i [] options name = options_by_long options name
by_long i (n ∷ names) options name = by_long (min (i + 1) usize_max) names options name

-- by a short name
pub by_short : (t : List Entry) (x : ℕ) → arg_by_short (map made t) x ≡ None
by_short [] x = refl
by_short ((long, Some k, id) ∷ t) x = by_short t x
by_short ((long, None, id) ∷ t) x = by_short t x

-- by an id
abbrev pub Found : List Rule → Text → Type 0
Found c id = (e : Entry) × (e.2 ≡ id) × (arg_by_id c id ≡ Some (made e))

pub found : (t : List Entry) (test : Rule → Bool) (e : Entry) → find test (map made t) ≡ Some (made e) → Found (map made t) e.2
found [] test e is = absurd (cc)
found (x ∷ t) test e is = go (λ others. found t test e others) (bytes_eq x.2 e.2) refl
  where
    later : (find test (map made t) ≡ Some (made e) → Found (map made t) e.2) → (b : Bool) → test (made x) ≡ b → bytes_eq x.2 e.2 ≡ false → Found (map made t) e.2
    later f true passes differs =
        let first : Some (made x) ≡ Some (made e) = rw passes at is in
        let same : x.2 ≡ e.2 = ap (λ (o : Option Rule). option_map_or (λ r. r.id) o e.2) first in
        absurd (let bad : true ≡ false = sym ((bytes_eq-Decides x.2 e.2).1 same) ∙ differs in cc)
    later f false fails differs = f (rw fails at is)

    go : (find test (map made t) ≡ Some (made e) → Found (map made t) e.2) → (b : Bool) → bytes_eq x.2 e.2 ≡ b → Found (map made (x ∷ t)) e.2
    go f true same = (x, (bytes_eq-Decides x.2 e.2).0 same, rw same refl)
    go f false differs =
        let l = later f (test (made x)) refl differs in
        (l.0, l.1, rw differs l.2)

-- by a position: the names of the positionals from one on
abbrev pub Stands : List Rule → ℕ → List Text → Type 0
Stands c i [] = arg_by_index c i ≡ None
Stands c i (name ∷ names) = (arg_by_index c i ≡ Some (made (None, Some i, name))) × Stands c (min (i + 1) usize_max) names

-- an earlier positional is passed over
passed : (c : List Rule) (k : ℕ) (name : Text) (i : ℕ) (names : List Text) → k < i → i + length names < usize_max → Stands c i names → Stands (made (None, Some k, name) ∷ c) i names
passed c k name i [] less bound stands =
    let apart : (k == i) ≡ false = ne_eqb k i (λ e. omega arith) in
    rw apart stands
passed c k name i (n ∷ names) less bound stands =
    let apart : (k == i) ≡ false = ne_eqb k i (λ e. omega arith) in
    let next : min (i + 1) usize_max ≡ i + 1 = omega arith in (
      rw apart stands.0,
      passed c k name (min (i + 1) usize_max) names (omega arith) (omega arith) stands.1,
    )

none_by_index : (options : List Text) (i : ℕ) → arg_by_index (map made (map optional options)) i ≡ None
none_by_index [] i = refl
none_by_index (o ∷ options) i = none_by_index options i

pub by_index : (i : ℕ) (words options : List Text) → i + length words < usize_max → Stands (map made (table i words options)) i words
by_index i [] options bound = none_by_index options i
by_index i (n ∷ names) options bound =
    let same : (i == i) ≡ true = eq-eqb i i refl in
    let next : min (i + 1) usize_max ≡ i + 1 = omega arith in (
      rw same refl,
      passed (map made (table (min (i + 1) usize_max) names options)) i n (min (i + 1) usize_max) names (omega arith) (omega arith) (by_index (min (i + 1) usize_max) names options (omega arith)),
    )

-- nothing is required, has a default value or a rule on another argument
same_row : (e : Entry) (rows : List Row) → with_default rows (made e) ≡ rows
same_row e rows = go (has_row e.2 rows)
  where
    go : (b : Bool) → cond b rows rows ≡ rows
    go true = refl
    go false = refl

pub no_defaults : (t : List Entry) (rows : List Row) → fold with_default rows (map made t) ≡ rows
no_defaults [] rows = refl
no_defaults (e ∷ t) rows = ap (λ (r : List Row). fold with_default r (map made t)) (same_row e rows) ∙ no_defaults t rows

pub no_default_faults : (t : List Entry) (rows : List Row) → defaults_fault rows (map made t) ≡ []
unfolding defaults_fault
no_default_faults [] rows = refl
no_default_faults (e ∷ t) rows = go (no_default_faults t rows) (has_row e.2 rows) refl
  where
    go : defaults_fault rows (map made t) ≡ [] → (b : Bool) → has_row e.2 rows ≡ b → defaults_fault rows (map made (e ∷ t)) ≡ []
    go others true is = rw is others
    go others false is = rw is others

pub none_required : (t : List Entry) (rows : List Row) → list_any (λ (a : Rule). a.required && not (is_given a.id rows)) (map made t) ≡ false
none_required [] rows = refl
none_required (e ∷ t) rows = none_required t rows

in_order : (t : List Entry) (n : ℕ) → list_any (is_early_multiple n) (map made t) ≡ false
in_order [] n = refl
in_order ((long, Some k, id) ∷ t) n = in_order t n
in_order ((long, None, id) ∷ t) n = in_order t n

simple_rules : (words options : List Text) → list_all (λ (a : Rule). a.is_simple) (map word_rule words ++ map option_rule options) ≡ true
simple_rules [] [] = refl
simple_rules [] (o ∷ options) = simple_rules [] options
simple_rules (n ∷ names) options = simple_rules names options

simple_made : (t : List Entry) → list_all (λ (a : Rule). a.is_simple) (map made t) ≡ true
simple_made [] = refl
simple_made (e ∷ t) = simple_made t

free_made : (t : List Entry) → list_all (λ (a : Rule). a.is_free) (map made t) ≡ true
free_made [] = refl
free_made (e ∷ t) = free_made t

pub simple : (words options : List Text) → is_simple (app_for words options) ≡ true
simple words options =
    let t = table 1 words options in
    let buildable : is_buildable (app_for words options) ≡ true = rw (simple_rules words options) refl in
    let ready : is_ready (shape (map made t)) ≡ true = and_from _ _ (simple_made t) (not_from_false _ (in_order t _)) in
    and_from _ _ buildable (subst (λ (b : App). is_ready b.top && list_all is_ready_leaf b.subs ≡ true) (sym (built_is words options)) (rw ready refl))

pub simple_and_free : (words options : List Text) → is_simple_and_free (app_for words options) ≡ true
simple_and_free words options =
    let t = table 1 words options in
    and_from _ _ (simple words options) (subst (λ (b : App). is_free_app b ≡ true) (sym (built_is words options)) (rw (free_made t) refl))
