-- The words after a command (profile). Positional words and options stand in any order, an option as `--name value` or
-- as `--name=value`, each at most once; after the word `--` all words are positional.
use Rattle.std.specs.Prelude.{ℕ, ◌==◌, List, [], ◌∷◌, ◌++◌, Bool, Option, None, Some, if◌then◌else◌, find}
use Rattle.std.specs.List.{list_any, before_first, after_first}
use Rattle.std.specs.Option.{option_map, option_and_then}
use Rattle.std.specs.Str.{bytes_eq}

abbrev pub Text : Type 0
Text = List ℕ

-- texts, each with the name under which it is given
abbrev pub Given : Type 0
Given = List (Text × Text)

-- What a word is by how it begins: positional (`-` alone too), the end of the options, an option that may have its value
-- behind `=`, or none of these.
pub data Word : Type 0 where
  Positional : Word
  End : Word
  Named : Text → Option Text → Word
  Unknown : Word

abbrev pub is_equals : ℕ → Bool
is_equals b = b == 61

abbrev pub value_in : Text → Option Text
value_in text = if list_any is_equals text then Some (after_first is_equals text) else None

-- what follows two hyphens
abbrev pub named : Text → Word
named [] = End
named (x ∷ xs) = Named (before_first is_equals (x ∷ xs)) (value_in (x ∷ xs))

abbrev pub after_hyphen : ℕ → Text → Word
after_hyphen y rest = if y == 45 then named rest else Unknown

abbrev pub word_of : Text → Word
word_of [] = Positional
word_of (x ∷ []) = Positional
word_of (x ∷ y ∷ rest) = if x == 45 then after_hyphen y rest else Positional

-- the names that a command has for its positional words, in their order, and its options
pub record Syntax : Type 0 where
  pub words : List Text
  pub options : List Text

abbrev pub has_name : Text → List Text → Bool
has_name name names = list_any (λ n. bytes_eq n name) names

-- a text under its name, before those that follow
abbrev pub with : Text → Text → Option Given → Option Given
with name text rest = option_map (λ given. (name, text) ∷ given) rest

-- each word under the next name
unfoldable pub positional : List Text → List Text → Option Given
positional names [] = Some []
positional [] (word ∷ words) = None
positional (name ∷ names) (word ∷ words) = with name word (positional names words)

-- what further words give, by the option that waits for its value and the names of the positional words to come
abbrev pub Further : Type 0
Further = Option Text → List Text → Option Given

abbrev pub one_positional : List Text → Text → Further → Option Given
one_positional [] word further = None
one_positional (name ∷ names) word further = with name word (further None names)

abbrev pub one_option : List Text → Text → Option Text → Further → Option Given
one_option names option (Some value) further = with option value (further None names)
one_option names option None further = further (Some option) names

abbrev pub one_word : Word → List Text → List Text → Text → List Text → Further → Option Given
one_word Positional options names word words further = one_positional names word further
one_word End options names word words further = positional names words
one_word (Named option value) options names word words further = if has_name option options then one_option names option value further else None
one_word Unknown options names word words further = None

-- an option's value that is a word of its own does not begin with a hyphen, or is one alone
abbrev pub one_value : Word → Text → List Text → Text → Further → Option Given
one_value Positional option names word further = with option word (further None names)
one_value End option names word further = None
one_value (Named other value) option names word further = None
one_value Unknown option names word further = None

unfoldable pub given_by : List Text → List Text → Further
given_by options [] None names = Some []
given_by options [] (Some option) names = None
given_by options (word ∷ words) None names = one_word (word_of word) options names word words (given_by options words)
given_by options (word ∷ words) (Some option) names = one_value (word_of word) option names word (given_by options words)

abbrev pub is_given : Text → Given → Bool
is_given name given = list_any (λ g. bytes_eq g.0 name) given

-- the texts behind earlier ones, none of whose names comes again
unfoldable pub once : Given → Given → Option Given
once earlier [] = Some earlier
once earlier (g ∷ given) = if is_given g.0 earlier then None else once (earlier ++ g ∷ []) given

-- the texts that the words give; None where they are not of this form
abbrev pub texts_of : Syntax → List Text → Option Given
texts_of syntax words = option_and_then (once []) (given_by syntax.options words None syntax.words)

-- the text under a name
abbrev pub text_of : Text → Given → Option Text
text_of name given = option_map (λ g. g.1) (find (λ g. bytes_eq g.0 name) given)
