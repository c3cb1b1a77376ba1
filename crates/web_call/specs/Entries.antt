-- A list of words and files: `w` and a block is a word, `f` and two blocks is a file, its name and its bytes. Words and names
-- are UTF-8.
use Rattle.std.specs.Prelude.{ℕ, zero, suc, if◌then◌else◌, ◌==◌, List, [], ◌∷◌, ◌++◌, length, Option, None, Some}
use Rattle.std.specs.Option.{option_and_then, option_map}
use Rattle.std.specs.Str.{is_utf8}
use Rattle.sim_base.specs.Mem.{MemState, new_bench}
use Rattle.web_call.specs.Blocks.{first_block}
use Rattle.web_call.specs.declared.entries.Entry.{Entry}
use Rattle.web_call.specs.declared.entries.Entry.TheVariants as seen

pub data Listed : Type 0 where
  Word : List ℕ → Listed
  File : List ℕ → List ℕ → Listed

-- the first block where it is a text
abbrev pub first_text : List ℕ → Option (List ℕ × List ℕ)
first_text list = option_and_then (λ b. if is_utf8 b.0 then Some b else None) (first_block list)

-- the first word or file of a list, and what follows
abbrev pub first_entry : List ℕ → Option (Listed × List ℕ)
first_entry [] = None
first_entry (tag ∷ list) =
    if tag == 119 then option_map (λ w. (Word w.0, w.1)) (first_text list)
    else if tag == 102 then option_and_then (λ n. option_map (λ b. (File n.0 b.0, b.1)) (first_block n.1)) (first_text list)
    else None

-- at most so many words and files, one after the other, and nothing else
unfoldable pub entries_from : ℕ → List ℕ → Option (List Listed)
entries_from most [] = Some []
entries_from zero (x ∷ xs) = None
entries_from (suc most) (x ∷ xs) =
    option_and_then (λ e. option_map (λ es. e.0 ∷ es) (entries_from most e.1)) (first_entry (x ∷ xs))

-- the words and files that a list is, if it is one
abbrev pub entries : List ℕ → Option (List Listed)
entries list = entries_from (length list) list

-- what a call is given: words, and a bench with files; of two files of one name the later counts
pub record Given : Type 0 where
  pub words : List (List ℕ)
  pub bench : MemState

abbrev pub nothing : Given
nothing = record { words = []; bench = new_bench }

abbrev pub with_entry : Given → Listed → Given
with_entry g (Word w) = record g { words = g.words ++ w ∷ [] }
with_entry g (File name bytes) = record g { bench = record g.bench { files = (name, bytes) ∷ g.bench.files } }

unfoldable pub with_entries : Given → List Listed → Given
with_entries g [] = g
with_entries g (e ∷ es) = with_entries (with_entry g e) es

-- what a list gives, if it is one
abbrev pub given : List ℕ → Option Given
given list = option_map (with_entries nothing) (entries list)

-- what the code's entry stands for
abbrev pub entry_of : Entry → Listed
entry_of (seen.Word w) = Word w.now
entry_of (seen.File name bytes) = File name.now bytes.now
