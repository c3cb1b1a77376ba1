-- The walk of clap over the words gives what the grammar of the words gives.
use Rattle.std.proofs.Common.{◌≡◌, ◌⊎◌, ◌∙◌, ℕ, ◌+◌, min, List, [], ◌∷◌, ◌++◌, map, Bool, true, false, cond, ◌||◌, Option, Some, None, option_map, refl, ap, sym, subst, fold, bytes_eq, inl, inr}
use Rattle.std.specs.List.{list_all}
use Rattle.std.specs.Option.{option_and_then}
use Rattle.std.specs.Str.{is_utf8}
use Rattle.std.proofs.lemmas.Bool.{and_parts, and_right, or_parts}
use Rattle.std.proofs.lemmas.List.{append-nil, map-append}
use Rattle.std.proofs.lemmas.Slice.Eq.{bytes_eq-Decides}
use Rattle.clap.specs.Lexer.{usize_max}
use Rattle.clap.specs.Kinds.{Kinds, or_else}
use Rattle.clap.specs.Words.{Row, Rule, reading_of}
use Rattle.clap.specs.Walk.{Held, Walk, Waiting, idle, option, positional as several, at_row, without, with_values, more_values, has_row, used, settled, settled_rows, walked, value, to_positional, is_pending, arg_by_long, arg_by_short, arg_by_index}
use Rattle.clap.specs.Faults.{walk_fault, turn_fault, settle_fault, step_fault, long_fault, use_fault, flags_fault}
use Rattle.clap.specs.declared.error.kind.ErrorKind.TheVariants as kind
use Rattle.clap.specs.declared.parser.matches.ValueSource.TheVariants.{CommandLine}
use Rattle.clap.specs.declared.builder.value_parser.ValueParser.TheVariants as parsers
use Rattle.cli_words_model.specs.Words.{Text, Given, Word, Positional, End, Named, Unknown, word_of, has_name, with, positional, one_option, one_word, one_value, given_by, is_given, once}
use Rattle.cli_words.specs.Commands.{row}
use Rattle.cli_words.proofs.LexLemmas.{Lexed, lexed}
use Rattle.cli_words.proofs.RuleLemmas.{Entry, made, optional, shape, Found, Stands}

-- rows

has_row_is : (name : Text) (g : Given) → has_row name (map row g) ≡ is_given name g
has_row_is name [] = refl
has_row_is name (x ∷ g) = ap (λ (b : Bool). bytes_eq x.0 name || b) (has_row_is name g)

at_row_none : (name : Text) (g : Given) (change : Row → List Row) (missing : List Row) → is_given name g ≡ false → at_row name change missing (map row g) ≡ map row g ++ missing
at_row_none name [] change missing e = refl
at_row_none name (x ∷ g) change missing e =
    let parts = or_parts (bytes_eq x.0 name) (is_given name g) e in
    rw parts.0 (ap (λ (rows : List Row). row x ∷ rows) (at_row_none name g change missing parts.1))

-- an option or a word that is new comes behind the others
used_new : (e : Entry) (g : Given) (text : Text) → is_given e.2 g ≡ false → used (made e) (text ∷ []) (map row g) ≡ map row (g ++ (e.2, text) ∷ [])
used_new e g text new =
    let out : without e.2 (map row g) ≡ map row g = at_row_none e.2 g (λ r. []) [] new ∙ append-nil (map row g) in
    ap (λ (rows : List Row). with_values e.2 (reading_of parsers.String) CommandLine (text ∷ []) rows) out
    ∙ at_row_none e.2 g (more_values CommandLine (text ∷ [])) _ new ∙ sym (map-append row g ((e.2, text) ∷ []))

use_old : (e : Entry) (g : Given) (text : Text) → is_given e.2 g ≡ true → use_fault false (made e) (text ∷ []) (map row g) ≡ kind.ArgumentConflict ∷ []
use_old e g text old = rw (has_row_is e.2 g ∙ old) refl

use_new : (e : Entry) (g : Given) (text : Text) → is_given e.2 g ≡ false → use_fault false (made e) (text ∷ []) (map row g) ≡ []
use_new e g text new = rw (has_row_is e.2 g ∙ new) refl

-- what is held between two words: the texts so far, and one that is not yet settled
abbrev pub pend : Option (Text × Text) → Option (Text × List Text)
pend None = None
pend (Some x) = Some (x.0, x.1 ∷ [])

abbrev pub held : List Row → Option (Text × List Text) → Held
held rows pending = record { rows = rows; pending = pending; skip = 0 }

abbrev pub IsKnown : List Rule → Option (Text × Text) → Type 0
IsKnown c None = Unit {0}
IsKnown c (Some x) = Found c x.0

abbrev pub repeats : Given → Option (Text × Text) → Bool
repeats g None = false
repeats g (Some x) = is_given x.0 g

abbrev pub behind : Given → Option (Text × Text) → Given
behind g None = g
behind g (Some x) = g ++ x ∷ []

abbrev pub Settles : List Rule → Given → Option (Text × Text) → Type 0
Settles c g q =
    ((repeats g q ≡ true) × (settle_fault c false (held (map row g) (pend q)) ≡ kind.ArgumentConflict ∷ []))
    ⊎ ((repeats g q ≡ false) × (settle_fault c false (held (map row g) (pend q)) ≡ []) × (settled_rows c (pend q) (map row g) ≡ map row (behind g q)))

settles : (c : List Rule) (g : Given) (q : Option (Text × Text)) → IsKnown c q → Settles c g q
settles c g None known = inr (refl, refl, refl)
settles c g (Some x) known = go (is_given x.0 g) refl
  where
    same : is_given known.0.2 g ≡ is_given x.0 g
    same = ap (λ (n : Text). is_given n g) known.1

    go : (b : Bool) → is_given x.0 g ≡ b → Settles c g (Some x)
    go true e = inl (e, rw known.2 (use_old known.0 g x.1 (same ∙ e)))
    go false e = inr (e, rw known.2 (use_new known.0 g x.1 (same ∙ e)), rw known.2 (used_new known.0 g x.1 (same ∙ e) ∙ ap (λ (n : Text). map row (g ++ (n, x.1) ∷ [])) known.1))

-- what the walk comes to from one place on
abbrev pub at : Bool → List Row → Option (Text × List Text) → Waiting → ℕ → Walk
at trailing rows pending waiting i = record { held = held rows pending; waiting = waiting; position = i; is_trailing = trailing; stopped = None }

abbrev pub pick : Kinds → List Row → Option (List Row)
pick [] rows = Some rows
pick (k ∷ ks) rows = None

abbrev pub ended : List Rule → Walk → List Text → Held
ended c w words = (fold (walked c []) w words).held

abbrev pub outcome : List Rule → Walk → List Text → Option (List Row)
outcome c w words = pick (or_else (walk_fault (shape c) [] w words) (settle_fault c false (ended c w words))) (settled c (ended c w words)).rows

abbrev pub after : Kinds → Option (List Row) → Option (List Row)
after [] o = o
after (k ∷ ks) o = None

first_fault : (ks more last : Kinds) (rows : List Row) → pick (or_else (or_else ks more) last) rows ≡ after ks (pick (or_else more last) rows)
first_fault [] more last rows = refl
first_fault (k ∷ ks) more last rows = refl

outcome_cons : (c : List Rule) (w : Walk) (word : Text) (rest : List Text) → outcome c w (word ∷ rest) ≡ after (turn_fault (shape c) [] w word) (outcome c (walked c [] w word) rest)
unfolding walk_fault
outcome_cons c w word rest = first_fault (turn_fault (shape c) [] w word) _ _ _

outcome_none : (c : List Rule) (w : Walk) (word : Text) (rest : List Text) (k : _) (ks : Kinds) → turn_fault (shape c) [] w word ≡ k ∷ ks → outcome c w (word ∷ rest) ≡ None
outcome_none c w word rest k ks e = outcome_cons c w word rest ∙ ap (λ (l : Kinds). after l (outcome c (walked c [] w word) rest)) e

outcome_next : (c : List Rule) (w v : Walk) (word : Text) (rest : List Text) → turn_fault (shape c) [] w word ≡ [] → walked c [] w word ≡ v → outcome c w (word ∷ rest) ≡ outcome c v rest
outcome_next c w v word rest e is =
    outcome_cons c w word rest ∙ ap (λ (l : Kinds). after l (outcome c (walked c [] w word) rest)) e ∙ ap (λ (x : Walk). outcome c x rest) is

-- the turn of a positional word
abbrev pub IsTaken : Bool → Text → Type 0
IsTaken true w = Unit {0}
IsTaken false w = Lexed w Positional

taken_turn : (c : List Rule) (f : Bool) (rows : List Row) (p : Option (Text × List Text)) (i : ℕ) (w : Text) → IsTaken f w →
    turn_fault (shape c) [] (at f rows p idle i) w ≡ step_fault (shape c) i (held rows p) value
taken_turn c true rows p i w l = refl
taken_turn c false rows p i w l = rw (l.0, l.1, l.2) refl

taken_walk : (c : List Rule) (f : Bool) (rows : List Row) (p : Option (Text × List Text)) (i : ℕ) (w : Text) → IsTaken f w →
    walked c [] (at f rows p idle i) w ≡ to_positional c (arg_by_index c i) w (at f rows p idle i) (held rows p)
unfolding walked
taken_walk c true rows p i w l = refl
taken_walk c false rows p i w l = rw (l.0, l.1, l.2) refl

stray : (c : List Rule) (i : ℕ) (h : Held) → arg_by_index c i ≡ None → step_fault (shape c) i h value ≡ kind.UnknownArgument ∷ []
stray c i h e = rw e refl

placed : (c : List Rule) (i : ℕ) (name : Text) (rows : List Row) (p : Option (Text × List Text)) → arg_by_index c i ≡ Some (made (None, Some i, name)) →
    step_fault (shape c) i (held rows p) value ≡ settle_fault c false (held rows p)
placed c i name rows p e = rw (e, and_right (is_pending (made (None, Some i, name)) p) false refl) refl

placed_walk : (c : List Rule) (f : Bool) (i : ℕ) (name w : Text) (rows : List Row) (p : Option (Text × List Text)) → arg_by_index c i ≡ Some (made (None, Some i, name)) →
    to_positional c (arg_by_index c i) w (at f rows p idle i) (held rows p) ≡ at f (settled_rows c p rows) (Some (name, w ∷ [])) idle (min (i + 1) usize_max)
placed_walk c true i name w rows p e = rw (e, and_right (is_pending (made (None, Some i, name)) p) false refl) refl
placed_walk c false i name w rows p e = rw (e, and_right (is_pending (made (None, Some i, name)) p) false refl) refl

-- the turn of an option
refused_option : (c : List Rule) (rows : List Row) (p : Option (Text × List Text)) (waiting : Waiting) (i : ℕ) (w name : Text) (v : Option Text) → Lexed w (Named name v) →
    (k : _) (ks : Kinds) → long_fault c false (arg_by_long c name) v (held rows p) ≡ k ∷ ks → turn_fault (shape c) [] (at false rows p waiting i) w ≡ k ∷ ks
refused_option c rows p idle i w name v l k ks e = rw (l.0, l.1, e) refl
refused_option c rows p (option id) i w name v l k ks e = rw (l.0, l.1, e) refl
refused_option c rows p several i w name v l k ks e = rw (l.0, l.1, e) refl

taken_option : (c : List Rule) (rows : List Row) (p : Option (Text × List Text)) (i : ℕ) (w name text : Text) → Lexed w (Named name (Some text)) →
    arg_by_long c name ≡ Some (made (optional name)) → long_fault c false (Some (made (optional name))) (Some text) (held rows p) ≡ [] →
    turn_fault (shape c) [] (at false rows p idle i) w ≡ []
taken_option c rows p i w name text l known e = rw (l.0, l.1, known, e) refl

option_walk : (c : List Rule) (rows : List Row) (p : Option (Text × List Text)) (i : ℕ) (w name text : Text) → Lexed w (Named name (Some text)) →
    arg_by_long c name ≡ Some (made (optional name)) →
    walked c [] (at false rows p idle i) w ≡ at false (used (made (optional name)) (text ∷ []) (settled_rows c p rows)) None idle i
unfolding walked
option_walk c rows p i w name text l known = rw (l.0, l.1, known) refl

begun_option : (c : List Rule) (rows : List Row) (p : Option (Text × List Text)) (i : ℕ) (w name : Text) → Lexed w (Named name None) →
    arg_by_long c name ≡ Some (made (optional name)) → settle_fault c false (held rows p) ≡ [] →
    turn_fault (shape c) [] (at false rows p idle i) w ≡ []
begun_option c rows p i w name l known e = rw (l.0, l.1, known, e) refl

begun_walk : (c : List Rule) (rows : List Row) (p : Option (Text × List Text)) (i : ℕ) (w name : Text) → Lexed w (Named name None) →
    arg_by_long c name ≡ Some (made (optional name)) →
    walked c [] (at false rows p idle i) w ≡ at false (settled_rows c p rows) (Some (name, [])) (option name) i
unfolding walked
begun_walk c rows p i w name l known = rw (l.0, l.1, known) refl

-- any other word that begins with a hyphen
unknown_word : (c : List Rule) → ((x : ℕ) → arg_by_short c x ≡ None) → (rows : List Row) (p : Option (Text × List Text)) (waiting : Waiting) (i : ℕ) (w : Text) → Lexed w Unknown →
    turn_fault (shape c) [] (at false rows p waiting i) w ≡ kind.UnknownArgument ∷ []
unfolding flags_fault
unknown_word c short rows p idle i w l = rw (l.0, l.1, l.2.2, l.2.3.1, short l.2.3.0) refl
unknown_word c short rows p (option id) i w l = rw (l.0, l.1, l.2.2, l.2.3.1, short l.2.3.0) refl
unknown_word c short rows p several i w l = rw (l.0, l.1, l.2.2, l.2.3.1, short l.2.3.0) refl

-- an option that waits for its value, and has none
waits : (c : List Rule) (name : Text) (rows : List Row) → Found c name → settle_fault c false (held rows (Some (name, []))) ≡ kind.InvalidValue ∷ []
waits c name rows f = rw f.2 refl

-- where the words so far end, with what stands before and what is not settled
abbrev pub joined : Given → Option (Text × Text) → Option Given → Option Given
joined g q given = cond (repeats g q) None (option_and_then (once (behind g q)) given)

none_joined : (g : Given) (q : Option (Text × Text)) → joined g q None ≡ None
none_joined g q = go (repeats g q)
  where
    go : (b : Bool) → cond {A = Option Given} b None None ≡ None
    go true = refl
    go false = refl

with_joined : (g : Given) (name text : Text) (given : Option Given) → option_and_then (once g) (with name text given) ≡ joined g (Some (name, text)) given
unfolding once
with_joined g name text None = sym (none_joined g (Some (name, text)))
with_joined g name text (Some us) = refl

at_end : (c : List Rule) (f : Bool) (g : Given) (q : Option (Text × Text)) (i : ℕ) → IsKnown c q → outcome c (at f (map row g) (pend q) idle i) [] ≡ option_map (map row) (joined g q (Some []))
unfolding walk_fault once
at_end c f g q i known = elim (settles c g q known) [
  | inl x ↦ rw (x.0, x.1) refl
  | inr x ↦ rw (x.0, x.1, x.2) refl
]

pub record Suits (c : List Rule) (options : List Text) : Type 0 where
  pub long : (name : Text) → arg_by_long c name ≡ cond (has_name name options) (Some (made (optional name))) None
  pub short : (x : ℕ) → arg_by_short c x ≡ None
  pub known : (name : Text) → arg_by_long c name ≡ Some (made (optional name)) → Found c name
  pub known_word : (i : ℕ) (name : Text) → arg_by_index c i ≡ Some (made (None, Some i, name)) → Found c name

-- one more positional word, with what further words give
next_word : (c : List Rule) (f : Bool) (g : Given) (q : Option (Text × Text)) (i : ℕ) (name : Text) (w : Text) (ws : List Text) (given : Option Given) →
    IsKnown c q → arg_by_index c i ≡ Some (made (None, Some i, name)) → IsTaken f w →
    ((g : Given) → outcome c (at f (map row g) (pend (Some (name, w))) idle (min (i + 1) usize_max)) ws ≡ option_map (map row) (joined g (Some (name, w)) given)) →
    outcome c (at f (map row g) (pend q) idle i) (w ∷ ws) ≡ option_map (map row) (joined g q (with name w given))
next_word c f g q i name w ws given known placing taken further = elim (settles c g q known) [
  | inl x ↦
      outcome_none c (at f (map row g) (pend q) idle i) w ws _ _ (taken_turn c f (map row g) (pend q) i w taken ∙ placed c i name (map row g) (pend q) placing ∙ x.1)
      ∙ ap (λ (b : Bool). option_map (map row) (cond b None (option_and_then (once (behind g q)) (with name w given)))) (sym x.0)
  | inr x ↦
      outcome_next c (at f (map row g) (pend q) idle i) (at f (map row (behind g q)) (pend (Some (name, w))) idle (min (i + 1) usize_max)) w ws
      (taken_turn c f (map row g) (pend q) i w taken ∙ placed c i name (map row g) (pend q) placing ∙ x.1)
      (taken_walk c f (map row g) (pend q) i w taken ∙ placed_walk c f i name w (map row g) (pend q) placing
      ∙ ap (λ (rows : List Row). at f rows (pend (Some (name, w))) idle (min (i + 1) usize_max)) x.2)
      ∙ further (behind g q)
      ∙ ap (option_map (map row)) (sym (with_joined (behind g q) name w given) ∙ ap (λ (b : Bool). cond b None (option_and_then (once (behind g q)) (with name w given))) (sym x.0))
]

-- after `--`
trailing_words : (c : List Rule) (options : List Text) → Suits c options → (words : List Text) (g : Given) (q : Option (Text × Text)) (i : ℕ) (names : List Text) → IsKnown c q → Stands c i names →
    outcome c (at true (map row g) (pend q) idle i) words ≡ option_map (map row) (joined g q (positional names words))
unfolding positional
trailing_words c options s [] g q i names known stands = at_end c true g q i known
trailing_words c options s (w ∷ ws) g q i [] known stands =
    outcome_none c (at true (map row g) (pend q) idle i) w ws _ _ (stray c i (held (map row g) (pend q)) stands) ∙ ap (option_map (map row)) (sym (none_joined g q))
trailing_words c options s (w ∷ ws) g q i (n ∷ names) known stands =
    next_word c true g q i n w ws (positional names ws) known stands.0 tt
    (λ g. trailing_words c options s ws g (Some (n, w)) (min (i + 1) usize_max) names (s.known_word i n stands.0) stands.1)

-- an option whose value is `--`
stuck : (c : List Rule) (name : Text) (g : Given) (i : ℕ) (names ws : List Text) → Found c name → Stands c i names → outcome c (at true (map row g) (Some (name, [])) (option name) i) ws ≡ None
unfolding walk_fault
stuck c name g i names [] f stands = rw (waits c name (map row g) f) refl
stuck c name g i [] (w ∷ ws) f stands = outcome_none c (at true (map row g) (Some (name, [])) (option name) i) w ws _ _ (stray c i (held (map row g) (Some (name, []))) stands)
stuck c name g i (n ∷ names) (w ∷ ws) f stands =
    outcome_none c (at true (map row g) (Some (name, [])) (option name) i) w ws _ _ (placed c i n (map row g) (Some (name, [])) stands.0 ∙ waits c name (map row g) f)

-- one more option with its value in the word, with what further words give
next_option : (c : List Rule) (g : Given) (q : Option (Text × Text)) (i : ℕ) (name text w : Text) (ws : List Text) (given : Option Given) →
    IsKnown c q → arg_by_long c name ≡ Some (made (optional name)) → Lexed w (Named name (Some text)) →
    ((g : Given) → outcome c (at false (map row g) None idle i) ws ≡ option_map (map row) (joined g None given)) →
    outcome c (at false (map row g) (pend q) idle i) (w ∷ ws) ≡ option_map (map row) (joined g q (with name text given))
next_option c g q i name text w ws given known placing l further = elim (settles c g q known) [
  | inl x ↦
      outcome_none c (at false (map row g) (pend q) idle i) w ws _ _ (refused_option c (map row g) (pend q) idle i w name (Some text) l kind.ArgumentConflict [] (rw (placing, x.1) refl))
      ∙ ap (λ (b : Bool). option_map (map row) (cond b None (option_and_then (once (behind g q)) (with name text given)))) (sym x.0)
  | inr x ↦
      settled_option (is_given name (behind g q)) refl x.1 x.2
      ∙ ap (option_map (map row)) (sym (with_joined (behind g q) name text given) ∙ ap (λ (b : Bool). cond b None (option_and_then (once (behind g q)) (with name text given))) (sym x.0))
]
  where
    settled_option : (b : Bool) → is_given name (behind g q) ≡ b → settle_fault c false (held (map row g) (pend q)) ≡ [] → settled_rows c (pend q) (map row g) ≡ map row (behind g q) →
        outcome c (at false (map row g) (pend q) idle i) (w ∷ ws) ≡ option_map (map row) (joined (behind g q) (Some (name, text)) given)
    settled_option true e calm rows =
        outcome_none c (at false (map row g) (pend q) idle i) w ws _ _ (refused_option c (map row g) (pend q) idle i w name (Some text) l kind.ArgumentConflict []
        (rw (placing, calm, rows, use_old (optional name) (behind g q) text e) refl))
        ∙ rw e refl
    settled_option false e calm rows =
        outcome_next c (at false (map row g) (pend q) idle i) (at false (map row (behind g q ++ (name, text) ∷ [])) None idle i) w ws
        (taken_option c (map row g) (pend q) i w name text l placing (rw (calm, rows, use_new (optional name) (behind g q) text e) refl))
        (option_walk c (map row g) (pend q) i w name text l placing
        ∙ ap (λ (r : List Row). at false r None idle i) (ap (used (made (optional name)) (text ∷ [])) rows ∙ used_new (optional name) (behind g q) text e))
        ∙ further (behind g q ++ (name, text) ∷ [])
        ∙ rw e refl

-- the end of the options
end_walk : (c : List Rule) (rows : List Row) (p : Option (Text × List Text)) (i : ℕ) → walked c [] (at false rows p idle i) (45 ∷ 45 ∷ []) ≡ at true rows p idle i
unfolding walked
end_walk c rows p i = refl

end_walk_waiting : (c : List Rule) (rows : List Row) (name : Text) (i : ℕ) → walked c [] (at false rows (Some (name, [])) (option name) i) (45 ∷ 45 ∷ []) ≡ at true rows (Some (name, [])) (option name) i
unfolding walked
end_walk_waiting c rows name i = refl

-- a value that is a word of its own
value_turn : (c : List Rule) (rows : List Row) (name : Text) (i : ℕ) (w : Text) → Lexed w Positional → turn_fault (shape c) [] (at false rows (Some (name, [])) (option name) i) w ≡ []
value_turn c rows name i w l = rw (l.0, l.1, l.2) refl

value_walk : (c : List Rule) (rows : List Row) (name : Text) (i : ℕ) (w : Text) → Lexed w Positional → Found c name →
    walked c [] (at false rows (Some (name, [])) (option name) i) w ≡ at false rows (Some (name, w ∷ [])) idle i
unfolding walked
value_walk c rows name i w l f =
    let same : bytes_eq name f.0.2 ≡ true = (bytes_eq-Decides name f.0.2).1 (sym f.1) in
    rw (l.0, l.1, l.2, f.2, same) refl

module _ (c : List Rule) (options : List Text) (s : Suits c options) where
  abbrev pub IdleIs : List Text → Type 0
  IdleIs words = (g : Given) (q : Option (Text × Text)) (i : ℕ) (names : List Text) → IsKnown c q → Stands c i names →
      outcome c (at false (map row g) (pend q) idle i) words ≡ option_map (map row) (joined g q (given_by options words None names))

  abbrev pub WaitIs : List Text → Type 0
  WaitIs words = (g : Given) (name : Text) (i : ℕ) (names : List Text) → Found c name → Stands c i names →
      outcome c (at false (map row g) (Some (name, [])) (option name) i) words ≡ option_map (map row) (option_and_then (once g) (given_by options words (Some name) names))

  -- an option, where none waits
  named_idle : (w : Text) (ws : List Text) → IdleIs ws → WaitIs ws → (name : Text) (v : Option Text) → Lexed w (Named name v) → (b : Bool) → has_name name options ≡ b →
      (g : Given) (q : Option (Text × Text)) (i : ℕ) (names : List Text) → IsKnown c q → Stands c i names →
      outcome c (at false (map row g) (pend q) idle i) (w ∷ ws) ≡ option_map (map row) (joined g q (cond b (one_option names name v (given_by options ws)) None))
  named_idle w ws go_on wait name v l false e g q i names known stands =
      outcome_none c (at false (map row g) (pend q) idle i) w ws _ _ (refused_option c (map row g) (pend q) idle i w name v l kind.UnknownArgument [] (rw (s.long name, e) refl))
      ∙ ap (option_map (map row)) (sym (none_joined g q))
  named_idle w ws go_on wait name (Some text) l true e g q i names known stands =
      let placing : arg_by_long c name ≡ Some (made (optional name)) = s.long name ∙ rw e refl in
      next_option c g q i name text w ws (given_by options ws None names) known placing l (λ g. go_on g None i names tt stands)
  named_idle w ws go_on wait name None l true e g q i names known stands =
      let placing : arg_by_long c name ≡ Some (made (optional name)) = s.long name ∙ rw e refl in
      elim (settles c g q known) [
        | inl x ↦
            outcome_none c (at false (map row g) (pend q) idle i) w ws _ _ (refused_option c (map row g) (pend q) idle i w name None l kind.ArgumentConflict [] (rw (placing, x.1) refl))
            ∙ ap (λ (b : Bool). option_map (map row) (cond b None (option_and_then (once (behind g q)) (given_by options ws (Some name) names)))) (sym x.0)
        | inr x ↦
            outcome_next c (at false (map row g) (pend q) idle i) (at false (map row (behind g q)) (Some (name, [])) (option name) i) w ws
            (begun_option c (map row g) (pend q) i w name l placing x.1)
            (begun_walk c (map row g) (pend q) i w name l placing ∙ ap (λ (rows : List Row). at false rows (Some (name, [])) (option name) i) x.2)
            ∙ wait (behind g q) name i names (s.known name placing) stands
            ∙ ap (λ (b : Bool). option_map (map row) (cond b None (option_and_then (once (behind g q)) (given_by options ws (Some name) names)))) (sym x.0)
      ]

  -- a word, where no option waits
  word_idle : (w : Text) (ws : List Text) → IdleIs ws → WaitIs ws → (k : Word) → Lexed w k → (g : Given) (q : Option (Text × Text)) (i : ℕ) (names : List Text) → IsKnown c q → Stands c i names →
      outcome c (at false (map row g) (pend q) idle i) (w ∷ ws) ≡ option_map (map row) (joined g q (one_word k options names w ws (given_by options ws)))
  word_idle w ws go_on wait Positional l g q i [] known stands =
      outcome_none c (at false (map row g) (pend q) idle i) w ws _ _ (taken_turn c false (map row g) (pend q) i w l ∙ stray c i (held (map row g) (pend q)) stands)
      ∙ ap (option_map (map row)) (sym (none_joined g q))
  word_idle w ws go_on wait Positional l g q i (n ∷ names) known stands =
      next_word c false g q i n w ws (given_by options ws None names) known stands.0 l (λ g. go_on g (Some (n, w)) (min (i + 1) usize_max) names (s.known_word i n stands.0) stands.1)
  word_idle w ws go_on wait End l g q i names known stands =
      subst (λ (v : Text). outcome c (at false (map row g) (pend q) idle i) (v ∷ ws) ≡ option_map (map row) (joined g q (positional names ws))) (sym l)
      (outcome_next c (at false (map row g) (pend q) idle i) (at true (map row g) (pend q) idle i) (45 ∷ 45 ∷ []) ws refl (end_walk c (map row g) (pend q) i)
      ∙ trailing_words c options s ws g q i names known stands)
  word_idle w ws go_on wait (Named name v) l g q i names known stands = named_idle w ws go_on wait name v l (has_name name options) refl g q i names known stands
  word_idle w ws go_on wait Unknown l g q i names known stands =
      outcome_none c (at false (map row g) (pend q) idle i) w ws _ _ (unknown_word c s.short (map row g) (pend q) idle i w l) ∙ ap (option_map (map row)) (sym (none_joined g q))

  -- an option where another waits for its value
  named_wait : (w : Text) (ws : List Text) (other : Text) (v : Option Text) → Lexed w (Named other v) → (b : Bool) → has_name other options ≡ b →
      (g : Given) (name : Text) (i : ℕ) → Found c name → outcome c (at false (map row g) (Some (name, [])) (option name) i) (w ∷ ws) ≡ None
  named_wait w ws other v l false e g name i f =
      outcome_none c (at false (map row g) (Some (name, [])) (option name) i) w ws _ _ (refused_option c (map row g) (Some (name, [])) (option name) i w other v l kind.UnknownArgument [] (rw (s.long other, e) refl))
  named_wait w ws other (Some text) l true e g name i f =
      outcome_none c (at false (map row g) (Some (name, [])) (option name) i) w ws _ _
      (refused_option c (map row g) (Some (name, [])) (option name) i w other (Some text) l kind.InvalidValue [] (rw (s.long other, e, waits c name (map row g) f) refl))
  named_wait w ws other None l true e g name i f =
      outcome_none c (at false (map row g) (Some (name, [])) (option name) i) w ws _ _
      (refused_option c (map row g) (Some (name, [])) (option name) i w other None l kind.InvalidValue [] (rw (s.long other, e, waits c name (map row g) f) refl))

  word_wait : (w : Text) (ws : List Text) → IdleIs ws → (k : Word) → Lexed w k → (g : Given) (name : Text) (i : ℕ) (names : List Text) → Found c name → Stands c i names →
      outcome c (at false (map row g) (Some (name, [])) (option name) i) (w ∷ ws) ≡ option_map (map row) (option_and_then (once g) (one_value k name names w (given_by options ws)))
  word_wait w ws go_on Positional l g name i names f stands =
      outcome_next c (at false (map row g) (Some (name, [])) (option name) i) (at false (map row g) (Some (name, w ∷ [])) idle i) w ws (value_turn c (map row g) name i w l) (value_walk c (map row g) name i w l f)
      ∙ go_on g (Some (name, w)) i names f stands ∙ ap (option_map (map row)) (sym (with_joined g name w (given_by options ws None names)))
  word_wait w ws go_on End l g name i names f stands =
      subst (λ (v : Text). outcome c (at false (map row g) (Some (name, [])) (option name) i) (v ∷ ws) ≡ None) (sym l)
      (outcome_next c (at false (map row g) (Some (name, [])) (option name) i) (at true (map row g) (Some (name, [])) (option name) i) (45 ∷ 45 ∷ []) ws refl (end_walk_waiting c (map row g) name i)
      ∙ stuck c name g i names ws f stands)
  word_wait w ws go_on (Named other v) l g name i names f stands = named_wait w ws other v l (has_name other options) refl g name i f
  word_wait w ws go_on Unknown l g name i names f stands =
      outcome_none c (at false (map row g) (Some (name, [])) (option name) i) w ws _ _ (unknown_word c s.short (map row g) (Some (name, [])) (option name) i w l)

  -- both, word by word
  pub walks : (words : List Text) → list_all is_utf8 words ≡ true → IdleIs words × WaitIs words
  unfolding given_by walk_fault
  walks [] u = (
    λ g q i names known stands. at_end c false g q i known,
    λ g name i names f stands. rw (waits c name (map row g) f) refl,
  )
  walks (w ∷ ws) u =
      let parts = and_parts (is_utf8 w) (list_all is_utf8 ws) u in
      let further = walks ws parts.1 in
      let l = lexed w parts.0 in (
        λ g q i names known stands. word_idle w ws further.0 further.1 (word_of w) l g q i names known stands,
        λ g name i names f stands. word_wait w ws further.0 (word_of w) l g name i names f stands,
      )
