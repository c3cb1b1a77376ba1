-- What clap makes of the words after a command is what the grammar of the words makes of them.
use Rattle.std.proofs.Common.{◌≡◌, ◌∙◌, ◌<◌, List, [], ◌∷◌, map, length, true, false, Option, Some, None, option_map, refl, ap, fold, arith}
use Rattle.std.specs.List.{list_all}
use Rattle.std.specs.Str.{is_utf8}
use Rattle.clap.specs.Kinds.{Kinds, or_else}
use Rattle.clap.specs.Words.{App, Row, fault_of, matches_of}
use Rattle.clap.specs.Simple.{entered}
use Rattle.clap.specs.Walk.{rows_after, nothing_held, walk, walk_from, settled, Held}
use Rattle.clap.specs.Faults.{built_fault, entered_fault, check_fault, settle_fault}
use Rattle.cli_words_model.specs.Words.{Text, texts_of}
use Rattle.cli_words.specs.Commands.{app_for, row}
use Rattle.cli_words.proofs.RuleLemmas.{Entry, made, optional, table, shape, found, by_long, by_short, by_index, built_is, no_defaults, no_default_faults, none_required}
use Rattle.cli_words.proofs.WalkLemmas.{Suits, pick, outcome, walks}

or_nothing : (ks : Kinds) → or_else ks [] ≡ ks
or_nothing [] = refl
or_nothing (k ∷ ks) = refl

module _ (t : List Entry) where
  abbrev built_app : App
  built_app = record { top = shape (map made t); subs = [] }

  none_entered : (stop : Option (Text × List Text)) → entered built_app stop ≡ None
  none_entered None = refl
  none_entered (Some x) = refl

  no_entered_fault : (stop : Option (Text × List Text)) → entered_fault built_app stop ≡ []
  no_entered_fault None = refl
  no_entered_fault (Some x) = refl

  checked : (rows : List Row) → check_fault (shape (map made t)) rows false ≡ []
  checked rows = rw (none_required t rows) refl

  -- nothing but the walk and what it leaves unsettled may fail
  pub whole : (ws : List Text) → pick (built_fault built_app nothing_held ws) (rows_after (map made t) [] ws) ≡ outcome (map made t) (walk_from nothing_held) ws
  whole ws =
      let c = map made t in
      let end : Held = (walk c [] nothing_held ws).held in
      let stop = (walk c [] nothing_held ws).stopped in
      rw (none_entered stop, no_entered_fault stop, no_default_faults t (settled c end).rows, checked (fold _ _ _), or_nothing (settle_fault c false end), no_defaults t (settled c end).rows) refl

pub agrees : (words options ws : List Text) → length words < 100 → list_all is_utf8 ws ≡ true →
    pick (fault_of (app_for words options) ws) (matches_of (app_for words options) ws) ≡ option_map (map row) (texts_of (record { words = words; options = options }) ws)
agrees words options ws short u =
    let t = table 1 words options in
    let suits : Suits (map made t) options = record {
      long = by_long 1 words options;
      short = by_short t;
      known = λ name e. found t _ (optional name) e;
      known_word = λ i name e. found t _ (None, Some i, name) e;
    } in
    ap (λ (b : App). pick (built_fault b nothing_held ws) (rows_after b.top.rules (map (λ s. (s.name, s.aliases)) b.subs) ws)) (built_is words options)
    ∙ whole t ws
    ∙ (walks (map made t) options suits ws u).0 [] None 1 words tt (by_index 1 words options (omega arith))
