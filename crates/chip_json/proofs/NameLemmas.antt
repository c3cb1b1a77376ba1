-- Names that were seen, and the name at a position.
use Rattle.std.proofs.Common.{◌≡◌, ◌+◌, ◌<◌, ℕ, List, [], ◌∷◌, ◌++◌, length, drop, get_or, Bool, true, false, not, ◌||◌, ◌&&◌, refl, ap, sym, ◌∙◌}
use Rattle.std.specs.Prelude.{if◌then◌else◌}
use Rattle.std.specs.List.{list_any}
use Rattle.std.specs.Str.{bytes_eq}
use Rattle.std.specs.Borrow.{Bor}
use Rattle.std.proofs.lemmas.List.{drop_more, map-append}
use Rattle.sim_base.proofs.BoolLemmas.{not_swap}
use Rattle.chip_json.specs.ChipJson.{are_pin_names, is_pin_name, is_skipped}
use Rattle.chip_json.specs.Texts.{texts_in}

any_text : (test : List ℕ → Bool) (keys : List (Bor (List ℕ))) → list_any test (texts_in keys) ≡ list_any (λ (k : Bor (List ℕ)). test k.now) keys
any_text test [] = refl
any_text test (k ∷ keys) = ap (λ (b : Bool). test k.now || b) (any_text test keys)

chosen : (x g a b c f : Bool) → a ≡ false → b ≡ true → c ≡ not f → (if a then x else b && (not c && g)) ≡ (f && g)
chosen x g a b c true p q r = rw (p, q, r) refl
chosen x g a b c false p q r = rw (p, q, r) refl

module _ (texts : List (Bor (List ℕ))) (i : ℕ) (text bytes : Bor (List ℕ)) (seen : List (Bor (List ℕ))) (fresh : Bool) (l : i < length texts) (at : text ≡ get_or texts i text)
    (same : bytes.now ≡ text.now) (there : is_skipped text.now ≡ false) (name : is_pin_name text.now ≡ true)
    (known : fresh ≡ not (list_any (λ (k : Bor (List ℕ)). bytes_eq bytes.now k.now) seen)) where
  among : list_any (bytes_eq text.now) (texts_in seen) ≡ not fresh
  among =
      any_text (bytes_eq text.now) seen
      ∙ ap (λ (t : List ℕ). list_any (λ (k : Bor (List ℕ)). bytes_eq t k.now) seen) (sym same)
      ∙ not_swap (list_any (λ (k : Bor (List ℕ)). bytes_eq bytes.now k.now) seen) fresh known

  more : texts_in (drop i texts) ≡ text.now ∷ texts_in (drop (i + 1) texts)
  more = ap texts_in (drop_more texts i text l) ∙ ap (λ (t : Bor (List ℕ)). t.now ∷ texts_in (drop (i + 1) texts)) (sym at)

  abbrev goes_on : Bool
  goes_on = are_pin_names (texts_in seen ++ text.now ∷ []) (texts_in (drop (i + 1) texts))

  next : are_pin_names (texts_in seen) (texts_in (drop i texts)) ≡ (fresh && goes_on)
  next = ap (are_pin_names (texts_in seen)) more ∙ chosen _ goes_on (is_skipped text.now) (is_pin_name text.now) (list_any (bytes_eq text.now) (texts_in seen)) fresh there name among

  pub repeated : (all : Bool) → fresh ≡ false → are_pin_names (texts_in seen) (texts_in (drop i texts)) ≡ all → false ≡ all
  repeated all old h = sym (next ∙ ap (λ (b : Bool). b && goes_on) old) ∙ h

  pub added : (all : Bool) (after : List (Bor (List ℕ))) → fresh ≡ true → after ≡ (if list_any (λ (k : Bor (List ℕ)). bytes_eq bytes.now k.now) seen then seen else seen ++ bytes ∷ [])
      → are_pin_names (texts_in seen) (texts_in (drop i texts)) ≡ all → are_pin_names (texts_in after) (texts_in (drop (i + 1) texts)) ≡ all
  added all after new kept h =
      let none : list_any (λ (k : Bor (List ℕ)). bytes_eq bytes.now k.now) seen ≡ false = not_swap _ fresh known ∙ ap not new in
      let last : after ≡ seen ++ bytes ∷ [] = kept ∙ ap (λ (b : Bool). if b then seen else seen ++ bytes ∷ []) none in
      let names : texts_in after ≡ texts_in seen ++ text.now ∷ [] =
      ap texts_in last ∙ map-append (λ (k : Bor (List ℕ)). k.now) seen (bytes ∷ []) ∙ ap (λ (t : List ℕ). texts_in seen ++ t ∷ []) same in
      ap (λ (ts : List (List ℕ)). are_pin_names ts (texts_in (drop (i + 1) texts))) names ∙ sym (next ∙ ap (λ (b : Bool). b && goes_on) new) ∙ h
