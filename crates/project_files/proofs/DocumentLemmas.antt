-- Documents, and chips one after the other.
use Rattle.std.proofs.Common.{◌≡◌, ◌+◌, ◌-◌, ℕ, List, [], ◌∷◌, ◌++◌, length, map, take, drop, get_or, ◌<◌, true, false, refl, ap, sym, ◌∙◌, inl, inr, Option, Some, None, Result, Ok, Err}
use Rattle.std.proofs.Common.{MatchOption, Bor, arith, codes}
use Rattle.std.specs.Str.{IsUtf8, is_utf8}
use Rattle.std.specs.Str.Pattern.{FindsTextSuffix, StripsSuffix}
use Rattle.std.proofs.lemmas.Str.Pattern.{ends_text}
use Rattle.std.proofs.lemmas.Str.{is_utf8-from_IsUtf8, IsUtf8-from_is_utf8}
use Rattle.std.proofs.lemmas.Bool.{cases_Bool}
use Rattle.std.proofs.lemmas.List.{drop_more, get_or-map, length-map}
use Rattle.toml.specs.Data.{Data, Members, table}
use Rattle.toml.specs.Parse.{parse_document}
use Rattle.toml.specs.View.{view, items_view}
use Rattle.toml.specs.declared.value.Value.{Value}
use Rattle.sim_base.specs.declared.fault.Refusal.{Refusal}
use Rattle.sim_base.specs.declared.fault.Place.TheVariants as places
use Rattle.sim_refusals.specs.Refusals.{TomlText}
use Rattle.sim_base.specs.declared.fault.Fault.{Fault}
use Rattle.sim_base.specs.declared.fault.Fault.TheVariants as faults
use Rattle.sim_base.specs.Reads.{Reads}
use Rattle.document_model.specs.declared.project.ChipFile.{ChipFile}
use Rattle.document_model.specs.Reading.{refusal}
use Rattle.document_model.specs.Project.{chip_of, chips_after, is_binary, stem}
use Rattle.document_model.specs.Toml.{elements, toml_document}

pub toml_ok : (bytes : List ℕ) (ms : Members) → IsUtf8 bytes → parse_document bytes ≡ Some ms → toml_document bytes ≡ Ok (table ms)
toml_ok bytes ms u e = rw (is_utf8-from_IsUtf8 bytes u, e) refl

pub toml_none : (bytes : List ℕ) → (IsUtf8 bytes → parse_document bytes ≡ None) → toml_document bytes ≡ Err (refusal TomlText places.Whole)
toml_none bytes f = elim (cases_Bool (is_utf8 bytes)) [
  | inl e ↦ rw (e, f (IsUtf8-from_is_utf8 bytes e)) refl
  | inr e ↦ rw e refl
]

pub elements_view : (vs : List Value) → elements (items_view vs) ≡ map view vs
elements_view [] = refl
elements_view (v ∷ vs) = ap (λ (ds : List Data). view v ∷ ds) (elements_view vs)

-- the item at i, before those behind it
pub items_more : (vs : List Value) (i : ℕ) (v : Value) → i < length vs → v ≡ get_or vs i v → drop i (map view vs) ≡ view v ∷ drop (i + 1) (map view vs)
items_more vs i v p e =
    let n : i < length (map view vs) = rw (length-map vs view) p in
    let at : get_or (map view vs) i (view v) ≡ view v = get_or-map view vs i v (view v) p ∙ ap view (sym e) in
    drop_more (map view vs) i (view v) n ∙ ap (λ (d : Data). d ∷ drop (i + 1) (map view vs)) at

-- one more chip was read, after those that are seen
pub chip_read : (chips seen : List ChipFile) (k : ℕ) (ds : List Data) (d : Data) (rest : List Data) (all : Result (List ChipFile) Refusal) (chip : ChipFile) →
    chips_after chips ds ≡ all → ds ≡ d ∷ rest → length chips ≡ k → seen ≡ chips → chip_of seen (k + 1) d ≡ Ok chip → chips_after (chips ++ chip ∷ []) rest ≡ all
unfolding chips_after
chip_read chips seen k ds d rest all chip h is n same e =
    let here : chip_of chips (length chips + 1) d ≡ Ok chip = rw (n, ← same) e in
    let step : chips_after chips (d ∷ rest) ≡ chips_after (chips ++ chip ∷ []) rest = rw here refl in
    sym step ∙ ap (λ (l : List Data). chips_after chips l) (sym is) ∙ h

-- a chip was refused
pub chip_refused : {V : Type 0} (view_of : V → List ChipFile) (chips seen : List ChipFile) (k : ℕ) (ds : List Data) (d : Data) (rest : List Data) (all : Result (List ChipFile) Refusal) (fault : Fault) →
    chips_after chips ds ≡ all → ds ≡ d ∷ rest → length chips ≡ k → seen ≡ chips → Reads (λ (x : ChipFile). x) (Err fault) (chip_of seen (k + 1) d) → Reads view_of (Err fault) all
unfolding chips_after
chip_refused view_of chips seen k ds d rest all faults.OutOfMemory h is n same e = tt
chip_refused view_of chips seen k ds d rest all (faults.Refused r) h is n same e =
    let here : chip_of chips (length chips + 1) d ≡ Err r = rw (n, ← same) e in
    let step : chips_after chips (d ∷ rest) ≡ Err r = rw here refl in
    sym h ∙ ap (λ (l : List Data). chips_after chips l) is ∙ step

pub chips_all : (chips : List ChipFile) → chips_after chips [] ≡ Ok chips
unfolding chips_after
chips_all chips = refl

-- what is left of a path without `.wasm`, by the clause of `strip_suffix`
pub stripped : (path : List ℕ) (r : Option (Bor (List ℕ))) → MatchOption r (FindsTextSuffix (codes ".wasm") path None) (λ x. StripsSuffix (FindsTextSuffix (codes ".wasm")) path x.now)
    → MatchOption r (is_binary path ≡ false) (λ x. (is_binary path ≡ true) × (x.now ≡ stem path))
stripped path None h = sym (ends_text false (codes ".wasm") path h)
stripped path (Some x) h =
    let n : h.0 ≡ 5 = h.1.0 in
    (sym (ends_text true (codes ".wasm") path (h.0, h.1, omega arith, rw n h.1.2)), h.2 ∙ ap (λ k. take (length path - k) path) n)
