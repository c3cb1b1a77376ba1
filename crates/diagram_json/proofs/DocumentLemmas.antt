-- Documents, and what their items are read as, one after the other.
use Rattle.std.proofs.Common.{◌≡◌, ◌+◌, ℕ, suc, arith, List, [], ◌∷◌, ◌++◌, length, map, drop, get_or, ◌<◌, nat_le, ◌&&◌, true, refl, ap, sym, ◌∙◌, inl, inr, add-one, Some, None, Result, Ok, Err}
use Rattle.std.specs.List.{flat_map}
use Rattle.std.specs.Str.{IsUtf8, is_utf8}
use Rattle.std.proofs.lemmas.Str.{is_utf8-from_IsUtf8, IsUtf8-from_is_utf8}
use Rattle.std.proofs.lemmas.Bool.{cases_Bool, and_parts}
use Rattle.std.proofs.lemmas.List.{append_assoc, append-nil, drop_more, get_or-map, length-map}
use Rattle.serde_json.specs.Data.{Data}
use Rattle.serde_json.specs.Read.{read}
use Rattle.serde_json.specs.View.{view, items_view}
use Rattle.serde_json.specs.declared.value.Value.{Value}
use Rattle.sim_base.specs.declared.fault.Refusal.{Refusal}
use Rattle.sim_base.specs.declared.fault.Place.TheVariants as places
use Rattle.sim_base.specs.declared.fault.Fault.{Fault}
use Rattle.sim_base.specs.declared.fault.Fault.TheVariants as faults
use Rattle.sim_base.specs.Reads.{Reads}
use Rattle.document_model.specs.Reading.{◌>>=◌, refusal, each_from}
use Rattle.std.specs.List.{list_all}
use Rattle.std.proofs.lemmas.Bool.Decides.{nat_tests}
use Rattle.sim_base.specs.Names.{is_name, is_name_byte}
use Rattle.document_model.specs.Json.{elements, json_document}
use Rattle.document_model.specs.Diagram.{is_id, is_id_byte}

pub document_ok : (number : ℕ) (bytes : List ℕ) (d : Data) → IsUtf8 bytes → read bytes ≡ Some d → json_document number bytes ≡ Ok d
document_ok number bytes d u e = rw (is_utf8-from_IsUtf8 bytes u, e) refl

pub document_none : (number : ℕ) (bytes : List ℕ) → (IsUtf8 bytes → read bytes ≡ None) → json_document number bytes ≡ Err (refusal number places.Whole)
document_none number bytes f = elim (cases_Bool (is_utf8 bytes)) [
  | inl e ↦ rw (e, f (IsUtf8-from_is_utf8 bytes e)) refl
  | inr e ↦ rw e refl
]

pub elements_view : (vs : List Value) → elements (items_view vs) ≡ map view vs
elements_view [] = refl
elements_view (v ∷ vs) = ap (λ (ds : List Data). view v ∷ ds) (elements_view vs)

-- the item at i, before those behind it
pub items_more : (vs : List Value) (i : ℕ) (v : Value) → i < length vs → v ≡ get_or vs i v → drop i (map view vs) ≡ view v ∷ drop (i + 1) (map view vs)
items_more vs i v p e =
    let n : i < length (map view vs) = rw (length-map vs view) p in
    let at : get_or (map view vs) i (view v) ≡ view v = get_or-map view vs i v (view v) p ∙ ap view (sym e) in
    drop_more (map view vs) i (view v) n ∙ ap (λ (d : Data). d ∷ drop (i + 1) (map view vs)) at

-- what is kept of items that are read behind others
abbrev pub behind : {A B : Type 0} → (A → List B) → List B → Result (List A) Refusal → Result (List B) Refusal
behind keep front r = r >>= λ xs. Ok (front ++ flat_map keep xs)

pub behind_more : {A B : Type 0} (keep : A → List B) (front : List B) (f : ℕ → Data → Result A Refusal) (k : ℕ) (d : Data) (ds : List Data) (x : A) → f k d ≡ Ok x →
    behind keep front (each_from f k (d ∷ ds)) ≡ behind keep (front ++ keep x) (each_from f (k + 1) ds)
unfolding each_from
behind_more {A = A} {B = B} keep front f k d ds x e = rw (e, add-one k) (go (each_from f (suc k) ds))
  where
    go : (r : Result (List A) Refusal) → behind keep front (r >>= λ xs. Ok (x ∷ xs)) ≡ behind keep (front ++ keep x) r
    go (Ok xs) = ap (λ (l : List B). Ok l) (sym (append_assoc front (keep x) (flat_map keep xs)))
    go (Err r) = refl

pub behind_err : {A B : Type 0} (keep : A → List B) (front : List B) (f : ℕ → Data → Result A Refusal) (k : ℕ) (d : Data) (ds : List Data) (r : Refusal) → f k d ≡ Err r →
    behind keep front (each_from f k (d ∷ ds)) ≡ Err r
unfolding each_from
behind_err keep front f k d ds r e = rw e refl

pub behind_all : {A B : Type 0} (keep : A → List B) (front : List B) (f : ℕ → Data → Result A Refusal) (k : ℕ) → behind keep front (each_from f k []) ≡ Ok front
unfolding each_from
behind_all {B = B} keep front f k = ap (λ (l : List B). Ok l) (append-nil front)

abbrev pub alone : {A : Type 0} → A → List A
alone x = x ∷ []

flat_map-alone : {A : Type 0} (xs : List A) → flat_map alone xs ≡ xs
flat_map-alone [] = refl
flat_map-alone {A = A} (x ∷ xs) = ap (λ (l : List A). x ∷ l) (flat_map-alone xs)

pub none_behind : {A : Type 0} (r : Result (List A) Refusal) → behind alone [] r ≡ r
none_behind {A = A} (Ok xs) = ap (λ (l : List A). Ok l) (flat_map-alone xs)
none_behind (Err r) = refl

-- one more item was read
pub item_read : {A B : Type 0} (keep : A → List B) (front : List B) (f : ℕ → Data → Result A Refusal) (k : ℕ) (ds : List Data) (d : Data) (rest : List Data) (all : Result (List B) Refusal) (x : A) →
    behind keep front (each_from f k ds) ≡ all → ds ≡ d ∷ rest → f k d ≡ Ok x → behind keep (front ++ keep x) (each_from f (k + 1) rest) ≡ all
item_read keep front f k ds d rest all x h is e =
    sym (behind_more keep front f k d rest x e) ∙ ap (λ (l : List Data). behind keep front (each_from f k l)) (sym is) ∙ h

-- an item was refused
pub item_refused : {A B V : Type 0} (view_of : V → List B) (keep : A → List B) (front : List B) (f : ℕ → Data → Result A Refusal) (k : ℕ) (ds : List Data) (d : Data) (rest : List Data) (all : Result (List B) Refusal) (fault : Fault) →
    behind keep front (each_from f k ds) ≡ all → ds ≡ d ∷ rest → Reads (λ (x : A). x) (Err fault) (f k d) → Reads view_of (Err fault) all
item_refused view_of keep front f k ds d rest all faults.OutOfMemory h is e = tt
item_refused view_of keep front f k ds d rest all (faults.Refused r) h is e =
    sym h ∙ ap (λ (l : List Data). behind keep front (each_from f k l)) is ∙ behind_err keep front f k d rest r e

name_byte : (c : ℕ) → is_id_byte c ≡ true → is_name_byte c ≡ true
name_byte c h = grind (arith, nat_tests)

name_bytes : (cs : List ℕ) → list_all is_id_byte cs ≡ true → list_all is_name_byte cs ≡ true
name_bytes [] h = refl
name_bytes (c ∷ cs) h =
    let (here, more) = and_parts (is_id_byte c) (list_all is_id_byte cs) h in
    rw (name_byte c here, name_bytes cs more) refl

-- an id is a name
pub is_name-id : (id : List ℕ) → is_id id ≡ true → is_name id ≡ true
is_name-id id h =
    let (some, rest) = and_parts (nat_le 1 (length id)) (nat_le (length id) 64 && list_all is_id_byte id) h in
    let (short, bytes) = and_parts (nat_le (length id) 64) (list_all is_id_byte id) rest in
    rw (some, short, name_bytes id bytes) refl
