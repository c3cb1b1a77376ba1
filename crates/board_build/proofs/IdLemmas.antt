-- The ids in a set, looked up by their bytes.
use Rattle.std.proofs.Common.{◌≡◌, ◌+◌, ◌<◌, ◌≤◌, ℕ, List, [], ◌∷◌, ◌++◌, length, map, drop, get_or, Bool, true, false, not, ◌||◌, cond, Some, refl, ap, sym, ◌∙◌, add-one, Result, Ok, Err}
use Rattle.std.specs.Prelude.{if◌then◌else◌}
use Rattle.std.specs.List.{list_any, position, position_from}
use Rattle.std.specs.Str.{bytes_eq}
use Rattle.std.specs.Borrow.{Bor}
use Rattle.std.proofs.lemmas.List.{map-append, drop_all}
use Rattle.std.proofs.lemmas.Iterator.Adapters.{position_from-zero}
use Rattle.sim_base.proofs.BoolLemmas.{not_swap}
use Rattle.indexmap.specs.IndexSet.{keys, insert_key}
use Rattle.sim_base.specs.declared.fault.Refusal.{Refusal}
use Rattle.sim_base.specs.declared.fault.Place.TheVariants as places
use Rattle.sim_refusals.specs.Refusals.{IdRepeated}
use Rattle.document_model.specs.declared.diagram.PartText.{PartText}
use Rattle.document_model.specs.Reading.{refusal}
use Rattle.board_build.specs.Parts.{ids_from, place_of}
use Rattle.board_build.proofs.EachLemmas.{item_at}

position_mapped : {X Y : Type 0} (test : Y → Bool) (f : X → Y) (i : ℕ) (xs : List X) → position_from test i (map f xs) ≡ position_from (λ x. test (f x)) i xs
position_mapped test f i [] = refl
position_mapped test f i (x ∷ xs) = ap (cond (test (f x)) (Some i)) (position_mapped test f (i + 1) xs)

any_mapped : {X Y : Type 0} (test : Y → Bool) (f : X → Y) (xs : List X) → list_any test (map f xs) ≡ list_any (λ x. test (f x)) xs
any_mapped test f [] = refl
any_mapped test f (x ∷ xs) = ap (λ (b : Bool). test (f x) || b) (any_mapped test f xs)

-- the place of an id among the keys
pub placed : (bytes id : List ℕ) (keys : List (Bor (List ℕ))) → bytes ≡ id → position (λ (k : Bor (List ℕ)). bytes_eq bytes k.now) keys ≡ place_of (map (λ (k : Bor (List ℕ)). k.now) keys) id
placed bytes id keys e =
    position_from-zero (λ (k : Bor (List ℕ)). bytes_eq bytes k.now) keys
    ∙ sym (position_mapped (bytes_eq bytes) (λ (k : Bor (List ℕ)). k.now) 0 keys)
    ∙ ap (λ (b : List ℕ). place_of (map (λ (k : Bor (List ℕ)). k.now) keys) b) e

-- whether an id is among the keys
pub among : (bytes id : List ℕ) (keys : List (Bor (List ℕ))) (new : Bool) → bytes ≡ id → new ≡ not (list_any (λ (k : Bor (List ℕ)). bytes_eq bytes k.now) keys) →
    list_any (bytes_eq id) (map (λ (k : Bor (List ℕ)). k.now) keys) ≡ not new
among bytes id keys new e h =
    any_mapped (bytes_eq id) (λ (k : Bor (List ℕ)). k.now) keys
    ∙ ap (λ (b : List ℕ). list_any (λ (k : Bor (List ℕ)). bytes_eq b k.now) keys) (sym e)
    ∙ not_swap (list_any (λ (k : Bor (List ℕ)). bytes_eq bytes k.now) keys) new h

-- the ids after another one was inserted
pub added : (k : Bor (List ℕ)) (id : List ℕ) (old new : List (Bor (List ℕ))) → k.now ≡ id → new ≡ insert_key (λ (a b : Bor (List ℕ)). bytes_eq a.now b.now) old k →
    list_any (bytes_eq id) (map (λ (k : Bor (List ℕ)). k.now) old) ≡ false → map (λ (k : Bor (List ℕ)). k.now) new ≡ map (λ (k : Bor (List ℕ)). k.now) old ++ id ∷ []
added k id old new e h absent =
    let none : list_any (λ (x : Bor (List ℕ)). bytes_eq k.now x.now) old ≡ false =
    ap (λ (b : List ℕ). list_any (λ (x : Bor (List ℕ)). bytes_eq b x.now) old) e ∙ sym (any_mapped (bytes_eq id) (λ (x : Bor (List ℕ)). x.now) old) ∙ absent in
    let last : new ≡ old ++ k ∷ [] = h ∙ ap (λ (b : Bool). if b then old else old ++ k ∷ []) none in
    ap (map (λ (x : Bor (List ℕ)). x.now)) last ∙ map-append (λ (x : Bor (List ℕ)). x.now) old (k ∷ []) ∙ ap (λ (b : List ℕ). map (λ (x : Bor (List ℕ)). x.now) old ++ b ∷ []) e

pub ids_repeated : (seen : List (List ℕ)) (parts : List PartText) (i : ℕ) (part : PartText) (all : Result (List (List ℕ)) Refusal) → i < length parts → part ≡ get_or parts i part →
    list_any (bytes_eq part.id) seen ≡ true → ids_from seen (i + 1) (drop i parts) ≡ all → all ≡ Err (refusal IdRepeated (places.Part (i + 1)))
unfolding ids_from
ids_repeated seen parts i part all l is repeated so_far = sym so_far ∙ ap (ids_from seen (i + 1)) (item_at parts i part l is) ∙ rw repeated refl

pub ids_more : (seen : List (List ℕ)) (parts : List PartText) (i : ℕ) (part : PartText) (all : Result (List (List ℕ)) Refusal) → i < length parts → part ≡ get_or parts i part →
    list_any (bytes_eq part.id) seen ≡ false → ids_from seen (i + 1) (drop i parts) ≡ all → ids_from (seen ++ part.id ∷ []) (i + 1 + 1) (drop (i + 1) parts) ≡ all
unfolding ids_from
ids_more seen parts i part all l is new so_far =
    let next : ids_from (seen ++ part.id ∷ []) (i + 1 + 1) (drop (i + 1) parts) ≡ ids_from seen (i + 1) (drop i parts) = rw (item_at parts i part l is, new, add-one (i + 1)) refl in
    next ∙ so_far

pub ids_done : (seen : List (List ℕ)) (parts : List PartText) (i : ℕ) (all : Result (List (List ℕ)) Refusal) → length parts ≤ i → ids_from seen (i + 1) (drop i parts) ≡ all → all ≡ Ok seen
unfolding ids_from
ids_done seen parts i all h so_far = sym so_far ∙ ap (ids_from seen (i + 1)) (drop_all i parts h)
