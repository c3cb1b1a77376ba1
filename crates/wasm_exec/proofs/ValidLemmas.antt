-- What the rules of a valid module say of its items.
use Rattle.std.proofs.Common.{◌≡◌, ℕ, zero, suc, ◌+◌, ◌-◌, ◌*◌, ◌<◌, ◌≤◌, List, [], ◌∷◌, length, take, Option, Some, None, Bool, true, false, refl, ap, subst, ◌∙◌, inl, inr, ◌⊎◌}
use Rattle.std.specs.Prelude.{slice_get, nat_lt, nat_le, ◌==◌, ◌&&◌, if◌then◌else◌}
use Rattle.std.specs.Option.{ForSome}
use Rattle.std.proofs.lemmas.Bool.{and_parts, ltb-true, leb-true}
use Rattle.sim_base.specs.declared.fault.Refusal.{Refusal}
use Rattle.sim_base.specs.declared.fault.Place.TheVariants as places
use Rattle.sim_refusals.specs.Refusals.{ValidIndex, ValidConst, ValidForm, ValidSegment, ValidLimit}
use Rattle.wasm_code.specs.declared.types.Limits.{Limits}
use Rattle.wasm_decode.specs.declared.module.Import.{Import}
use Rattle.wasm_decode.specs.declared.module.ImportDesc.{ImportDesc}
use Rattle.wasm_decode.specs.declared.module.ImportDesc.TheVariants as descs
use Rattle.wasm_decode.specs.declared.module.Module.{Module}
use Rattle.wasm_typing.specs.Typing.{all_below}
use Rattle.wasm_validate.specs.Validity.{IsValid}
use Rattle.wasm_exec.specs.Whole.{AllBelow, ElementsBelow, MemoryFits, MemoriesFit, IsWhole}
use Rattle.wasm_exec.proofs.ListLemmas.{get_split}
use Rattle.wasm_validate.specs.Rules.{capped, first_fault, or_then, imported_functions, functions_of, imported_memories, memories_of, tables_of, least_of, offset_of, is_from, fits, memory_fits, has_few_results, import_fits, desc_fits, table_fits, memory_form, start_form, forms, import_exists, desc_exists, type_exists, global_exists, export_exists, start_exists, element_exists, indexes, global_constant, constants, names, element_inside, segment_inside, insides, import_small, desc_small, table_small, memory_small, sizes, outside}

-- ---- rules over lists

pub both_none : (a b : Option Refusal) → or_then a b ≡ None → (a ≡ None) × (b ≡ None)
both_none None b e = (refl, e)
both_none (Some r) b e = absurd cc

pub goes_on : {X : Type 0} (b : Bool) (rest : Option X) (r : X) → (if b then rest else Some r) ≡ None → (b ≡ true) × (rest ≡ None)
goes_on true rest r e = (refl, e)
goes_on false rest r e = absurd cc

pub kept : {X : Type 0} (number section : ℕ) (keeps : ℕ → X → Bool) (n : ℕ) (xs : List X) → first_fault number section keeps n xs ≡ None → (i : ℕ) (x : X) → slice_get xs i ≡ Some x → (k : ℕ) × (keeps k x ≡ true)
kept number section keeps n [] e i x g = absurd cc
kept number section keeps n (y ∷ xs) e zero x g =
    let q : x ≡ y = cc in
    (n, ap (λ z. keeps n z) q ∙ (goes_on (keeps n y) (first_fault number section keeps (n + 1) xs) (record { number = number; place = places.Entry section (capped n) }) e).0)
kept number section keeps n (y ∷ xs) e (suc i) x g =
    kept number section keeps (n + 1) xs (goes_on (keeps n y) (first_fault number section keeps (n + 1) xs) (record { number = number; place = places.Entry section (capped n) }) e).1 i x g

-- ---- the rules of a module

-- the rules outside bodies, each by itself
pub record Keeps (m : Module) : Type 0 where
  pub few : first_fault ValidForm 1 (has_few_results) 0 m.types ≡ None
  pub imports_fit : first_fault ValidForm 2 (import_fits m) 0 m.imports ≡ None
  pub memories_fit : first_fault ValidForm 5 (memory_form m) 0 m.memories ≡ None
  pub start_fits : start_form m ≡ None
  pub imports_exist : first_fault ValidIndex 2 (import_exists m) 0 m.imports ≡ None
  pub types_exist : first_fault ValidIndex 3 (type_exists m) 0 m.functions ≡ None
  pub start_there : start_exists m ≡ None
  pub elements_exist : first_fault ValidIndex 9 (element_exists m) 0 m.elements ≡ None
  pub constant : first_fault ValidConst 6 global_constant 0 m.globals ≡ None
  pub elements_inside : first_fault ValidSegment 9 (element_inside m) 0 m.elements ≡ None
  pub segments_inside : first_fault ValidSegment 11 (segment_inside m) 0 m.segments ≡ None
  pub imports_small : first_fault ValidLimit 2 import_small 0 m.imports ≡ None
  pub memories_small : first_fault ValidLimit 5 memory_small 0 m.memories ≡ None

pub keeps_of : (m : Module) → outside m ≡ None → Keeps m
unfolding outside
keeps_of m e =
    let o = both_none (forms m) _ e in
    let i = both_none (indexes m) _ o.1 in
    let c = both_none (constants m) _ i.1 in
    let n = both_none (names m) _ c.1 in
    let s = both_none (insides m) (sizes m) n.1 in
    let f1 = both_none (first_fault ValidForm 1 has_few_results 0 m.types) _ o.0 in
    let f2 = both_none (first_fault ValidForm 2 (import_fits m) 0 m.imports) _ f1.1 in
    let f4 = both_none (first_fault ValidForm 4 (table_fits m) 0 m.tables) _ f2.1 in
    let f5 = both_none (first_fault ValidForm 5 (memory_form m) 0 m.memories) _ f4.1 in
    let i2 = both_none (first_fault ValidIndex 2 (import_exists m) 0 m.imports) _ i.0 in
    let i3 = both_none (first_fault ValidIndex 3 (type_exists m) 0 m.functions) _ i2.1 in
    let i6 = both_none (first_fault ValidIndex 6 (global_exists m) 0 m.globals) _ i3.1 in
    let i7 = both_none (first_fault ValidIndex 7 (export_exists m) 0 m.exports) _ i6.1 in
    let i8 = both_none (start_exists m) _ i7.1 in
    let i9 = both_none (first_fault ValidIndex 9 (element_exists m) 0 m.elements) _ i8.1 in
    let c6 = both_none (first_fault ValidConst 6 global_constant 0 m.globals) _ c.0 in
    let s9 = both_none (first_fault ValidSegment 9 (element_inside m) 0 m.elements) _ s.0 in
    let z2 = both_none (first_fault ValidLimit 2 import_small 0 m.imports) _ s.1 in
    let z4 = both_none (first_fault ValidLimit 4 table_small 0 m.tables) _ z2.1 in
    record {
      few = f1.0;
      imports_fit = f2.0;
      memories_fit = f5.0;
      start_fits = f5.1;
      imports_exist = i2.0;
      types_exist = i3.0;
      start_there = i8.0;
      elements_exist = i9.0;
      constant = c6.0;
      elements_inside = s9.0;
      segments_inside = s9.1;
      imports_small = z2.0;
      memories_small = z4.1;
    }

-- ---- what is imported

-- the type of an imported function is that of an import
pub function_import : (is : List Import) (i k : ℕ) → slice_get (imported_functions is) i ≡ Some k → (j : ℕ) × (x : Import) × (slice_get is j ≡ Some x) × (x.desc ≡ descs.Function k)
function_import [] i k e = absurd cc
function_import (x ∷ is) i k e = by (λ j. function_import is j k) x.desc refl i e
  where
    later : ((j : ℕ) → slice_get (imported_functions is) j ≡ Some k → ((n : ℕ) × (y : Import) × (slice_get is n ≡ Some y) × (y.desc ≡ descs.Function k))) → (i : ℕ) → slice_get (imported_functions is) i ≡ Some k → (j : ℕ) × (y : Import) × (slice_get (x ∷ is) j ≡ Some y) × (y.desc ≡ descs.Function k)
    later rest i q = let r = rest i q in (suc r.0, r.1, r.2, r.3)

    by : ((j : ℕ) → slice_get (imported_functions is) j ≡ Some k → ((n : ℕ) × (y : Import) × (slice_get is n ≡ Some y) × (y.desc ≡ descs.Function k))) → (d : ImportDesc) → x.desc ≡ d → (i : ℕ) → slice_get (imported_functions (x ∷ is)) i ≡ Some k → (j : ℕ) × (y : Import) × (slice_get (x ∷ is) j ≡ Some y) × (y.desc ≡ descs.Function k)
    by rest (descs.Function t) d zero q = let h : Some t ≡ Some k = rw d at q in (let z : t ≡ k = cc in (0, x, refl, d ∙ ap (λ (n : ℕ). descs.Function n) z))
    by rest (descs.Function t) d (suc i) q = let h : slice_get (imported_functions is) i ≡ Some k = rw d at q in later rest i h
    by rest (descs.Table l) d i q = let h : slice_get (imported_functions is) i ≡ Some k = rw d at q in later rest i h
    by rest (descs.Memory l) d i q = let h : slice_get (imported_functions is) i ≡ Some k = rw d at q in later rest i h
    by rest (descs.Global g) d i q = let h : slice_get (imported_functions is) i ≡ Some k = rw d at q in later rest i h

-- the limits of an imported memory are those of an import
memory_import : (is : List Import) (i : ℕ) (k : Limits) → slice_get (imported_memories is) i ≡ Some k → (j : ℕ) × (x : Import) × (slice_get is j ≡ Some x) × (x.desc ≡ descs.Memory k)
memory_import [] i k e = absurd cc
memory_import (x ∷ is) i k e = by (λ j. memory_import is j k) x.desc refl i e
  where
    later : ((j : ℕ) → slice_get (imported_memories is) j ≡ Some k → ((n : ℕ) × (y : Import) × (slice_get is n ≡ Some y) × (y.desc ≡ descs.Memory k))) → (i : ℕ) → slice_get (imported_memories is) i ≡ Some k → (j : ℕ) × (y : Import) × (slice_get (x ∷ is) j ≡ Some y) × (y.desc ≡ descs.Memory k)
    later rest i q = let r = rest i q in (suc r.0, r.1, r.2, r.3)

    by : ((j : ℕ) → slice_get (imported_memories is) j ≡ Some k → ((n : ℕ) × (y : Import) × (slice_get is n ≡ Some y) × (y.desc ≡ descs.Memory k))) → (d : ImportDesc) → x.desc ≡ d → (i : ℕ) → slice_get (imported_memories (x ∷ is)) i ≡ Some k → (j : ℕ) × (y : Import) × (slice_get (x ∷ is) j ≡ Some y) × (y.desc ≡ descs.Memory k)
    by rest (descs.Memory t) d zero q = let h : Some t ≡ Some k = rw d at q in (let z : t ≡ k = cc in (0, x, refl, d ∙ ap (λ (n : Limits). descs.Memory n) z))
    by rest (descs.Memory t) d (suc i) q = let h : slice_get (imported_memories is) i ≡ Some k = rw d at q in later rest i h
    by rest (descs.Table l) d i q = let h : slice_get (imported_memories is) i ≡ Some k = rw d at q in later rest i h
    by rest (descs.Function t) d i q = let h : slice_get (imported_memories is) i ≡ Some k = rw d at q in later rest i h
    by rest (descs.Global g) d i q = let h : slice_get (imported_memories is) i ≡ Some k = rw d at q in later rest i h

-- ---- what a valid module keeps

below_all : (n : ℕ) (xs : List ℕ) → all_below n xs ≡ true → AllBelow n xs
below_all n [] h i x e = absurd cc
below_all n (y ∷ xs) h zero x e =
    let q : y ≡ x = cc in
    subst (λ (z : ℕ). z < n) q (ltb-true y n (and_parts (nat_lt y n) (all_below n xs) h).0)
below_all n (y ∷ xs) h (suc i) x e = below_all n xs (and_parts (nat_lt y n) (all_below n xs) h).1 i x e

from_least : (n : ℕ) (greatest : Option ℕ) → is_from n greatest ≡ true → ForSome greatest (λ g. n ≤ g)
from_least n None e x q = absurd cc
from_least n (Some g) e x q = let z : g ≡ x = cc in subst (λ (y : ℕ). n ≤ y) z (leb-true n g e)

memory_ok : (l : Limits) → memory_fits l ≡ true → nat_le l.least 64 ≡ true → MemoryFits l
memory_ok l f s =
    let a = and_parts (fits l && nat_le l.least 65536) _ f in
    (leb-true l.least 64 s, from_least l.least l.greatest (and_parts (fits l) (nat_le l.least 65536) a.0).0)

module _ (m : Module) (k : Keeps m) where
  imported_below : AllBelow (length m.types) (imported_functions m.imports)
  imported_below i n e =
      let x = function_import m.imports i n e in
      let r = kept ValidIndex 2 (import_exists m) 0 m.imports k.imports_exist x.0 x.1 x.2 in
      ltb-true n (length m.types) (subst (λ (d : ImportDesc). desc_exists m d ≡ true) x.3 r.1)

  functions_below : ElementsBelow (length (functions_of m)) m.elements
  functions_below i s e =
      let r = kept ValidIndex 9 (element_exists m) 0 m.elements k.elements_exist i s e in
      below_all (length (functions_of m)) s.functions (and_parts _ (all_below (length (functions_of m)) s.functions) r.1).1

  memory_imported : (l : Limits) → slice_get (imported_memories m.imports) 0 ≡ Some l → MemoryFits l
  memory_imported l e =
      let x = memory_import m.imports 0 l e in
      let f = kept ValidForm 2 (import_fits m) 0 m.imports k.imports_fit x.0 x.1 x.2 in
      let s = kept ValidLimit 2 import_small 0 m.imports k.imports_small x.0 x.1 x.2 in
      memory_ok l (and_parts (memory_fits l) _ (subst (λ (d : ImportDesc). desc_fits (take f.0 m.imports) d ≡ true) x.3 f.1)).0 (subst (λ (d : ImportDesc). desc_small d ≡ true) x.3 s.1)

  memory_own : (i : ℕ) (l : Limits) → slice_get m.memories i ≡ Some l → MemoryFits l
  memory_own i l e =
      let f = kept ValidForm 5 (memory_form m) 0 m.memories k.memories_fit i l e in
      let s = kept ValidLimit 5 memory_small 0 m.memories k.memories_small i l e in
      memory_ok l (and_parts (memory_fits l) (f.0 == 0) (and_parts (memory_fits l && f.0 == 0) _ f.1).0).0 s.1

  memory_first : MemoriesFit (memories_of m)
  memory_first l e = by (get_split (imported_memories m.imports) m.memories 0 l e)
    where
      by : (slice_get (imported_memories m.imports) 0 ≡ Some l) ⊎ (slice_get m.memories (0 - length (imported_memories m.imports)) ≡ Some l) → MemoryFits l
      by (inl q) = memory_imported l q
      by (inr q) = memory_own _ l q

  whole : length m.functions ≡ length m.bodies → IsWhole m
  whole n = record {
    bodies = n;
    single = λ i t e. leb-true (length t.results) 1 (kept ValidForm 1 has_few_results 0 m.types k.few i t e).1;
    own = λ i j e. ltb-true j (length m.types) (kept ValidIndex 3 (type_exists m) 0 m.functions k.types_exist i j e).1;
    imported = imported_below;
    constant = λ i g e. (kept ValidConst 6 global_constant 0 m.globals k.constant i g e).1;
    elements = λ i s e. leb-true (offset_of s.offset + length s.functions) (least_of (tables_of m)) (kept ValidSegment 9 (element_inside m) 0 m.elements k.elements_inside i s e).1;
    functions = functions_below;
    memories = memory_first;
    segments = λ i s e. leb-true (offset_of s.offset + length s.bytes) (65536 * least_of (memories_of m)) (kept ValidSegment 11 (segment_inside m) 0 m.segments k.segments_inside i s e).1;
  }

pub whole_of : (m : Module) (init : ℕ) → IsValid m init → length m.functions ≡ length m.bodies → IsWhole m
whole_of m init v n = whole m (keeps_of m v.keeps) n
