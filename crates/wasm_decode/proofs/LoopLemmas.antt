-- Loops over imports, locals and bodies.
use Rattle.std.proofs.Common.{◌≡◌, ℕ, zero, suc, ◌+◌, ◌-◌, ◌<◌, ◌≤◌, List, [], ◌∷◌, ◌++◌, length, take, drop, get_or, Bool, true, false, refl, sym, ap, subst, ◌∙◌, arith, drop-cons, length-drop, ⊎_elim, ltb, lt-ltb, le-ltb}
use Rattle.std.proofs.lemmas.Bool.{cases_lt}
use Rattle.std.specs.Prelude.{slice_index}
use Rattle.sim_base.specs.declared.fault.Fault.{Fault}
use Rattle.wasm_binary.specs.declared.reader.Reader.{Reader}
use Rattle.wasm_binary.specs.Lists.{repeated, is_zero, sized}
use Rattle.wasm_binary.specs.Reads.{Reads, Fails}
use Rattle.wasm_binary.proofs.Runs.{HasRun, begins, goes, run_fails, ends, not_zero, zero_is}
use Rattle.wasm_code.specs.declared.types.FuncType.{FuncType}
use Rattle.wasm_decode.specs.declared.module.Extern.{Extern}
use Rattle.wasm_decode.specs.declared.module.ImportDesc.{ImportDesc}
use Rattle.wasm_decode.specs.declared.module.ImportDesc.TheVariants as descs
use Rattle.wasm_decode.specs.declared.module.Import.{Import}
use Rattle.wasm_decode.specs.declared.module.LocalRun.{LocalRun}
use Rattle.wasm_decode.specs.declared.module.Body.{Body}
use Rattle.wasm_decode.specs.ItemText.{import_desc, import_item, is_function, imported, InImports, in_imports, imports_of, local_run, InLocals, in_locals, locals_of, body, room_of, is_none_left, more_left, body_of, rest_of}

pub desc_by : (k j : Extern) (old new : Reader) (v : ImportDesc) → k ≡ j → Reads (import_desc j) old new v → Reads (import_desc k) old new v
desc_by k j old new v e h = subst (λ (z : Extern). Reads (import_desc z) old new v) (sym e) h

-- ---- imports

abbrev pub ImportRun : Reader → Reader → ℕ → List Import → ℕ → ℕ → Type 0
ImportRun old now count xs left functions = HasRun (λ (s : InImports). import_item s.functions) in_imports (λ s. is_zero s.left) old now (record { left = count; functions = 0 }) xs (record { left = left; functions = functions })

pub imports_begin : (old : Reader) (count : ℕ) (xs : List Import) (left : ℕ) → xs ≡ [] → left ≡ count → ImportRun old old count xs left 0
imports_begin old count xs left e l =
    subst (λ (z : List Import). ImportRun old old count z left 0) (sym e) (subst (λ z. ImportRun old old count [] z 0) (sym l) (begins (λ (s : InImports). import_item s.functions) in_imports (λ s. is_zero s.left) old (record { left = count; functions = 0 })))

pub imports_go : (old mid new : Reader) (count : ℕ) (xs more : List Import) (left functions l f : ℕ) (i : Import) → ImportRun old mid count xs left functions → 0 < left → Reads (import_item functions) mid new i → l ≡ left - 1 → f ≡ functions + is_function i.desc → more ≡ xs ++ i ∷ [] → ImportRun old new count more l f
imports_go old mid new count xs more left functions l f i h lt r el ef em =
    let g = goes (λ (s : InImports). import_item s.functions) in_imports (λ s. is_zero s.left) old mid new (record { left = count; functions = 0 }) xs (record { left = left; functions = functions }) i h (not_zero left lt) r in
    subst (λ (z : List Import). ImportRun old new count z l f) (sym em) (subst (λ z. ImportRun old new count (xs ++ i ∷ []) z f) (sym el) (subst (λ z. ImportRun old new count (xs ++ i ∷ []) (left - 1) z) (sym ef) g))

pub imports_fail : (old mid : Reader) (count : ℕ) (xs : List Import) (left functions : ℕ) (e : Fault) → ImportRun old mid count xs left functions → 0 < left → Fails (import_item functions) mid e → Fails (imports_of count) old e
imports_fail old mid count xs left functions e h lt f = run_fails (λ (s : InImports). import_item s.functions) in_imports (λ s. is_zero s.left) old mid (record { left = count; functions = 0 }) xs (record { left = left; functions = functions }) e h (not_zero left lt) f

pub imports_end : (old new : Reader) (count : ℕ) (xs : List Import) (left functions : ℕ) → ImportRun old new count xs left functions → left ≡ 0 → Reads (imports_of count) old new xs
imports_end old new count xs left functions h e = ends (λ (s : InImports). import_item s.functions) in_imports (λ s. is_zero s.left) old new (record { left = count; functions = 0 }) xs (record { left = left; functions = functions }) h (zero_is left e)

imported_more : (xs : List Import) (x : Import) → imported (xs ++ x ∷ []) ≡ imported xs + is_function x.desc
imported_more [] x = omega arith
imported_more (y ∷ xs) x = omega (arith, imported_more xs x)

take_next : (xs : List Import) (i : ℕ) (d : Import) → i < length xs → take (i + 1) xs ≡ take i xs ++ get_or xs i d ∷ []
take_next [] i d lt = absurd (omega arith)
take_next (x ∷ xs) zero d lt = refl
take_next (x ∷ xs) (suc i) d lt =
    let e : suc i + 1 ≡ suc (i + 1) = omega arith in
    ap (λ (k : ℕ). take k (x ∷ xs)) e ∙ ap (λ (z : List Import). x ∷ z) (take_next xs i d (omega arith))

pub imported_next : (xs : List Import) (i : ℕ) (x : Import) → i < length xs → x ≡ get_or xs i x → imported (take (i + 1) xs) ≡ imported (take i xs) + is_function x.desc
imported_next xs i x lt e =
    ap imported (take_next xs i x lt) ∙ imported_more (take i xs) (get_or xs i x) ∙ ap (λ (z : Import). imported (take i xs) + is_function z.desc) (sym e)

one_function : (d : ImportDesc) → is_function d ≤ 1
one_function (descs.Function n) = omega arith
one_function (descs.Table l) = omega arith
one_function (descs.Memory l) = omega arith
one_function (descs.Global g) = omega arith

pub imported_few : (xs : List Import) → imported xs ≤ length xs
imported_few [] = omega arith
imported_few (x ∷ xs) = omega (arith, imported_few xs, one_function x.desc)

-- ---- locals

abbrev pub LocalRuns : Reader → Reader → ℕ → ℕ → List LocalRun → ℕ → ℕ → Type 0
LocalRuns old now room count xs left free = HasRun (λ (s : InLocals). local_run s.room) in_locals (λ s. is_zero s.left) old now (record { left = count; room = room }) xs (record { left = left; room = free })

pub locals_begin : (old : Reader) (room count : ℕ) (xs : List LocalRun) (left : ℕ) → xs ≡ [] → left ≡ count → LocalRuns old old room count xs left room
locals_begin old room count xs left e l =
    subst (λ (z : List LocalRun). LocalRuns old old room count z left room) (sym e) (subst (λ z. LocalRuns old old room count [] z room) (sym l) (begins (λ (s : InLocals). local_run s.room) in_locals (λ s. is_zero s.left) old (record { left = count; room = room })))

pub locals_go : (old mid new : Reader) (room count : ℕ) (xs more : List LocalRun) (left free l f : ℕ) (i : LocalRun) → LocalRuns old mid room count xs left free → 0 < left → Reads (local_run free) mid new i → l ≡ left - 1 → f ≡ free - i.count → more ≡ xs ++ i ∷ [] → LocalRuns old new room count more l f
locals_go old mid new room count xs more left free l f i h lt r el ef em =
    let g = goes (λ (s : InLocals). local_run s.room) in_locals (λ s. is_zero s.left) old mid new (record { left = count; room = room }) xs (record { left = left; room = free }) i h (not_zero left lt) r in
    subst (λ (z : List LocalRun). LocalRuns old new room count z l f) (sym em) (subst (λ z. LocalRuns old new room count (xs ++ i ∷ []) z f) (sym el) (subst (λ z. LocalRuns old new room count (xs ++ i ∷ []) (left - 1) z) (sym ef) g))

pub locals_fail : (old mid : Reader) (room count : ℕ) (xs : List LocalRun) (left free : ℕ) (e : Fault) → LocalRuns old mid room count xs left free → 0 < left → Fails (local_run free) mid e → Fails (locals_of room count) old e
locals_fail old mid room count xs left free e h lt f = run_fails (λ (s : InLocals). local_run s.room) in_locals (λ s. is_zero s.left) old mid (record { left = count; room = room }) xs (record { left = left; room = free }) e h (not_zero left lt) f

pub locals_end : (old new : Reader) (room count : ℕ) (xs : List LocalRun) (left free : ℕ) → LocalRuns old new room count xs left free → left ≡ 0 → Reads (locals_of room count) old new xs
locals_end old new room count xs left free h e = ends (λ (s : InLocals). local_run s.room) in_locals (λ s. is_zero s.left) old new (record { left = count; room = room }) xs (record { left = left; room = free }) h (zero_is left e)

-- ---- bodies

module _ (types : List FuncType) (functions : List ℕ) where
  abbrev pub BodyRun : Reader → Reader → List Body → ℕ → Type 0
  BodyRun old now xs i = HasRun (body_of types) rest_of is_none_left old now functions xs (drop i functions)

  pub bodies_begin : (old : Reader) (xs : List Body) → xs ≡ [] → BodyRun old old xs 0
  bodies_begin old xs e = subst (λ (z : List Body). BodyRun old old z 0) (sym e) (begins (body_of types) rest_of is_none_left old functions)

  abbrev Stands : ℕ → ℕ → Type 0
  Stands i f = drop i functions ≡ f ∷ drop (i + 1) functions

  stands : (i f : ℕ) → i < length functions → f ≡ slice_index functions i → Stands i f
  stands i f lt e =
      let s : suc i ≡ i + 1 = omega arith in
      drop-cons functions i 0 lt ∙ ap (λ (z : ℕ). z ∷ drop (suc i) functions) (sym e) ∙ ap (λ (k : ℕ). f ∷ drop k functions) s

  some_left : (i f : ℕ) → Stands i f → is_none_left (drop i functions) ≡ false
  some_left i f e = ap is_none_left e

  more_here : (fs : List ℕ) (b : Bool) → (b ≡ true → 0 < length fs) → (b ≡ false → length fs ≤ 0) → more_left fs ≡ b
  more_here [] true p q = absurd (omega (arith, p refl))
  more_here [] false p q = refl
  more_here (f ∷ fs) true p q = refl
  more_here (f ∷ fs) false p q = absurd (omega (arith, q refl))

  pub bodies_go : (old mid new : Reader) (xs more : List Body) (i f room : ℕ) (wanted : Bool) (b : Body) → BodyRun old mid xs i → i < length functions → f ≡ slice_index functions i → room ≡ room_of types f → more_left (drop (i + 1) functions) ≡ wanted → Reads (sized wanted (body room)) mid new b → more ≡ xs ++ b ∷ [] → BodyRun old new more (i + 1)
  bodies_go old mid new xs more i f room wanted b h lt ef er ew r em =
      let s = stands i f lt ef in
      let r1 = subst (λ z. Reads (sized wanted (body z)) mid new b) er r in
      let r2 = subst (λ z. Reads (sized z (body (room_of types f))) mid new b) (sym ew) r1 in
      let r3 = subst (λ (z : List ℕ). Reads (body_of types z) mid new b) (sym s) r2 in
      let g = goes (body_of types) rest_of is_none_left old mid new functions xs (drop i functions) b h (some_left i f s) r3 in
      let rest : rest_of (drop i functions) b ≡ drop (i + 1) functions = ap (λ (z : List ℕ). rest_of z b) s in
      subst (λ (z : List Body). BodyRun old new z (i + 1)) (sym em) (subst (λ (z : List ℕ). HasRun (body_of types) rest_of is_none_left old new functions (xs ++ b ∷ []) z) rest g)

  pub bodies_fail : (old mid : Reader) (xs : List Body) (i f room : ℕ) (wanted : Bool) (e : Fault) → BodyRun old mid xs i → i < length functions → f ≡ slice_index functions i → room ≡ room_of types f → more_left (drop (i + 1) functions) ≡ wanted → Fails (sized wanted (body room)) mid e → Fails (repeated (body_of types) rest_of is_none_left functions) old e
  bodies_fail old mid xs i f room wanted e h lt ef er ew r =
      let s = stands i f lt ef in
      let r1 = subst (λ z. Fails (sized wanted (body z)) mid e) er r in
      let r2 = subst (λ z. Fails (sized z (body (room_of types f))) mid e) (sym ew) r1 in
      let r3 = subst (λ (z : List ℕ). Fails (body_of types z) mid e) (sym s) r2 in
      run_fails (body_of types) rest_of is_none_left old mid functions xs (drop i functions) e h (some_left i f s) r3

  none_here : (fs : List ℕ) → length fs ≤ 0 → is_none_left fs ≡ true
  none_here [] le = refl
  none_here (f ∷ fs) le = absurd (omega arith)

  pub bodies_end : (old new : Reader) (xs : List Body) (i : ℕ) → BodyRun old new xs i → length functions ≤ i → Reads (repeated (body_of types) rest_of is_none_left functions) old new xs
  bodies_end old new xs i h le = ends (body_of types) rest_of is_none_left old new functions xs (drop i functions) h (none_here (drop i functions) (omega (arith, length-drop i functions)))

  pub more_behind : (n : ℕ) → more_left (drop n functions) ≡ ltb n (length functions)
  more_behind n =
      ⊎_elim
      (λ (lt : n < length functions). more_here (drop n functions) true (λ e. omega (arith, length-drop n functions)) (λ e. absurd cc) ∙ sym (lt-ltb n (length functions) lt))
      (λ (le : length functions ≤ n). more_here (drop n functions) false (λ e. absurd cc) (λ e. omega (arith, length-drop n functions)) ∙ sym (le-ltb n (length functions) le))
      (cases_lt n (length functions))
