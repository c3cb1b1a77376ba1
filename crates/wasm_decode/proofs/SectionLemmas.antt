-- Sections are proper.
use Rattle.std.proofs.Common.{◌≡◌, ℕ, ◌-◌, ◌<◌, List, ◌++◌, length, take, false, sym, ap, subst, ◌∙◌, arith, ◌⊎◌, ⊎_elim, append_assoc, length-append}
use Rattle.std.specs.Prelude.{◌==◌}
use Rattle.sim_base.specs.declared.fault.Fault.{Fault}
use Rattle.sim_refusals.specs.Refusals.{WasmCut, WasmLeb}
use Rattle.wasm_binary.specs.declared.reader.Reader.{Reader}
use Rattle.wasm_binary.specs.Form.{Form, give, byte, ◌>>=◌}
use Rattle.wasm_binary.specs.Leb.{u32}
use Rattle.wasm_binary.specs.Lists.{vec, vec_to, sized}
use Rattle.wasm_binary.specs.Names.{name}
use Rattle.wasm_binary.specs.Proper.{IsOnce, Proper}
use Rattle.wasm_binary.specs.Reads.{Reads, Fails}
use Rattle.wasm_binary.proofs.Steps.{stops, then_reads, given}
use Rattle.wasm_binary.proofs.Exact.{give_proper, byte_proper, then_proper, unsigned_proper, vec_proper, vec_to_proper, choose_proper, sized_proper}
use Rattle.wasm_binary.proofs.Cuts.{take_front, rest_is, recut, whole_is, same_length}
use Rattle.wasm_binary.proofs.Once.{then_once}
use Rattle.wasm_code.specs.TypeText.{func_type, limits, table_type}
use Rattle.wasm_code.proofs.LimitsLemmas.{limits_proper}
use Rattle.wasm_code.proofs.TypeLemmas.{func_type_proper, table_type_proper}
use Rattle.wasm_decode.specs.declared.module.Body.{Body}
use Rattle.wasm_decode.specs.declared.module.Module.{Module}
use Rattle.wasm_decode.specs.declared.progress.Progress.{Progress}
use Rattle.wasm_decode.specs.declared.progress.Section.{Section}
use Rattle.wasm_decode.specs.declared.progress.Section.TheVariants as sections
use Rattle.wasm_decode.specs.ItemText.{imports, imported, global, export, element, segment, bodies}
use Rattle.wasm_decode.specs.SectionText.{judge_id, custom, IsCustom, CustomBreaks, content, section_of, section}
use Rattle.wasm_decode.proofs.ItemLemmas.{name_proper, imports_proper, global_proper, export_proper, element_proper, segment_proper, bodies_proper}

u32_proper : Proper u32
u32_proper = unsigned_proper 32 0 4294967295 WasmLeb

custom_one : (a b r s : List ℕ) (x y : Section) → IsCustom a x → IsCustom b y → a ++ r ≡ b ++ s → (a ≡ b) × (x ≡ y)
custom_one a b r s x y h k e =
    let hc = h.1 ++ h.2 in
    let kc = k.1 ++ k.2 in
    let e' = recut a b h.0 hc k.0 kc r s h.4 k.4 e in
    let o = u32_proper.one h.0 k.0 (hc ++ r) (kc ++ s) (length hc) (length kc) h.5 k.5 e' in
    let t = same_length hc kc r s o.1 (rest_is h.0 k.0 (hc ++ r) (kc ++ s) o.0 e') in
    (whole_is a b h.0 hc k.0 kc h.4 k.4 o.0 t, h.7 ∙ sym k.7)

custom_excludes : (a r : List ℕ) (x : Section) (i number : ℕ) → IsCustom a x → CustomBreaks (a ++ r) i number → ⊥
custom_excludes a r x i number h b =
    let hc = h.1 ++ h.2 in
    let e : a ++ r ≡ h.0 ++ (hc ++ r) = ap (λ (z : List ℕ). z ++ r) h.4 ∙ append_assoc h.0 hc r in
    ⊎_elim
    (λ f. u32_proper.excludes h.0 (hc ++ r) (length hc) i number h.5 (subst (λ (z : List ℕ). u32.breaks z i number) e f))
    (λ f.
    let e' : f.0 ++ f.1 ≡ h.0 ++ (hc ++ r) = sym f.4 ∙ e in
    let q = u32_proper.one f.0 h.0 f.1 (hc ++ r) f.2 (length hc) f.5 h.5 e' in
    let rest = rest_is f.0 h.0 f.1 (hc ++ r) q.0 e' in
    let w : take f.2 f.1 ≡ hc = ap (λ (z : List ℕ). take f.2 z) rest ∙ ap (λ (n : ℕ). take n (hc ++ r)) q.1 ∙ take_front hc r in
    ⊎_elim
    (λ g. name_proper.excludes h.1 h.2 h.3 f.3 number h.6 (subst (λ (z : List ℕ). name.breaks z f.3 number) w g))
    (λ g. omega (arith, g.5, ap length rest, length-append hc r, q.1))
    f.7)
    b

-- behind a whole name the bytes end before the size does
abbrev IsShort : ℕ → List ℕ → ℕ → ℕ → Type 0
IsShort size b j number = (c d n : List ℕ) × (take size b ≡ c ++ d) × name.text c n × (length b < size) × (j ≡ length b) × (number ≡ WasmCut)

not_short : (size : ℕ) (bytes : List ℕ) (i j m n : ℕ) → name.breaks (take size bytes) i m → IsShort size bytes j n → ⊥
not_short size bytes i j m n u v = name_proper.excludes v.0 v.1 v.2 i m v.4 (subst (λ (z : List ℕ). name.breaks z i m) v.3 u)

named_once : (size : ℕ) → IsOnce (λ b j number. name.breaks (take size b) j number ⊎ IsShort size b j number)
named_once size bytes i j m n h k =
    ⊎_elim
    (λ u. ⊎_elim (λ v. name_proper.once (take size bytes) i j m n u v) (λ v. absurd (not_short size bytes i j m n u v)) k)
    (λ u. ⊎_elim (λ v. absurd (not_short size bytes j i n m v u)) (λ v. (u.6 ∙ sym v.6, u.7 ∙ sym v.7)) k)
    h

custom_once : IsOnce CustomBreaks
custom_once = then_once u32 (λ size b j number. name.breaks (take size b) j number ⊎ IsShort size b j number) u32_proper named_once

pub custom_proper : Proper custom
custom_proper = record { one = custom_one; excludes = custom_excludes; once = custom_once }

sect : {X : Type 0} (p : Form X) (make : X → Section) → Proper p → Proper (p >>= (λ x. give (make x)))
sect p make h = then_proper p (λ x. give (make x)) h (λ x. give_proper (make x))

content_proper : (m : Module) (id : ℕ) → Proper (content m id)
content_proper m id =
    choose_proper (id == 1) _ _ (sect (vec_to 1024 func_type) (λ xs. sections.Types xs) (vec_to_proper 1024 func_type func_type_proper))
    (choose_proper (id == 2) _ _ (sect imports (λ xs. sections.Imports xs) imports_proper)
    (choose_proper (id == 3) _ _ (sect (vec_to (4096 - imported m.imports) u32) (λ xs. sections.Functions xs) (vec_to_proper (4096 - imported m.imports) u32 u32_proper))
    (choose_proper (id == 4) _ _ (sect (vec table_type) (λ xs. sections.Tables xs) (vec_proper table_type table_type_proper))
    (choose_proper (id == 5) _ _ (sect (vec limits) (λ xs. sections.Memories xs) (vec_proper limits limits_proper))
    (choose_proper (id == 6) _ _ (sect (vec_to 1024 global) (λ xs. sections.Globals xs) (vec_to_proper 1024 global global_proper))
    (choose_proper (id == 7) _ _ (sect (vec_to 1024 export) (λ xs. sections.Exports xs) (vec_to_proper 1024 export export_proper))
    (choose_proper (id == 8) _ _ (sect u32 (λ n. sections.Start n) u32_proper)
    (choose_proper (id == 9) _ _ (sect (vec_to 8192 element) (λ xs. sections.Elements xs) (vec_to_proper 8192 element element_proper))
    (choose_proper (id == 10) _ _ (sect (bodies m.types m.functions) (λ xs. sections.Bodies xs) (bodies_proper m.types m.functions))
    (sect (vec_to 8192 segment) (λ xs. sections.Segments xs) (vec_to_proper 8192 segment segment_proper)))))))))))

pub section_proper : (s : Progress) → Proper (section s)
unfolding section
section_proper s =
    then_proper (byte (judge_id s)) (section_of s.module) (byte_proper WasmCut (judge_id s))
    (λ id. choose_proper (id == 0) custom (sized false (content s.module id)) custom_proper (sized_proper false (content s.module id) (content_proper s.module id)))

-- a section takes a byte at least
pub section_some : (s : Progress) (a : List ℕ) (x : Section) → (section s).text a x → 0 < length a
unfolding section
section_some s a x t = omega (arith, ap length t.3, length-append t.0 t.1, ap length t.4.1)

pub section_shrinks : (s : Progress) (old new : Reader) (x : Section) → Reads (section s) old new x → length new.rest.now < length old.rest.now
section_shrinks s old new x h = omega (arith, ap length h.2.parts, length-append h.0 new.rest.now, section_some s h.0 x h.1)

-- the content of the section of bodies
pub bodies_read : (m : Module) (id : ℕ) (old new : Reader) (xs : List Body) → id ≡ 10 → Reads (bodies m.types m.functions) old new xs → Reads (content m id) old new (sections.Bodies xs)
bodies_read m id old new xs q h =
    subst (λ (z : ℕ). Reads (content m z) old new (sections.Bodies xs)) (sym q)
    (then_reads (bodies m.types m.functions) (λ x. give (sections.Bodies x)) old new new xs (sections.Bodies xs) h (given (sections.Bodies xs) new))

-- where it breaks
pub bodies_fail : (m : Module) (id : ℕ) (old : Reader) (e : Fault) → id ≡ 10 → Fails (bodies m.types m.functions) old e → Fails (content m id) old e
bodies_fail m id old e q h =
    subst (λ (z : ℕ). Fails (content m z) old e) (sym q) (stops (bodies m.types m.functions) (λ x. give (sections.Bodies x)) old e h)
