-- A module text has one module, bytes that are one do not break, and others break once.
use Rattle.std.proofs.Common.{◌≡◌, ℕ, zero, suc, ◌+◌, ◌-◌, ◌<◌, ◌≤◌, List, [], ◌∷◌, ◌++◌, length, take, drop, true, false, Result, Ok, refl, sym, ap, subst, ◌∙◌, arith, ◌⊎◌, inl, inr, ⊎_elim, append_assoc, length-append}
use Rattle.std.specs.Prelude.{slice_index}
use Rattle.sim_base.specs.declared.fault.Fault.{Fault}
use Rattle.sim_base.specs.declared.fault.Fault.TheVariants as faults
use Rattle.sim_base.specs.declared.fault.Refusal.{Refusal}
use Rattle.sim_base.specs.declared.fault.Place.TheVariants as places
use Rattle.sim_refusals.specs.Refusals.{WasmMagic, WasmCount}
use Rattle.wasm_binary.specs.declared.reader.Reader.{Reader}
use Rattle.wasm_binary.specs.Form.{byte_or, judge_tag}
use Rattle.wasm_binary.specs.Proper.{IsOnce, Proper}
use Rattle.wasm_binary.specs.Reads.{Reads, Fails, Decodes}
use Rattle.wasm_binary.proofs.Steps.{append-nil, is_nil, then}
use Rattle.wasm_binary.proofs.Runs.{HasRun, begins, goes}
use Rattle.wasm_binary.proofs.Exact.{give_proper, byte_proper, then_proper}
use Rattle.wasm_binary.proofs.Cuts.{rest_is}
use Rattle.wasm_binary.proofs.Once.{BreaksBehind, then_once, run_once}
use Rattle.wasm_decode.specs.declared.module.Module.{Module}
use Rattle.wasm_decode.specs.declared.progress.Progress.{Progress}
use Rattle.wasm_decode.specs.declared.progress.Section.{Section}
use Rattle.wasm_decode.specs.SectionText.{wants_bodies, section, with_section}
use Rattle.wasm_decode.specs.ModuleText.{these_bytes, magic, nothing, never, Sections, ModuleText, NextBreaks, SectionsBreak, ModuleBreaks, IsBroken, IsDecoded}
use Rattle.wasm_decode.specs.SectionViews.{SectionsFail, SectionsRead}
use Rattle.wasm_decode.proofs.SectionLemmas.{section_proper, section_some}

these_proper : (bytes : List ℕ) → Proper (these_bytes bytes)
these_proper [] = give_proper tt
these_proper (b ∷ bytes) = then_proper (byte_or WasmMagic (judge_tag b WasmMagic)) (λ (x : Unit {0}). these_bytes bytes) (byte_proper WasmMagic (judge_tag b WasmMagic)) (λ x. these_proper bytes)

magic_proper : Proper magic
magic_proper = these_proper (0x00 ∷ 0x61 ∷ 0x73 ∷ 0x6D ∷ 0x01 ∷ 0x00 ∷ 0x00 ∷ 0x00 ∷ [])

-- ---- sections

same : (s : Progress) (a b : List ℕ) (xs ys : List Section) (t u : Progress) → a ≡ b → Sections s a xs t → Sections s b ys u → t ≡ u
same s a b [] [] t u e h k = sym h.1 ∙ k.1
same s a b [] (y ∷ ys) t u e h k = absurd (omega (arith, ap length e, ap length h.0, ap length k.3, length-append k.1 k.2, section_some s k.1 y k.4))
same s a b (x ∷ xs) [] t u e h k = absurd (omega (arith, ap length e, ap length k.0, ap length h.3, length-append h.1 h.2, section_some s h.1 x h.4))
same s a b (x ∷ xs) (y ∷ ys) t u e h k =
    let e' : h.1 ++ h.2 ≡ k.1 ++ k.2 = sym h.3 ∙ e ∙ k.3 in
    let o = (section_proper s).one h.1 k.1 h.2 k.2 x y h.4 k.4 e' in
    let h5 = subst (λ (z : Section). Sections (with_section s z) h.2 xs t) o.1 h.5 in
    same (with_section s y) h.2 k.2 xs ys t u (rest_is h.1 k.1 h.2 k.2 o.0 e') h5 k.5

next_not : (s : Progress) (c a r : List ℕ) (x : Section) (j k : ℕ) → c ≡ a ++ r → (section s).text a x → NextBreaks s c j k → ⊥
next_not s [] a r x j k e t b = omega (arith, ap length e, length-append a r, section_some s a x t)
next_not s (d ∷ c) a r x j k e t b = (section_proper s).excludes a r x j k t (subst (λ (z : List ℕ). (section s).breaks z j k) e b)

breaks_not : (s : Progress) (a b c : List ℕ) (xs ys : List Section) (t u : Progress) (j k : ℕ) → a ≡ b ++ c → Sections s a xs t → wants_bodies t ≡ false → Sections s b ys u → NextBreaks u c j k → ⊥
breaks_not s a b c [] [] t u j k e h w g n =
    let z : c ≡ [] = is_nil c (omega (arith, ap length e, length-append b c, ap length h.0)) in
    let n' = subst (λ (y : List ℕ). NextBreaks u y j k) z n in
    let f : true ≡ false = sym n'.0 ∙ ap wants_bodies (sym g.1 ∙ h.1) ∙ w in
    absurd cc
breaks_not s a b c (x ∷ xs) [] t u j k e h w g n =
    let q : c ≡ h.1 ++ h.2 = sym (ap (λ (z : List ℕ). z ++ c) g.0) ∙ sym e ∙ h.3 in
    next_not s c h.1 h.2 x j k q h.4 (subst (λ (z : Progress). NextBreaks z c j k) (sym g.1) n)
breaks_not s a b c [] (y ∷ ys) t u j k e h w g n =
    omega (arith, ap length e, ap length h.0, length-append b c, ap length g.3, length-append g.1 g.2, section_some s g.1 y g.4)
breaks_not s a b c (x ∷ xs) (y ∷ ys) t u j k e h w g n =
    let e' : h.1 ++ h.2 ≡ g.1 ++ (g.2 ++ c) = sym h.3 ∙ e ∙ ap (λ (z : List ℕ). z ++ c) g.3 ∙ append_assoc g.1 g.2 c in
    let o = (section_proper s).one h.1 g.1 h.2 (g.2 ++ c) x y h.4 g.4 e' in
    let h5 = subst (λ (z : Section). Sections (with_section s z) h.2 xs t) o.1 h.5 in
    breaks_not (with_section s y) h.2 g.2 c xs ys t u j k (rest_is h.1 g.1 h.2 (g.2 ++ c) o.0 e') h5 w g.5 n

-- ---- modules

pub module_one : (bytes : List ℕ) (m n : Module) → ModuleText bytes m → ModuleText bytes n → n ≡ m
module_one bytes m n h k =
    let e : h.0 ++ h.1 ≡ k.0 ++ k.1 = sym h.4 ∙ k.4 in
    let o = magic_proper.one h.0 k.0 h.1 k.1 tt tt h.5 k.5 e in
    let t = same nothing h.1 k.1 h.2 k.2 h.3 k.3 (rest_is h.0 k.0 h.1 k.1 o.0 e) h.6 k.6 in
    k.8 ∙ ap (λ (s : Progress). s.module) (sym t) ∙ sym h.8

pub module_excludes : (bytes : List ℕ) (m : Module) (i k : ℕ) → ModuleText bytes m → ModuleBreaks bytes i k → ⊥
module_excludes bytes m i k h b =
    ⊎_elim
    (λ g. magic_proper.excludes h.0 h.1 tt i k h.5 (subst (λ (z : List ℕ). magic.breaks z i k) h.4 g))
    (λ g.
    let e : h.0 ++ h.1 ≡ g.0 ++ g.1 = sym h.4 ∙ g.3 in
    let o = magic_proper.one h.0 g.0 h.1 g.1 tt tt h.5 g.4 e in
    let f = g.6 in
    breaks_not nothing h.1 f.0 f.1 h.2 f.2 h.3 f.3 f.4 k (rest_is h.0 g.0 h.1 g.1 o.0 e ∙ f.5) h.6 h.7 f.6 f.8)
    b

next_once : (s : Progress) → IsOnce (NextBreaks s)
next_once s [] i j m n h k = (h.1 ∙ sym k.1, h.2 ∙ sym k.2)
next_once s (b ∷ bytes) i j m n h k = (section_proper s).once (b ∷ bytes) i j m n h k

no_section : (s : Progress) (a r : List ℕ) (x : Section) (i k : ℕ) → (section s).text a x → NextBreaks s (a ++ r) i k → ⊥
no_section s a r x i k t b = next_not s (a ++ r) a r x i k refl t b

sections_once : IsOnce SectionsBreak
sections_once bytes i j m n f g =
    let w = run_once section with_section never NextBreaks section_proper next_once no_section nothing f.3 g.3 f.0 f.1 g.0 g.1 f.2 g.2 f.4 g.4 m n (sym f.5 ∙ g.5) f.6 f.8 g.6 g.8 in
    (f.7 ∙ w.0 ∙ sym g.7, w.1)

abbrev Behind : List ℕ → ℕ → ℕ → Type 0
Behind = BreaksBehind magic (λ x. SectionsBreak)

as_behind : (bytes : List ℕ) (i k : ℕ) → ModuleBreaks bytes i k → magic.breaks bytes i k ⊎ Behind bytes i k
as_behind bytes i k b = ⊎_elim (λ u. inl u) (λ u. inr (u.0, u.1, tt, u.2, u.3, u.4, u.5, u.6)) b

module_once : IsOnce ModuleBreaks
module_once bytes i j m n h k =
    then_once magic (λ x. SectionsBreak) magic_proper (λ x. sections_once) bytes i j m n (as_behind bytes i m h) (as_behind bytes j n k)

broken : (bytes : List ℕ) (r : Refusal) (i : ℕ) → r.place ≡ places.Byte i → ModuleBreaks bytes i r.number → IsBroken bytes (faults.Refused r)
broken bytes r i p b = (λ m t. module_excludes bytes m i r.number t b, (i, p, b, λ j n c. module_once bytes j i n r.number c b))

pub magic_fails : (old : Reader) (e : Fault) → old.at ≡ 0 → Fails magic old e → IsBroken old.rest.now e
magic_fails old faults.OutOfMemory z f = tt
magic_fails old (faults.Refused r) z f =
    let n : old.at + f.0 ≡ f.0 = omega (arith, z) in
    broken old.rest.now r f.0 (f.1 ∙ ap (λ (k : ℕ). places.Byte k) n) (inl f.2)

pub sections_fail : (old mid : Reader) (e : Fault) → old.at ≡ 0 → Reads magic old mid tt → SectionsFail mid e → IsBroken old.rest.now e
sections_fail old mid faults.OutOfMemory z h f = tt
sections_fail old mid (faults.Refused r) z h f =
    let n : mid.at + f.0 ≡ length h.0 + f.0 = omega (arith, z, h.2.place) in
    broken old.rest.now r (length h.0 + f.0) (f.1 ∙ ap (λ (k : ℕ). places.Byte k) n) (inr (h.0, mid.rest.now, f.0, h.2.parts, h.1, refl, f.2))

pub module_read : (old mid : Reader) (t : Progress) → Reads magic old mid tt → SectionsRead (Ok t) mid → IsDecoded old.rest.now (Ok t.module)
module_read old mid t h f =
    let m : ModuleText old.rest.now t.module = (h.0, mid.rest.now, f.0, t, h.2.parts, h.1, f.1, f.2, refl) in
    (m, λ n k. module_one old.rest.now t.module n m k)

-- ---- the loop over sections

abbrev pub SectionRun : Reader → Reader → Progress → Type 0
SectionRun old now t = (xs : List Section) × HasRun section with_section never old now nothing xs t

pub sections_begin : (old : Reader) (t : Progress) → t ≡ nothing → SectionRun old old t
sections_begin old t e = subst (λ (z : Progress). SectionRun old old z) (sym e) ([], begins section with_section never old nothing)

pub sections_go : (old mid new : Reader) (t u : Progress) (x : Section) → SectionRun old mid t → Reads (section t) mid new x → u ≡ with_section t x → SectionRun old new u
sections_go old mid new t u x h r e =
    subst (λ (z : Progress). SectionRun old new z) (sym e) (h.0 ++ x ∷ [], goes section with_section never old mid new nothing h.0 t x h.1 refl r)

next_in : (t : Progress) (c : List ℕ) (j k : ℕ) → 0 < length c → (section t).breaks c j k → NextBreaks t c j k
next_in t [] j k lt b = absurd (omega arith)
next_in t (d ∷ c) j k lt b = b

pub section_breaks : (old mid : Reader) (t : Progress) (e : Fault) → SectionRun old mid t → 0 < length mid.rest.now → Fails (section t) mid e → SectionsFail old e
section_breaks old mid t faults.OutOfMemory h lt f = tt
section_breaks old mid t (faults.Refused r) h lt f =
    let g = h.1 in
    let n : mid.at + f.0 ≡ old.at + (length g.front + f.0) = omega (arith, g.took.place) in
    (length g.front + f.0, f.1 ∙ ap (λ (k : ℕ). places.Byte k) n, (g.front, mid.rest.now, h.0, t, f.0, g.took.parts, g.run, refl, next_in t mid.rest.now f.0 r.number lt f.2))

pub bodies_missing : (old mid : Reader) (t : Progress) (e : Fault) → SectionRun old mid t → length mid.rest.now ≤ 0 → wants_bodies t ≡ true → e ≡ faults.Refused (record { number = WasmCount; place = places.Byte mid.at }) → SectionsFail old e
bodies_missing old mid t e h z w is =
    let g = h.1 in
    let n : mid.at ≡ old.at + (length g.front + 0) = omega (arith, g.took.place) in
    let c : mid.rest.now ≡ [] = is_nil mid.rest.now (omega arith) in
    let b : NextBreaks t mid.rest.now 0 WasmCount = subst (λ (y : List ℕ). NextBreaks t y 0 WasmCount) (sym c) (w, refl, refl) in
    subst (λ (y : Fault). SectionsFail old y) (sym is) (length g.front + 0, ap (λ (k : ℕ). places.Byte k) n, (g.front, mid.rest.now, h.0, t, 0, g.took.parts, g.run, refl, b))

pub sections_end : (old mid : Reader) (t : Progress) → SectionRun old mid t → length mid.rest.now ≤ 0 → wants_bodies t ≡ false → SectionsRead (Ok t) old
sections_end old mid t h z w =
    let g = h.1 in
    let c : mid.rest.now ≡ [] = is_nil mid.rest.now (omega arith) in
    let all : old.rest.now ≡ g.front = g.took.parts ∙ ap (λ (y : List ℕ). g.front ++ y) c ∙ append-nil g.front in
    (h.0, subst (λ (y : List ℕ). Sections nothing y h.0 t) (sym all) g.run, w)

-- ---- the magic

these_next : (first : ℕ) (bytes : List ℕ) (old mid new : Reader) (r : Result (Unit {0}) Fault) → Reads (byte_or WasmMagic (judge_tag first WasmMagic)) old mid tt → Decodes (these_bytes bytes) r mid new → Decodes (these_bytes (first ∷ bytes)) r old new
these_next first bytes old mid new r h d = then (byte_or WasmMagic (judge_tag first WasmMagic)) (λ (x : Unit {0}). these_bytes bytes) old mid new tt r h d

take_whole : (bytes : List ℕ) (n : ℕ) → n ≡ length bytes → take n bytes ≡ bytes
take_whole [] n e = let z : n ≡ 0 = omega arith in ap (λ (k : ℕ). take k []) z
take_whole (b ∷ bytes) zero e = absurd (omega arith)
take_whole (b ∷ bytes) (suc n) e = ap (λ (z : List ℕ). b ∷ z) (take_whole bytes n (omega arith))

pub these_rest : (bytes : List ℕ) (old mid new : Reader) (r : Result (Unit {0}) Fault) → 0 < length bytes → Reads (byte_or WasmMagic (judge_tag (slice_index bytes 0) WasmMagic)) old mid tt → Decodes (these_bytes (take (length bytes - 1) (drop 1 bytes))) r mid new → Decodes (these_bytes bytes) r old new
these_rest [] old mid new r lt h d = absurd (omega arith)
these_rest (b ∷ bytes) old mid new r lt h d =
    let n : length (b ∷ bytes) - 1 ≡ length bytes = omega arith in
    these_next b bytes old mid new r h (subst (λ (z : List ℕ). Decodes (these_bytes z) r mid new) (take_whole bytes (length (b ∷ bytes) - 1) n) d)
