-- Custom sections.
use Rattle.std.proofs.Common.{◌≡◌, ℕ, ◌+◌, ◌<◌, ◌≤◌, List, ◌++◌, length, take, refl, sym, ap, subst, ◌∙◌, arith, inl, inr, length-take}
use Rattle.sim_base.specs.declared.fault.Fault.{Fault}
use Rattle.sim_base.specs.declared.fault.Fault.TheVariants as faults
use Rattle.sim_base.specs.declared.fault.Place.TheVariants as places
use Rattle.sim_refusals.specs.Refusals.{WasmCut}
use Rattle.wasm_binary.specs.declared.reader.Reader.{Reader}
use Rattle.wasm_binary.specs.Leb.{u32}
use Rattle.wasm_binary.specs.Names.{name}
use Rattle.wasm_binary.specs.Reads.{Took, Reads, Fails}
use Rattle.wasm_binary.proofs.Steps.{took_then}
use Rattle.wasm_decode.specs.declared.progress.Section.TheVariants as sections
use Rattle.wasm_decode.specs.SectionText.{custom}

module _ (old mid inner : Reader) (size : ℕ) (h : Reads u32 old mid size) (rest_is : inner.rest.now ≡ take size mid.rest.now) (at_is : inner.at ≡ mid.at) where
  pub custom_name_fails : (e : Fault) → Fails name inner e → Fails custom old e
  custom_name_fails faults.OutOfMemory f = tt
  custom_name_fails (faults.Refused r) f =
      let n : inner.at + f.0 ≡ old.at + (length h.0 + f.0) = omega (arith, at_is, h.2.place) in
      (length h.0 + f.0, f.1 ∙ ap (λ (k : ℕ). places.Byte k) n, inr (h.0, mid.rest.now, size, f.0, h.2.parts, h.1, refl, inl (subst (λ (y : List ℕ). name.breaks y f.0 r.number) rest_is f.2)))

  pub custom_cut : (after : Reader) (x : List ℕ) (e : Fault) → Reads name inner after x → length mid.rest.now < size → e ≡ faults.Refused (record { number = WasmCut; place = places.Byte (mid.at + length mid.rest.now) }) → Fails custom old e
  custom_cut after x e r lt is =
      let n : mid.at + length mid.rest.now ≡ old.at + (length h.0 + length mid.rest.now) = omega (arith, h.2.place) in
      subst (λ (y : Fault). Fails custom old y) (sym is)
      (length h.0 + length mid.rest.now, ap (λ (k : ℕ). places.Byte k) n, inr (h.0, mid.rest.now, size, length mid.rest.now, h.2.parts, h.1, refl, inr (r.0, after.rest.now, x, sym rest_is ∙ r.2.parts, r.1, lt, refl, refl)))

  pub custom_reads : (after new : Reader) (x : List ℕ) → Reads name inner after x → size ≤ length mid.rest.now → Took mid new (take size mid.rest.now) → Reads custom old new sections.Custom
  custom_reads after new x r le t =
      let b : take size mid.rest.now ≡ r.0 ++ after.rest.now = sym rest_is ∙ r.2.parts in
      let l : length (r.0 ++ after.rest.now) ≡ size = omega (arith, ap length b, length-take size mid.rest.now) in
      (h.0 ++ take size mid.rest.now, (h.0, r.0, after.rest.now, x, ap (λ (z : List ℕ). h.0 ++ z) b, subst (λ (k : ℕ). u32.text h.0 k) (sym l) h.1, r.1, refl), took_then old mid new h.0 (take size mid.rest.now) h.2 t)
