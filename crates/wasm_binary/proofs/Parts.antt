-- Reading a part with a size.
use Rattle.std.proofs.Common.{◌≡◌, ℕ, ◌+◌, ◌-◌, ◌<◌, ◌≤◌, List, ◌++◌, length, Bool, refl, sym, ap, subst, ◌∙◌, arith, inl, inr, length-append, length-take}
use Rattle.std.specs.Prelude.{take}
use Rattle.sim_base.specs.declared.fault.Fault.{Fault}
use Rattle.sim_base.specs.declared.fault.Fault.TheVariants as faults
use Rattle.sim_base.specs.declared.fault.Place.TheVariants as places
use Rattle.wasm_binary.specs.declared.reader.Reader.{Reader}
use Rattle.wasm_binary.specs.Form.{Form}
use Rattle.wasm_binary.specs.Leb.{u32}
use Rattle.wasm_binary.specs.Lists.{sized, short_number}
use Rattle.wasm_binary.specs.Reads.{Took, Reads, Fails}
use Rattle.wasm_binary.proofs.Steps.{append-nil, is_nil, took_then, fails_as}

window_done : (size : ℕ) (bytes b rest : List ℕ) → take size bytes ≡ b ++ rest → size ≤ length b → (length b ≡ size) × (take (length b) bytes ≡ b)
window_done size bytes b rest e le =
    let n = ap length e in
    let l : length b ≡ size = omega (arith, n, length-append b rest, length-take size bytes) in
    let z : length rest ≡ 0 = omega (arith, n, length-append b rest, length-take size bytes) in
    (l, ap (λ (k : ℕ). take k bytes) l ∙ e ∙ ap (λ (x : List ℕ). b ++ x) (is_nil rest z) ∙ append-nil b)

-- the size is cut or faulty
pub size_fails : {X : Type 0} (wanted : Bool) (p : Form X) (old : Reader) (e : Fault) → Fails u32 old e → Fails (sized wanted p) old e
size_fails wanted p old e h = fails_as u32 (sized wanted p) old e (λ j k b. inl b) h

module _ {X : Type 0} (wanted : Bool) (p : Form X) (old mid inner : Reader) (size : ℕ) (h : Reads u32 old mid size) (rest_is : inner.rest.now ≡ take size mid.rest.now) (at_is : inner.at ≡ mid.at) where
  pub sized_fails : (e : Fault) → Fails p inner e → Fails (sized wanted p) old e
  sized_fails faults.OutOfMemory f = tt
  sized_fails (faults.Refused r) f =
      let n : inner.at + f.0 ≡ old.at + (length h.0 + f.0) = omega (arith, at_is, h.2.place) in
      (length h.0 + f.0, f.1 ∙ ap (λ (k : ℕ). places.Byte k) n, inr (h.0, mid.rest.now, size, f.0, h.2.parts, h.1, refl, inl (subst (λ (y : List ℕ). p.breaks y f.0 r.number) rest_is f.2)))

  pub sized_short : (after : Reader) (x : X) (e : Fault) → Reads p inner after x → after.at - mid.at < size → e ≡ faults.Refused (record { number = short_number wanted after.rest.now; place = places.Byte after.at }) → Fails (sized wanted p) old e
  sized_short after x e r lt is =
      let n : after.at ≡ old.at + (length h.0 + length r.0) = omega (arith, r.2.place, at_is, h.2.place) in
      subst (λ (y : Fault). Fails (sized wanted p) old y) (sym is)
      (length h.0 + length r.0, ap (λ (k : ℕ). places.Byte k) n, inr (h.0, mid.rest.now, size, length r.0, h.2.parts, h.1, refl, inr (r.0, after.rest.now, x, sym rest_is ∙ r.2.parts, r.1, omega (arith, r.2.place, at_is), refl, refl)))

  pub sized_reads : (after new : Reader) (x : X) → Reads p inner after x → size ≤ after.at - mid.at → Took mid new (take (after.at - mid.at) mid.rest.now) → Reads (sized wanted p) old new x
  sized_reads after new x r le t =
      let n : after.at - mid.at ≡ length r.0 = omega (arith, r.2.place, at_is) in
      let w = window_done size mid.rest.now r.0 after.rest.now (sym rest_is ∙ r.2.parts) (omega arith) in
      let t' : Took mid new r.0 = subst (λ (y : List ℕ). Took mid new y) (ap (λ (k : ℕ). take k mid.rest.now) n ∙ w.1) t in
      (h.0 ++ r.0, (h.0, r.0, refl, subst (λ (k : ℕ). u32.text h.0 k) (sym w.0) h.1, r.1), took_then old mid new h.0 r.0 h.2 t')

  pub sized_inside : (after : Reader) (x : X) → Reads p inner after x → (mid.at ≤ after.at) × (after.at - mid.at ≤ length mid.rest.now)
  sized_inside after x r =
      (omega (arith, r.2.place, at_is), omega (arith, r.2.place, at_is, ap length r.2.parts, ap length rest_is, length-append r.0 after.rest.now, length-take size mid.rest.now))
