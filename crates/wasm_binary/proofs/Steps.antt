-- Reading one part behind another.
use Rattle.std.proofs.Common.{◌≡◌, ℕ, ◌+◌, List, [], ◌∷◌, ◌++◌, length, Result, Ok, Err, refl, sym, ap, subst, ◌∙◌, append_assoc, arith, inl, inr, length-append}
use Rattle.sim_base.specs.declared.fault.Fault.{Fault}
use Rattle.sim_base.specs.declared.fault.Fault.TheVariants as faults
use Rattle.sim_base.specs.declared.fault.Place.TheVariants as places
use Rattle.sim_refusals.specs.Refusals.{WasmCut}
use Rattle.wasm_binary.specs.declared.reader.Reader.{Reader}
use Rattle.wasm_binary.specs.Form.{Form, give, any_byte, byte, ByteBreaks, ◌>>=◌}
use Rattle.wasm_binary.specs.Reads.{Took, Reads, Fails, Decodes}

pub append-nil : {X : Type 0} (xs : List X) → xs ++ [] ≡ xs
append-nil [] = refl
append-nil (x ∷ xs) = ap (λ ys. x ∷ ys) (append-nil xs)

pub is_nil : {X : Type 0} (xs : List X) → length xs ≡ 0 → xs ≡ []
is_nil [] e = refl
is_nil (x ∷ xs) e = absurd (omega arith)

pub took_none : (r : Reader) → Took r r []
took_none r = record { parts = refl; place = omega arith }

pub took_then : (r s t : Reader) (a b : List ℕ) → Took r s a → Took s t b → Took r t (a ++ b)
took_then r s t a b p q = record {
  parts = p.parts ∙ ap (λ (x : List ℕ). a ++ x) q.parts ∙ sym (append_assoc a b t.rest.now);
  place = omega (arith, p.place, q.place, length-append a b);
}

-- what breaks behind a text breaks the whole
pub fails_on : {X Y : Type 0} (p : Form X) (q : Form Y) (old mid : Reader) (a : List ℕ) (e : Fault) → Took old mid a → ((j k : ℕ) → p.breaks mid.rest.now j k → q.breaks (a ++ mid.rest.now) (length a + j) k) → Fails p mid e → Fails q old e
fails_on p q old mid a faults.OutOfMemory t f h = tt
fails_on p q old mid a (faults.Refused r) t f h =
    let e : mid.at + h.0 ≡ old.at + (length a + h.0) = omega (arith, t.place) in
    (length a + h.0, h.1 ∙ ap (λ (n : ℕ). places.Byte n) e, subst (λ y. q.breaks y (length a + h.0) r.number) (sym t.parts) (f h.0 r.number h.2))

-- the same where nothing was taken
pub fails_as : {X Y : Type 0} (p : Form X) (q : Form Y) (old : Reader) (e : Fault) → ((j k : ℕ) → p.breaks old.rest.now j k → q.breaks old.rest.now j k) → Fails p old e → Fails q old e
fails_as p q old faults.OutOfMemory f h = tt
fails_as p q old (faults.Refused r) f h = (h.0, h.1, f h.0 r.number h.2)

module _ {X Y : Type 0} (p : Form X) (f : X → Form Y) where
  -- the first part breaks
  pub stops : (old : Reader) (e : Fault) → Fails p old e → Fails (p >>= f) old e
  stops old e h = fails_as p (p >>= f) old e (λ j k b. inl b) h

  -- the first part was read, and what its value asks for goes so
  pub then : (old mid new : Reader) (x : X) (r : Result Y Fault) → Reads p old mid x → Decodes (f x) r mid new → Decodes (p >>= f) r old new
  then old mid new x (Ok y) h d = (h.0 ++ d.0, (h.0, d.0, x, refl, h.1, d.1), took_then old mid new h.0 d.0 h.2 d.2)
  then old mid new x (Err e) h d =
      fails_on (f x) (p >>= f) old mid h.0 e h.2 (λ j k b. inr (h.0, mid.rest.now, x, j, refl, h.1, refl, b)) d

  -- the same where it fails
  pub then_fails : (old mid : Reader) (x : X) (e : Fault) → Reads p old mid x → Fails (f x) mid e → Fails (p >>= f) old e
  then_fails old mid x e h d = then old mid mid x (Err e) h d

  pub then_reads : (old mid new : Reader) (x : X) (y : Y) → Reads p old mid x → Reads (f x) mid new y → Reads (p >>= f) old new y
  then_reads old mid new x y h d = then old mid new x (Ok y) h d

pub given : {X : Type 0} (x : X) (r : Reader) → Reads (give x) r r x
given x r = ([], (refl, refl), took_none r)

-- a byte that was read and judged
module _ {X : Type 0} (judge : ℕ → Result X ℕ) where
  pub judged_ends : (old : Reader) (e : Fault) → Fails any_byte old e → Fails (byte judge) old e
  judged_ends old e h = fails_as any_byte (byte judge) old e (λ j k b. subst (λ bytes. ByteBreaks WasmCut judge bytes j k) (sym b.0) (b.1, b.2)) h

  pub judged_ok : (old new : Reader) (b : ℕ) (x : X) → Reads any_byte old new b → judge b ≡ Ok x → Reads (byte judge) old new x
  judged_ok old new b x h e = (h.0, (b, h.1, e), h.2)

  pub judged_err : (old new : Reader) (b k : ℕ) → Reads any_byte old new b → judge b ≡ Err k → Fails (byte judge) old (faults.Refused (record { number = k; place = places.Byte old.at }))
  judged_err old new b k h e =
      let z : old.at ≡ old.at + 0 = omega arith in
      (0, ap (λ (n : ℕ). places.Byte n) z, subst (λ y. ByteBreaks WasmCut judge y 0 k) (sym (h.2.parts ∙ ap (λ (t : List ℕ). t ++ new.rest.now) h.1)) (refl, e))

pub took_byte : (old new : Reader) (b : ℕ) → Reads any_byte old new b → Took old new (b ∷ [])
took_byte old new b h = subst (λ (y : List ℕ). Took old new y) h.1 h.2
