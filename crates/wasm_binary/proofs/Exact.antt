-- Forms are proper: no text begins another, a text has one value, bytes that begin with a text do not break, and others break
-- once.
use Rattle.std.proofs.Common.{◌≡◌, ℕ, zero, suc, ◌+◌, ◌-◌, ◌*◌, ◌^◌, ◌<◌, ◌≤◌, List, [], ◌∷◌, ◌++◌, length, Result, Ok, Err, Bool, true, false, refl, sym, ap, subst, ◌∙◌, arith, ◌⊎◌, append_assoc, ⊎_elim, length-append}
use Rattle.std.specs.Prelude.{take}
use Rattle.sim_refusals.specs.Refusals.{WasmLeb, WasmLimit}
use Rattle.wasm_binary.specs.Form.{Form, give, byte_or, ByteBreaks, ◌>>=◌, choose}
use Rattle.wasm_binary.specs.Leb.{IsUnsigned, ByteIsFaulty, high_least, high_greatest, BreaksUnsigned, unsigned, u32, at_most, IsSigned, IsUnlikeSign, BreaksSigned, signed}
use Rattle.wasm_binary.specs.Lists.{Run, repeated, is_zero, items, vec, vec_to, bytes_of_length, byte_vec, short_number, ContentBreaks, sized}
use Rattle.wasm_binary.specs.Proper.{IsOnce, Proper}
use Rattle.wasm_binary.proofs.Cuts.{head_of, tail_of, take_front, rest_is, recut, whole_is, same_length}
use Rattle.wasm_binary.proofs.Once.{then_once, run_once, going_fine, unsigned_once, signed_once}
use Rattle.wasm_binary.proofs.Steps.{append-nil}
use Rattle.wasm_binary.proofs.Numbers.{high_allowed}

pub give_proper : {X : Type 0} (x : X) → Proper (give x)
give_proper x = record {
  one = λ a b r s y z h k e. (h.0 ∙ sym k.0, h.1 ∙ sym k.1);
  excludes = λ a r y i k h b. b;
  once = λ bytes i j m n h k. absurd h;
}

module _ {X : Type 0} (cut : ℕ) (judge : ℕ → Result X ℕ) where
  byte_excludes : (a r : List ℕ) (x : X) (i k : ℕ) → (byte_or cut judge).text a x → ByteBreaks cut judge (a ++ r) i k → ⊥
  byte_excludes a r x i k h b =
      let b' = subst (λ (z : List ℕ). ByteBreaks cut judge (z ++ r) i k) h.1 b in
      let e : Ok x ≡ Err k = sym h.2 ∙ b'.1 in
      absurd cc

  byte_once : IsOnce (ByteBreaks cut judge)
  byte_once [] i j m n h k = (h.0 ∙ sym k.0, h.1 ∙ sym k.1)
  byte_once (b ∷ bytes) i j m n h k =
      let e : Err m ≡ Err n = sym h.1 ∙ k.1 in
      (h.0 ∙ sym k.0, cc)

  pub byte_proper : Proper (byte_or cut judge)
  byte_proper = record {
    one = λ a b r s x y h k e.
        let q : h.0 ≡ k.0 = ap (head_of 0) (sym (ap (λ (z : List ℕ). z ++ r) h.1) ∙ e ∙ ap (λ (z : List ℕ). z ++ s) k.1) in
        let v : Ok x ≡ Ok y = sym h.2 ∙ ap judge q ∙ k.2 in
        (h.1 ∙ ap (λ (z : ℕ). z ∷ []) q ∙ sym k.1, cc);
    excludes = byte_excludes;
    once = byte_once;
  }

module _ {X Y : Type 0} (p : Form X) (f : X → Form Y) (pp : Proper p) (pf : (x : X) → Proper (f x)) where
  pub then_proper : Proper (p >>= f)
  then_proper = record {
    one = λ a b r s x y h k e.
        let e' = recut a b h.0 h.1 k.0 k.1 r s h.3 k.3 e in
        let o = pp.one h.0 k.0 (h.1 ++ r) (k.1 ++ s) h.2 k.2 h.4 k.4 e' in
        let h5 = subst (λ z. (f z).text h.1 x) o.1 h.5 in
        let t = (pf k.2).one h.1 k.1 r s x y h5 k.5 (rest_is h.0 k.0 (h.1 ++ r) (k.1 ++ s) o.0 e') in
        (whole_is a b h.0 h.1 k.0 k.1 h.3 k.3 o.0 t.0, t.1);
    excludes = λ a r y i k h b.
        let e : a ++ r ≡ h.0 ++ (h.1 ++ r) = ap (λ (z : List ℕ). z ++ r) h.3 ∙ append_assoc h.0 h.1 r in
        ⊎_elim
        (λ g. pp.excludes h.0 (h.1 ++ r) h.2 i k h.4 (subst (λ (z : List ℕ). p.breaks z i k) e g))
        (λ g.
        let e' : g.0 ++ g.1 ≡ h.0 ++ (h.1 ++ r) = sym g.4 ∙ e in
        let o = pp.one g.0 h.0 g.1 (h.1 ++ r) g.2 h.2 g.5 h.4 e' in
        let b' = subst (λ z. (f z).breaks g.1 g.3 k) o.1 g.7 in
        (pf h.2).excludes h.1 r y g.3 k h.5 (subst (λ (z : List ℕ). (f h.2).breaks z g.3 k) (rest_is g.0 h.0 g.1 (h.1 ++ r) o.0 e') b'))
        b;
    once = then_once p (λ x. (f x).breaks) pp (λ x. (pf x).once);
  }

module _ {S X : Type 0} (item : S → Form X) (next : S → X → S) (done : S → Bool) (pi : (s : S) → Proper (item s)) where
  differ : (s t : S) → s ≡ t → done s ≡ false → done t ≡ true → ⊥
  differ s t e f g = let q : false ≡ true = sym f ∙ ap done e ∙ g in absurd cc

  run_one : (s : S) (a b r q : List ℕ) (xs ys : List X) (t u : S) → Run item next done s a xs t → done t ≡ true → Run item next done s b ys u → done u ≡ true → a ++ r ≡ b ++ q → (a ≡ b) × (xs ≡ ys)
  run_one s a b r q [] [] t u h d k g e = (h.0 ∙ sym k.0, refl)
  run_one s a b r q [] (y ∷ ys) t u h d k g e = absurd (differ s t h.1 k.0 d)
  run_one s a b r q (x ∷ xs) [] t u h d k g e = absurd (differ s u k.1 h.0 g)
  run_one s a b r q (x ∷ xs) (y ∷ ys) t u h d k g e =
      let e' = recut a b h.1 h.2 k.1 k.2 r q h.3 k.3 e in
      let o = (pi s).one h.1 k.1 (h.2 ++ r) (k.2 ++ q) x y h.4 k.4 e' in
      let h5 = subst (λ z. Run item next done (next s z) h.2 xs t) o.1 h.5 in
      let w = run_one (next s y) h.2 k.2 r q xs ys t u h5 d k.5 g (rest_is h.1 k.1 (h.2 ++ r) (k.2 ++ q) o.0 e') in
      (whole_is a b h.1 h.2 k.1 k.2 h.3 k.3 o.0 w.0, ap (λ z. z ∷ xs) o.1 ∙ ap (λ (z : List X). y ∷ z) w.1)

  run_excludes : (s : S) (a r b c : List ℕ) (xs ys : List X) (t u : S) (j k : ℕ) → Run item next done s a xs t → done t ≡ true → a ++ r ≡ b ++ c → Run item next done s b ys u → done u ≡ false → (item u).breaks c j k → ⊥
  run_excludes s a r b c [] [] t u j k h d e g f br = differ s t h.1 (ap done g.1 ∙ f) d
  run_excludes s a r b c (x ∷ xs) [] t u j k h d e g f br =
      let e' : c ≡ h.1 ++ (h.2 ++ r) = sym (ap (λ (z : List ℕ). z ++ c) g.0) ∙ sym e ∙ ap (λ (z : List ℕ). z ++ r) h.3 ∙ append_assoc h.1 h.2 r in
      let br' = subst (λ z. (item z).breaks c j k) (sym g.1) br in
      (pi s).excludes h.1 (h.2 ++ r) x j k h.4 (subst (λ (z : List ℕ). (item s).breaks z j k) e' br')
  run_excludes s a r b c [] (y ∷ ys) t u j k h d e g f br = differ s t h.1 g.0 d
  run_excludes s a r b c (x ∷ xs) (y ∷ ys) t u j k h d e g f br =
      let e' = recut a b h.1 h.2 g.1 g.2 r c h.3 g.3 e in
      let o = (pi s).one h.1 g.1 (h.2 ++ r) (g.2 ++ c) x y h.4 g.4 e' in
      let h5 = subst (λ z. Run item next done (next s z) h.2 xs t) o.1 h.5 in
      run_excludes (next s y) h.2 r g.2 c xs ys t u j k h5 d (rest_is h.1 g.1 (h.2 ++ r) (g.2 ++ c) o.0 e') g.5 f br

  -- an item that is wanted and breaks
  abbrev Wanted : S → List ℕ → ℕ → ℕ → Type 0
  Wanted s bytes i m = (done s ≡ false) × (item s).breaks bytes i m

  wanted_once : (s : S) → IsOnce (Wanted s)
  wanted_once s bytes i j m n h k = (pi s).once bytes i j m n h.1 k.1

  wanted_not : (s : S) (a r : List ℕ) (x : X) (i m : ℕ) → (item s).text a x → Wanted s (a ++ r) i m → ⊥
  wanted_not s a r x i m t w = (pi s).excludes a r x i m t w.1

  pub repeated_proper : (s : S) → Proper (repeated item next done s)
  repeated_proper s = record {
    one = λ a b r q xs ys h k e. run_one s a b r q xs ys h.0 k.0 h.1 h.2 k.1 k.2 e;
    excludes = λ a r xs i k h b. run_excludes s a r b.1 b.2 xs b.0 h.0 b.3 b.4 k h.1 h.2 b.5 b.6 b.7 b.9;
    once = λ bytes i j m n h k.
        let w = run_once item next done Wanted pi wanted_once wanted_not s h.3 k.3 h.1 h.2 k.1 k.2 h.0 k.0 h.4 k.4 m n (sym h.5 ∙ k.5) h.6 (h.7, h.9) k.6 (k.7, k.9) in
        (h.8 ∙ w.0 ∙ sym k.8, w.1);
  }

unsigned_one : (bits : ℕ) (a b r s : List ℕ) (m n : ℕ) → IsUnsigned bits a m → IsUnsigned bits b n → a ++ r ≡ b ++ s → (a ≡ b) × (m ≡ n)
unsigned_one bits [] b r s m n h k e = absurd h
unsigned_one bits (x ∷ a) [] r s m n h k e = absurd k
unsigned_one bits (x ∷ []) (y ∷ []) r s m n h k e =
    let q : x ≡ y = ap (head_of 0) e in (ap (λ z. z ∷ []) q, h.2 ∙ q ∙ sym k.2)
unsigned_one bits (x ∷ []) (y ∷ z ∷ b) r s m n h k e =
    let q : x ≡ y = ap (head_of 0) e in absurd (omega (arith, h.0, k.0))
unsigned_one bits (x ∷ w ∷ a) (y ∷ []) r s m n h k e =
    let q : x ≡ y = ap (head_of 0) e in absurd (omega (arith, h.0, k.0))
unsigned_one bits (x ∷ w ∷ a) (y ∷ z ∷ b) r s m n h k e =
    let q : x ≡ y = ap (head_of 0) e in
    let t = unsigned_one (bits - 7) (w ∷ a) (z ∷ b) r s h.2 k.2 h.4 k.4 (ap tail_of e) in
    let c : y ∷ w ∷ a ≡ y ∷ z ∷ b = ap (λ (l : List ℕ). y ∷ l) t.0 in
    (ap (λ v. v ∷ w ∷ a) q ∙ c, omega (arith, q, h.3, k.3, t.1))

-- a byte of an allowed number is not faulty
last_fine : (bits least greatest rule b k : ℕ) → b < 128 → b < 2 ^ bits → least ≤ b → b ≤ greatest → ByteIsFaulty bits least greatest rule b k → ⊥
last_fine bits least greatest rule b k h1 h2 h3 h4 f =
    ⊎_elim (λ p. omega (arith, p.1, h2)) (λ q. ⊎_elim (λ p. omega (arith, p.0, h1)) (λ q'. ⊎_elim (λ p. ⊎_elim (λ z. omega (arith, z, h3)) (λ z. omega (arith, z, h4)) p.2) (λ p. omega (arith, p.0, h1)) q') q) f

more_fine : (bits least greatest rule b high n k : ℕ) → 128 ≤ b → 7 < bits → n ≡ b - 128 + 128 * high → least ≤ n → n ≤ greatest → ByteIsFaulty bits least greatest rule b k → ⊥
more_fine bits least greatest rule b high n k h1 h2 e l g f =
    let w = high_allowed least greatest (b - 128) high n e l g in
    going_fine bits least greatest rule b k h1 h2 (omega (arith, e, g), omega (arith, w.0, w.1)) f

unsigned_excludes : (bits least greatest rule : ℕ) (a r : List ℕ) (n i k : ℕ) → IsUnsigned bits a n → least ≤ n → n ≤ greatest → BreaksUnsigned bits least greatest rule (a ++ r) i k → ⊥
unsigned_excludes bits least greatest rule [] r n i k h l g b = h
unsigned_excludes bits least greatest rule (x ∷ []) r n zero k h l g b = last_fine bits least greatest rule x k h.0 h.1 (omega (arith, h.2)) (omega (arith, h.2)) b
unsigned_excludes bits least greatest rule (x ∷ []) r n (suc i) k h l g b = omega (arith, h.0, b.0)
unsigned_excludes bits least greatest rule (x ∷ y ∷ a) r n zero k h l g b = more_fine bits least greatest rule x h.2 n k h.0 h.1 (omega (arith, h.0, h.3)) l g b
unsigned_excludes bits least greatest rule (x ∷ y ∷ a) r n (suc i) k h l g b =
    let w = high_allowed least greatest (x - 128) h.2 n (omega (arith, h.0, h.3)) l g in
    unsigned_excludes (bits - 7) (high_least least (x - 128)) (high_greatest greatest (x - 128)) rule (y ∷ a) r h.2 i k h.4 w.0 w.1 b.3

pub unsigned_proper : (bits least greatest rule : ℕ) → Proper (unsigned bits least greatest rule)
unsigned_proper bits least greatest rule = record {
  one = λ a b r s x y h k e. unsigned_one bits a b r s x y h.0 k.0 e;
  excludes = λ a r x i k h b. unsigned_excludes bits least greatest rule a r x i k h.0 h.1 h.2 b;
  once = unsigned_once bits least greatest rule;
}

signed_one : (bits : ℕ) (a b r s : List ℕ) (m n : ℕ) → IsSigned bits a m → IsSigned bits b n → a ++ r ≡ b ++ s → (a ≡ b) × (m ≡ n)
signed_one bits [] b r s m n h k e = absurd h
signed_one bits (x ∷ a) [] r s m n h k e = absurd k
signed_one bits (x ∷ []) (y ∷ []) r s m n h k e =
    let q : x ≡ y = ap (head_of 0) e in
    (ap (λ z. z ∷ []) q, ⊎_elim (λ p. ⊎_elim (λ p'. omega (arith, p.2, p'.2, q)) (λ p'. absurd (omega (arith, p.0, p'.0, q))) k) (λ p. ⊎_elim (λ p'. absurd (omega (arith, p.0, p'.0, q))) (λ p'. omega (arith, p.3, p'.3, q)) k) h)
signed_one bits (x ∷ []) (y ∷ z ∷ b) r s m n h k e =
    let q : x ≡ y = ap (head_of 0) e in absurd (⊎_elim (λ p. omega (arith, p.0, k.0, q)) (λ p. omega (arith, p.1, k.0, q)) h)
signed_one bits (x ∷ w ∷ a) (y ∷ []) r s m n h k e =
    let q : x ≡ y = ap (head_of 0) e in absurd (⊎_elim (λ p. omega (arith, p.0, h.0, q)) (λ p. omega (arith, p.1, h.0, q)) k)
signed_one bits (x ∷ w ∷ a) (y ∷ z ∷ b) r s m n h k e =
    let q : x ≡ y = ap (head_of 0) e in
    let t = signed_one (bits - 7) (w ∷ a) (z ∷ b) r s h.2 k.2 h.4 k.4 (ap tail_of e) in
    let c : y ∷ w ∷ a ≡ y ∷ z ∷ b = ap (λ (l : List ℕ). y ∷ l) t.0 in
    (ap (λ v. v ∷ w ∷ a) q ∙ c, omega (arith, q, h.3, k.3, t.1))

signed_last_fine : (bits b n : ℕ) → IsSigned bits (b ∷ []) n → (128 ≤ b) × (bits ≤ 7) ⊎ IsUnlikeSign bits b → ⊥
signed_last_fine bits b n h f =
    ⊎_elim
    (λ p. ⊎_elim (λ q. omega (arith, p.0, q.0)) (λ q. ⊎_elim (λ z. omega (arith, p.1, z.1)) (λ z. omega (arith, p.0, z.0)) q) f)
    (λ p. ⊎_elim (λ q. omega (arith, p.1, q.0)) (λ q. ⊎_elim (λ z. omega (arith, p.0, z.0)) (λ z. omega (arith, p.2, z.2)) q) f)
    h

signed_excludes : (bits : ℕ) (a r : List ℕ) (n i k : ℕ) → IsSigned bits a n → BreaksSigned bits (a ++ r) i k → ⊥
signed_excludes bits [] r n i k h b = h
signed_excludes bits (x ∷ []) r n zero k h b = signed_last_fine bits x n h b.1
signed_excludes bits (x ∷ []) r n (suc i) k h b = ⊎_elim (λ p. omega (arith, p.0, b.0)) (λ p. omega (arith, p.1, b.0)) h
signed_excludes bits (x ∷ y ∷ a) r n zero k h b =
    ⊎_elim (λ q. omega (arith, q.1, h.1)) (λ q. ⊎_elim (λ z. omega (arith, z.0, h.0)) (λ z. omega (arith, z.1, h.0)) q) b.1
signed_excludes bits (x ∷ y ∷ a) r n (suc i) k h b = signed_excludes (bits - 7) (y ∷ a) r h.2 i k h.4 b.2

pub signed_proper : (bits : ℕ) → Proper (signed bits)
signed_proper bits = record { one = signed_one bits; excludes = signed_excludes bits; once = signed_once bits }

pub items_proper : {X : Type 0} (p : Form X) (n : ℕ) → Proper p → Proper (items p n)
items_proper p n h = repeated_proper (λ (left : ℕ). p) (λ left x. left - 1) is_zero (λ s. h) n

pub vec_proper : {X : Type 0} (p : Form X) → Proper p → Proper (vec p)
vec_proper p h = then_proper u32 (items p) (unsigned_proper 32 0 4294967295 WasmLeb) (λ n. items_proper p n h)

pub vec_to_proper : {X : Type 0} (greatest : ℕ) (p : Form X) → Proper p → Proper (vec_to greatest p)
vec_to_proper greatest p h = then_proper (at_most greatest) (items p) (unsigned_proper 32 0 greatest WasmLimit) (λ n. items_proper p n h)

pub choose_proper : {X : Type 0} (b : Bool) (p q : Form X) → Proper p → Proper q → Proper (choose b p q)
choose_proper true p q h k = h
choose_proper false p q h k = k

module _ {X : Type 0} (wanted : Bool) (p : Form X) (pp : Proper p) where
  abbrev Complete : ℕ → List ℕ → ℕ → ℕ → Type 0
  Complete size bytes i number = (a b : List ℕ) × (x : X) × (take size bytes ≡ a ++ b) × p.text a x × (length a < size) × (i ≡ length a) × (number ≡ short_number wanted b)

  not_complete : (size : ℕ) (bytes : List ℕ) (i j m n : ℕ) → p.breaks (take size bytes) i m → Complete size bytes j n → ⊥
  not_complete size bytes i j m n u v = pp.excludes v.0 v.1 v.2 i m v.4 (subst (λ (z : List ℕ). p.breaks z i m) v.3 u)

  complete_once : (size : ℕ) → IsOnce (Complete size)
  complete_once size bytes i j m n u v =
      let e : u.0 ++ u.1 ≡ v.0 ++ v.1 = sym u.3 ∙ v.3 in
      let o = pp.one u.0 v.0 u.1 v.1 u.2 v.2 u.4 v.4 e in
      (u.6 ∙ ap length o.0 ∙ sym v.6, u.7 ∙ ap (short_number wanted) (rest_is u.0 v.0 u.1 v.1 o.0 e) ∙ sym v.7)

  content_once : (size : ℕ) → IsOnce (ContentBreaks wanted p size)
  content_once size bytes i j m n h k =
      ⊎_elim
      (λ u. ⊎_elim (λ v. pp.once (take size bytes) i j m n u v) (λ v. absurd (not_complete size bytes i j m n u v)) k)
      (λ u. ⊎_elim (λ v. absurd (not_complete size bytes j i n m v u)) (λ v. complete_once size bytes i j m n u v) k)
      h

  pub sized_proper : Proper (sized wanted p)
  sized_proper = record {
    one = λ a b r s x y h k e.
        let e' = recut a b h.0 h.1 k.0 k.1 r s h.2 k.2 e in
        let f = unsigned_one 32 h.0 k.0 (h.1 ++ r) (k.1 ++ s) (length h.1) (length k.1) h.3.0 k.3.0 e' in
        let t = pp.one h.1 k.1 r s x y h.4 k.4 (rest_is h.0 k.0 (h.1 ++ r) (k.1 ++ s) f.0 e') in
        (whole_is a b h.0 h.1 k.0 k.1 h.2 k.2 f.0 t.0, t.1);
    excludes = λ a r x i k h b.
        let e : a ++ r ≡ h.0 ++ (h.1 ++ r) = ap (λ (z : List ℕ). z ++ r) h.2 ∙ append_assoc h.0 h.1 r in
        ⊎_elim
        (λ f. (unsigned_proper 32 0 4294967295 WasmLeb).excludes h.0 (h.1 ++ r) (length h.1) i k h.3 (subst (λ (z : List ℕ). u32.breaks z i k) e f))
        (λ f.
        let e' : f.0 ++ f.1 ≡ h.0 ++ (h.1 ++ r) = sym f.4 ∙ e in
        let q = unsigned_one 32 f.0 h.0 f.1 (h.1 ++ r) f.2 (length h.1) f.5.0 h.3.0 e' in
        let w : take f.2 f.1 ≡ h.1 = ap (λ (z : List ℕ). take f.2 z) (rest_is f.0 h.0 f.1 (h.1 ++ r) q.0 e') ∙ ap (λ (n : ℕ). take n (h.1 ++ r)) q.1 ∙ take_front h.1 r in
        ⊎_elim
        (λ g. pp.excludes h.1 [] x f.3 k h.4 (subst (λ (z : List ℕ). p.breaks z f.3 k) (w ∙ sym (append-nil h.1)) g))
        (λ g.
        let v : g.0 ++ g.1 ≡ h.1 ++ [] = sym g.3 ∙ w ∙ sym (append-nil h.1) in
        let o = pp.one g.0 h.1 g.1 [] g.2 x g.4 h.4 v in
        omega (arith, ap length o.0, g.5, q.1))
        f.7)
        b;
    once = then_once u32 (ContentBreaks wanted p) (unsigned_proper 32 0 4294967295 WasmLeb) content_once;
  }

bytes_excludes : (n : ℕ) (a r xs : List ℕ) (i k : ℕ) → (bytes_of_length n).text a xs → (bytes_of_length n).breaks (a ++ r) i k → ⊥
bytes_excludes n a r xs i k h b = omega (arith, ap length h.0, h.1, b.0, length-append a r)

pub bytes_proper : (n : ℕ) → Proper (bytes_of_length n)
bytes_proper n = record {
  one = λ a b r s x y h k e.
      let q = same_length a b r s (omega (arith, ap length h.0, ap length k.0, h.1, k.1)) e in
      (q, sym h.0 ∙ q ∙ k.0);
  excludes = bytes_excludes n;
  once = λ bytes i j m n h k. (h.1 ∙ sym k.1, h.2 ∙ sym k.2);
}

pub byte_vec_proper : Proper byte_vec
byte_vec_proper = then_proper u32 bytes_of_length (unsigned_proper 32 0 4294967295 WasmLeb) bytes_proper
